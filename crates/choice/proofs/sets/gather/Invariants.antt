-- The sets of the inputs passed have lost what agrees, and what is led of it is found.
use Rattle.std.proofs.Common.{List, ℕ, ◌-◌, get_or}
use Rattle.std.specs.Int.Bits.{bit_or}
use Rattle.choice.specs.Sets.{agreed}
use Rattle.choice.specs.After.{Walked, rest}
use Rattle.choice.proofs.sets.gather.Given as goal

-- What is found with z.
abbrev pub more : ℕ → ℕ → ℕ → List ℕ → List ℕ → ℕ → ℕ
more care value set left found z = bit_or (get_or found z 0) (agreed care value set z (get_or left z 0))

abbrev pub invariant-loop-x : goal.invariant-loop-x
invariant-loop-x l =
    Walked l.care l.value (rest l.care l.value l.set l.initial.left) l.inputs l.initial.left l.x l.left
    × Walked l.care l.value (more l.care l.value l.led l.initial.left l.initial.found) l.inputs l.initial.found l.x l.found

abbrev pub decreases-loop-x : goal.decreases-loop-x
decreases-loop-x l = l.inputs - l.x
