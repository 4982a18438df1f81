-- A bit is put in for each set, from the last to the first.
use Rattle.std.proofs.Common.{◌≡◌, refl, not, ℕ, zero, suc, ◌<◌, eqb, ltb, arith, lt-ltb, rules}
use borrow.Author.Tests.{ne_eqb}
use mir.Val.{bool_byte}
use Rattle.choice.specs.Filled.{filled_none, filled_more}
use Rattle.choice.proofs.chooser.standing.Goals as goal

-- The bit of a set is 1 exactly if the set is not empty.
bit : (set : ℕ) → (bool_byte (not (eqb set 0)) < 2) × (eqb (bool_byte (not (eqb set 0))) 1 ≡ ltb 0 set)
bit zero = (omega arith, refl)
bit (suc n) =
    let some : suc n ≡ 0 → ⊥ = omega arith in
    rw (ne_eqb (suc n) 0 some) (omega arith, rw (lt-ltb 0 (suc n) (omega arith)))

pub loop-x-init : goal.loop-x-init
loop-x-init c = filled_none _ (search rules)

pub loop-x-preserved : goal.loop-x-preserved
loop-x-preserved c = filled_more c.loop-x.invariant (omega arith) (omega arith) (rw c.from.ensures (bit _))
