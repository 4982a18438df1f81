-- `bays::bays::bay_state` meets its contract.
use mathlib.Core.Path.{◌≡◌, ap, ◌∙◌}
use Prim.Native.Nat.{ℕ, ◌+◌, ◌-◌, ◌*◌, ◌%◌, ◌≤◌}
use native.Mathlib.Omega.{arith}
use lib.ListN.{length, take, drop}
use Rattle.stepping.specs.Five.{state_in}
use Rattle.bays.specs.Parts.{fits}
use borrow.Author.Rules.{rules}
use Rattle.bays.proofs.bays.bay_state.Statement.{statement}
use Rattle.bays.proofs.bays.bay_state.Tie as tie

-- the bay's five numbers are in the list
there : (c : tie.After-shared_slice_known-1) →
    let a = c.args in
    (a.bay * 5 + 5 ≤ length a.states.now) × (length a.states.now ≤ 40) × (length a.states.now % 5 ≡ 0)
there c = fits (length c.args.states.now) c.args.bay c.requires

mul-from : tie.Need-overflow_mul-from
mul-from c = omega (arith, there c)

add-to : tie.Need-overflow_add-to
add-to c = omega (arith, there c)

mul-state-of : tie.Need-offset_bounds-states-from
mul-state-of c = omega (arith, there c)

part-state-of-end : tie.Need-slice_bounds-state_of-end
part-state-of-end c = omega (arith, there c)

returns : tie.Need-returns
returns c =
    let a = c.args in
    let five : a.bay * 5 + 5 - a.bay * 5 ≡ 5 = omega arith in
    c.state_of.ensures ∙ ap (λ (n : ℕ). state_in (take n (drop (a.bay * 5) a.states.now))) five

pub bay_state_spec : {M : Type 1} → statement M
bay_state_spec = tie.close (tie.spec mul-from add-to mul-state-of (λ c. search rules) (λ c. search rules) part-state-of-end (λ c κs. search rules) returns)
