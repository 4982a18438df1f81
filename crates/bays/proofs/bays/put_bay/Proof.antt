-- `bays::bays::put_bay` meets its contract: the bay's five numbers alone are others.
use mathlib.Core.Path.{◌≡◌, ap₂}
use mathlib.Core.List.{List, ◌++◌}
use Prim.Native.Nat.{ℕ, ◌+◌, ◌*◌, ◌%◌, ◌≤◌}
use native.Mathlib.Omega.{arith}
use lib.ListN.{length, take}
use borrow.Rule.Slice.PartMut.{Post-is}
use Rattle.bays.specs.Parts.{fits}
use borrow.Author.Rules.{rules}
use Rattle.bays.proofs.bays.put_bay.Statement.{statement}
use Rattle.bays.proofs.bays.put_bay.Tie as tie

-- the bay's five numbers are in the list
there : (c : tie.After-slice_known-1) →
    let a = c.args in
    (a.bay * 5 + 5 ≤ length a.states.now) × (length a.states.now ≤ 40) × (length a.states.now % 5 ≡ 0)
there c = fits (length c.args.states.now) c.args.bay c.requires

mul-start : tie.Need-overflow_mul-start
mul-start c = omega (arith, there c)

add-end : tie.Need-overflow_add-end
add-end c = omega (arith, there c)

mul-put-state : tie.Need-offset_bounds-states-start
mul-put-state c = omega (arith, there c)

part-put-state-end : tie.Need-slice_bounds-put_state-end
part-put-state-end c = omega (arith, there c)

returns : tie.Need-returns
returns c =
    let a = c.args in
    let states = a.states.now in
    ap₂ (λ (ws rest : List ℕ). take (a.bay * 5) states ++ (ws ++ rest)) c.put_state.ensures
    (Post-is {X = ℕ} (a.bay * 5) (a.bay * 5 + 5) states (omega arith))

pub put_bay_spec : {M : Type 1} → statement M
put_bay_spec = tie.close (tie.spec mul-start add-end mul-put-state (λ c. search rules) (λ c. search rules) part-put-state-end (λ c κs. search rules) (λ c. search rules) returns)
