-- `explaining::tell::decided` meets its contract: the location's own rules lie within the file, and the first of them that fires decides.
use mathlib.Core.Path.{◌≡◌, ap, ap₂, ◌∙◌}
use mathlib.Core.List.{List}
use Prim.Native.Nat.{◌+◌, ◌-◌, ◌*◌, ◌≤◌}
use native.Mathlib.Omega.{arith}
use lib.ListN.{length, length-take, length-drop}
use Rattle.policy.specs.Rules.{Rule, Place}
use Rattle.policy.specs.Parts.{rules_part}
use Rattle.stepping.specs.Code.{event_xy, decider}
use Rattle.stepping.specs.Laid.{laid_limits, own_fits, own_located, here_seen}
use borrow.Author.Rules.{rules}
use Rattle.explaining.proofs.tell.decided.Statement.{statement}
use Rattle.explaining.proofs.tell.decided.Tie as tie

-- The location's own rules lie within the file.
fits : (c : tie.After-struct_known-2-1) →
    let a = c.args in
    (a.layout.rules_start + a.here.own.start + a.here.own.count * (7 + 4 * a.layout.clocks) ≤ length a.file.now)
    × (a.here.own.count ≤ 256) × (a.layout.clocks ≤ 4)
fits c =
    omega (arith, own_fits c.requires.0 c.args.here.state.location c.requires.1.own, laid_limits c.requires.0)

-- The state that bounds see is at the same location.
location : (s : tie.Start) → s.args.here.seen.location ≡ s.args.here.state.location
location s = ap (λ (z : Place). z.location) (here_seen s.requires.0 s.requires.1)

add-from : tie.Need-overflow_add-from
add-from c = omega (arith, fits c)

mul-to : tie.Need-overflow_mul-to
mul-to c = omega (arith, fits c)

add-to : tie.Need-overflow_add-to
add-to c = omega (arith, fits c)

mul-to-2 : tie.Need-overflow_mul-to-2
mul-to-2 c = omega (arith, fits c.before)

add-to-2 : tie.Need-overflow_add-to-2
add-to-2 c = omega (arith, fits c.before)

part-first-rule-end : tie.Need-slice_bounds-first_rule-end
part-first-rule-end c = omega (arith, fits c.before)

first-rule-requires : tie.Need-first_rule-requires
first-rule-requires c κs =
    let a = c.args in
    let size = a.here.own.count * (7 + 4 * a.layout.clocks) in
    let from = a.layout.rules_start + a.here.own.start in
    let n : from + size - from ≡ size = omega arith in (
      simp (length-take, length-drop) (omega (arith, fits c.before.before)),
      rw (n, location c.before.before.before.before.before.before) (own_located c.requires.0 a.here.state.location c.requires.1.own),
    )

returns : tie.Need-returns
returns c =
    let a = c.args in
    let from = a.layout.rules_start + a.here.own.start in
    let size = a.here.own.count * (7 + 4 * a.layout.clocks) in
    let n : from + size - from ≡ size = omega arith in
    rw n at c.first_rule.ensures
    ∙ ap₂ (λ (rs : List Rule) (v : Place). decider rs v (event_xy a.x a.y)) (rules_part a.file.now a.layout.clocks from a.here.own.count) (here_seen c.requires.0 c.requires.1)

pub decided_spec : {M : Type 1} → statement M
decided_spec = tie.close (tie.spec add-from mul-to add-to mul-to-2 add-to-2 (λ c. search rules) (λ c. search rules) part-first-rule-end first-rule-requires returns)
