-- The location's own rules lie within the file, and the first of them that fires decides.
use Rattle.std.proofs.Common.{◌≡◌, List, ℕ, ◌+◌, ◌-◌, ◌*◌, ◌≤◌, sym, ap, length, arith, length-take, length-drop, mul-le-mul_right}
use Rattle.policy.specs.Rules.{Place}
use Rattle.policy.specs.File.{rule_size}
use Rattle.policy.specs.declared.Layout.{Layout}
use Rattle.stepping.specs.Ready.{Laid, HereOf}
use Rattle.stepping.specs.Laid.{laid_limits, own_fits, own_located, here_seen}
use Rattle.stepping.specs.Decider.{decider_lt}
use Rattle.stepping.specs.declared.here.Here.{Here}
use Rattle.stepping.proofs.DecidedLaws.{decided_none, decided_rule}
use Rattle.stepping.proofs.here.rule_of.Goals as goal

-- The location's own rules lie within the file.
fits : {f : List ℕ} {l : Layout} {h : Here} → Laid f l × HereOf f l h →
    (l.rules_start + h.own.start + h.own.count * (7 + 4 * l.clocks) ≤ length f) × (h.own.count ≤ 256) × (l.clocks ≤ 4)
fits {h = h} k = omega (arith, own_fits k.0 h.state.location k.1.own, laid_limits k.0)

-- As many bytes as they take are read.
read : (from size : ℕ) → from + size - from ≡ size
read from size = omega arith

pub overflow_add-from : goal.overflow_add-from
overflow_add-from c = omega (arith, fits c.requires)

pub overflow_mul-to : goal.overflow_mul-to
overflow_mul-to c = omega (arith, fits c.requires)

pub overflow_add-to : goal.overflow_add-to
overflow_add-to c = omega (arith, fits c.requires)

pub slice_bounds-first_rule-end : goal.slice_bounds-first_rule-end
slice_bounds-first_rule-end c = omega (arith, fits c.requires)

pub first_rule-requires-clause-count_bound : goal.first_rule-requires-clause-count_bound
first_rule-requires-clause-count_bound c = simp (length-take, length-drop) (omega (arith, fits c.requires))

pub first_rule-requires-clause-each : goal.first_rule-requires-clause-each
first_rule-requires-clause-each c =
    let location = ap (λ (z : Place). z.location) (here_seen c.requires.0 c.requires.1) in
    rw (read, location) (own_located c.requires.0 c.args.here.state.location c.requires.1.own)

pub returns-in_err-number : goal.returns-in_err-number
returns-in_err-number c =
    rw c.from_residual.ensures (decided_none c.requires.0 _ c.requires.1 (rw read at c.in_err-number.ensures))

-- The rule found stands within the file too, since its number is below that of the rules.
pub overflow_mul-result : goal.overflow_mul-result
overflow_mul-result c =
    let few = decider_lt _ _ _ _ _ _ _ (sym c.in_ok-number.ensures) in
    omega (arith, fits c.requires, mul-le-mul_right (rule_size c.args.layout.clocks) few)

pub overflow_add-result : goal.overflow_add-result
overflow_add-result c =
    let few = decider_lt _ _ _ _ _ _ _ (sym c.in_ok-number.ensures) in
    omega (arith, fits c.requires, mul-le-mul_right (rule_size c.args.layout.clocks) few)

pub returns : goal.returns
returns c = decided_rule c.requires.0 _ c.requires.1 _ (rw read at c.in_ok-number.ensures)
