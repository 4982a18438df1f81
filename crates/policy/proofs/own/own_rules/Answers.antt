use Rattle.std.proofs.Common.{◌≡◌, ℕ, ◌+◌, ◌-◌, ◌*◌, ◌≤◌, sym, ap, ◌∙◌, arith, drop}
use Rattle.std.proofs.Math.Nat.{add-mul, mul-le-mul}
use Rattle.policy.specs.File.{rule_size, rules_from}
use Rattle.policy.specs.Frame.{rules_length}
use Rattle.policy.specs.Parts.{rules_drop}
use Rattle.policy.specs.Own.{below, below_le}
use Rattle.policy.proofs.own.own_rules.Goals as goal
use Rattle.policy.proofs.own.own_rules.Goals.{After-rules_below-first}

-- No more rules are passed than there are, so they end within the section.
passed : (c : After-rules_below-first) → (c.rules_below-first.result ≤ c.args.count) × (c.rules_below-first.result * (7 + 4 * c.args.clocks) ≤ 256 * 23)
passed c =
    let a = c.args in
    let few : c.rules_below-first.result ≤ a.count =
    omega (arith, below_le a.location (rules_from a.clocks a.rules.now 0 a.count), rules_length a.clocks a.rules.now 0 a.count)
    in
    let most : c.rules_below-first.result ≤ 256 = omega arith in
    let size : 7 + 4 * a.clocks ≤ 23 = omega arith in
    (few, mul-le-mul most size)

pub overflow_mul-start-2 : goal.overflow_mul-start-2
overflow_mul-start-2 c = omega (arith, passed (goal.at.overflow_mul-start-2 c).After-rules_below-first)

pub overflow_sub-count : goal.overflow_sub-count
overflow_sub-count c = (passed (goal.at.overflow_sub-count c).After-rules_below-first).0

pub rules_below-requires : goal.rules_below-requires
rules_below-requires c =
    let a = c.args in
    let n = c.rules_below-first.result in
    let p = passed (goal.at.rules_below-requires c).After-rules_below-first in
    let all : n + (a.count - n) ≡ a.count = omega (arith, p) in
    omega (arith, p, rw all at (add-mul n (a.count - n) (rule_size a.clocks)))

pub returns : goal.returns
returns c =
    let a = c.args in
    let rs = rules_from a.clocks a.rules.now 0 a.count in
    let n = c.rules_below-first.result in
    let first : n ≡ below a.location rs = c.rules_below-first.ensures in
    let rest : rules_from a.clocks a.rules.now (n * rule_size a.clocks) (a.count - n) ≡ drop n rs =
    sym (rules_drop a.clocks a.rules.now 0 n a.count (passed (goal.at.returns c).After-rules_below-first).0 ∙ ap (λ (z : ℕ). rules_from a.clocks a.rules.now z (a.count - n)) (omega arith))
    in
    let count = c.rules_below.ensures ∙ ap (below (a.location + 1)) rest ∙ ap (λ (z : ℕ). below (a.location + 1) (drop z rs)) first in
    λ i. record { start = first i * rule_size a.clocks; count = count i }
