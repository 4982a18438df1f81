-- The rule that a turn reads is the location's, and so are all after it.
use Rattle.std.proofs.Common.{◌≡◌, ◌+◌, ◌-◌, ◌*◌, ◌≤◌, ◌<◌, List, ℕ, suc, sym, ◌∙◌, arith, mul-le-mul_right}
use Rattle.std.proofs.Math.Nat.{mul-le-mul_left}
use Rattle.policy.specs.File.{byte_at, rule_size, rule_from, rules_from}
use Rattle.policy.specs.Sound.{Each}
use Rattle.policy.specs.Own.{each_next}
use Rattle.stepping.proofs.RuleLaws.{decider_start, decider_here, decider_turn, decider_end}
use Rattle.stepping.proofs.matcher.first_rule.Goals as goal

-- The next rule's source, and the rules after it.
next : (clocks : ℕ) (f : List ℕ) (at number count a : ℕ) → number < count → Each (λ r. r.source ≡ a) (rules_from clocks f at (count - number)) →
    (byte_at f at ≡ a) × Each (λ r. r.source ≡ a) (rules_from clocks f (at + rule_size clocks) (count - (number + 1)))
unfolding rule_from
next clocks f at number count a l k = each_next clocks f at number count l k

pub loop-number-init : goal.loop-number-init
loop-number-init c =
    let d : c.args.count - 0 ≡ c.args.count = omega arith in
    (omega arith, rw d c.requires.each, decider_start _ _ _ _ _ _)

pub rule_fires-requires : goal.rule_fires-requires
rule_fires-requires c =
    let a = c.args in
    let l = c.loop-number in
    let end : suc l.number * rule_size a.clocks ≤ a.count * rule_size a.clocks = mul-le-mul_right (rule_size a.clocks) c.loop-number-test.true in
    let here = next a.clocks a.rules.now l.at l.number a.count a.state.location c.loop-number-test.true l.invariant.1 in
    let low : l.number * rule_size a.clocks ≤ l.number * 23 = mul-le-mul_left l.number (omega arith) in
    (omega (arith, low), omega arith, omega (arith, end), here.0)

pub returns-then-rule_fires : goal.returns-then-rule_fires
returns-then-rule_fires c =
    sym (c.loop-number.invariant.2 ∙ decider_here _ _ _ _ _ _ _ c.loop-number-test.true (sym c.rule_fires.ensures ∙ c.if-rule_fires.true))

pub loop-number-preserved : goal.loop-number-preserved
loop-number-preserved c =
    let a = c.args in
    let l = c.loop-number in
    let here = next a.clocks a.rules.now l.at l.number a.count a.state.location c.loop-number-test.true l.invariant.1 in (
      omega arith,
      here.1,
      l.invariant.2 ∙ decider_turn _ _ _ _ a.count l.at l.number c.loop-number-test.true (sym c.rule_fires.ensures ∙ c.if-rule_fires.false),
    )

pub returns : goal.returns
returns c = sym (c.loop-number.invariant.2 ∙ decider_end _ _ _ _ _ _ _ c.loop-number-test.false)
