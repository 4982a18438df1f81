use Rattle.std.proofs.Common.{◌≡◌, ◌-◌, length, take, arith, sym}
use Rattle.std.proofs.Math.Seq.{length-take-le}
use Rattle.policy.specs.File.{part, bounds_from, rule_from}
use Rattle.policy.specs.Check.{rule_refusal}
use Rattle.policy.specs.Parts.{bounds_part}
use Rattle.policy.proofs.rules.check_rule.Goals as goal
use Rattle.policy.proofs.rules.check_rule.Goals.{Start}

-- There is a ceiling for each clock.
clocks : (c : Start) → length (take c.args.shape.now.clocks c.args.shape.now.ceilings) ≡ c.args.shape.now.clocks
clocks c = length-take-le c.args.shape.now.clocks c.args.shape.now.ceilings (omega arith)

-- What is read behind the head is the rule's bounds.
bounds : (c : Start) →
    bounds_from (part c.args.rule.now 7 (length c.args.rule.now - 7)) 0 (length (take c.args.shape.now.clocks c.args.shape.now.ceilings))
    ≡ bounds_from c.args.rule.now 7 c.args.shape.now.clocks
bounds c = rw (clocks c) (bounds_part c.args.rule.now 7 (length c.args.rule.now - 7) 0 7 c.args.shape.now.clocks (omega arith) (omega arith))

pub returns-then-not-head_good : goal.returns-then-not-head_good
unfolding rule_refusal
returns-then-not-head_good c = simp (clocks (goal.at.returns-then-not-head_good c).Start, sym c.if-not-head_good.ensures)

pub returns-then-not-bounds_good : goal.returns-then-not-bounds_good
unfolding rule_refusal rule_from
returns-then-not-bounds_good c =
    let s = (goal.at.returns-then-not-bounds_good c).Start in
    let bad = rw (bounds s) at c.if-not-bounds_good.ensures in
    simp (clocks s, sym c.if-not-head_good.ensures, sym bad)

pub returns : goal.returns
unfolding rule_refusal rule_from
returns c =
    let s = (goal.at.returns c).Start in
    let good = rw (bounds s) at c.if-not-bounds_good.ensures in
    simp (clocks s, sym c.if-not-head_good.ensures, sym good)
