use Rattle.std.proofs.Common.{◌≡◌, ◌+◌, ◌*◌, arith, ap, ◌∙◌}
use Rattle.policy.specs.File.{rule_size}
use Rattle.policy.specs.Parts.{no_rule}
use Rattle.policy.specs.Own.{below, below_more, below_done}
use Rattle.policy.proofs.own.rules_below.Goals as goal

pub returns-then-location-byte_within : goal.returns-then-location-byte_within
returns-then-location-byte_within c =
    let a = c.args in
    omega (arith, c.loop-i.invariant, below_done a.clocks a.rules.now (a.at + c.loop-i.i * rule_size a.clocks) c.loop-i.i a.count c.loop-i-test.true a.location (omega (arith, c.byte_within.ensures.0)))

pub loop-i-preserved : goal.loop-i-preserved
loop-i-preserved c =
    let a = c.args in
    let next : a.at + (c.loop-i.i + 1) * rule_size a.clocks ≡ a.at + c.loop-i.i * rule_size a.clocks + rule_size a.clocks = omega arith in
    rw next (below_more a.clocks a.rules.now (a.at + c.loop-i.i * rule_size a.clocks) c.loop-i.i a.count c.loop-i-test.true a.location (omega (arith, c.byte_within.ensures.0))
    ∙ c.loop-i.invariant)

pub returns : goal.returns
unfolding below
returns c =
    let a = c.args in
    omega (arith, c.loop-i.invariant, ap (below a.location) (no_rule a.clocks a.rules.now (a.at + c.loop-i.i * rule_size a.clocks) a.count c.loop-i.i (omega arith)))
