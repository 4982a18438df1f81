-- `reasons::runs::explain_each` meets its contract: each turn explains one event more.
use Rattle.std.proofs.Common.{arith, ltb-true}
use Rattle.std.proofs.Math.Bool.{and-eq-true_iff}
use Rattle.policy.specs.Checked.{all_at}
use Rattle.stepping.specs.Laid.{laid_sections, standing_location}
use Rattle.reasons.specs.RunLaws.{walking_turn, walking_ends}
use Rattle.reasons.proofs.runs.explain_each.Goals as goal

pub own_at-own-requires : goal.own_at-own-requires
own_at-own-requires c =
    let k = c.loop-i.invariant.standing in
    (laid_sections k.laid, c.requires.as_prepared.3, standing_location k)

pub tell-told-requires : goal.tell-told-requires
tell-told-requires c =
    let good = (and-eq-true_iff _ _).0 (all_at _ _ c.requires.as_prepared.2 c.loop-i.i c.loop-i-test.true) in
    record {
      standing = (c.loop-i.invariant.standing, c.requires.as_prepared.0, c.loop-i.invariant.live);
      counts_of = (c.requires.as_prepared.1, ltb-true _ _ good.0, ltb-true _ _ good.1, c.own_at-own.ensures);
    }

pub both-requires : goal.both-requires
both-requires c = let t = c.tell-told.ensures.0 in (t.few_input, t.few_output)

pub loop-i-preserved : goal.loop-i-preserved
loop-i-preserved c =
    let t = c.tell-told.ensures in
    walking_turn c.loop-i.invariant c.requires.as_prepared.0 c.loop-i-test.true (omega (arith, c.loop-i.invariant.long, c.requires.walking.1)) t.0 c.both.ensures t.1

pub returns : goal.returns
returns c = walking_ends c.loop-i.invariant c.loop-i-test.false
