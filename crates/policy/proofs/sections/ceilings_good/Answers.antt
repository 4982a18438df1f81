use Rattle.std.proofs.Common.{◌≡◌, true, false}
use Rattle.policy.specs.Check.{ceiling_good}
use Rattle.policy.proofs.Laws.{ranged, ceilings_turn, ceilings_end}
use Rattle.policy.proofs.sections.ceilings_good.Goals as goal

pub loop-i-preserved : goal.loop-i-preserved
loop-i-preserved c =
    let good : true ≡ ceiling_good c.pair_at-ceiling.result = ranged _ _ 1 1001 c.new.ensures.start c.new.ensures.end c.new.ensures.exhausted c.if-not-contains.ensures.value in
    rw (← c.loop-i.invariant, ceilings_turn _ _ _ _ _ c.loop-i-test.true, ← c.pair_at-ceiling.ensures.0, ← good)

pub returns-then-not-contains : goal.returns-then-not-contains
returns-then-not-contains c =
    let bad : false ≡ ceiling_good c.pair_at-ceiling.result = ranged _ _ 1 1001 c.new.ensures.start c.new.ensures.end c.new.ensures.exhausted c.if-not-contains.ensures.value in
    rw (← c.loop-i.invariant, ceilings_turn _ _ _ _ _ c.loop-i-test.true, ← c.pair_at-ceiling.ensures.0, ← bad)

pub returns : goal.returns
returns c = rw (← c.loop-i.invariant, ceilings_end _ _ _ _ _ c.loop-i-test.false)
