use Rattle.policy.proofs.RuleLaws.{bounds_turn, bounds_end}
use Rattle.policy.proofs.rules.bounds_good.Goals as goal

pub returns-then-not-bound_good : goal.returns-then-not-bound_good
returns-then-not-bound_good c =
    rw (
      ← c.loop-i.invariant,
      bounds_turn _ _ _ c.loop-i-test.true,
      ← c.pair_within-low.ensures.0,
      ← c.pair_within-high.ensures.0,
      ← c.if-not-bound_good.ensures,
    )

pub loop-i-preserved : goal.loop-i-preserved
loop-i-preserved c =
    rw (
      ← c.loop-i.invariant,
      bounds_turn _ _ _ c.loop-i-test.true,
      ← c.pair_within-low.ensures.0,
      ← c.pair_within-high.ensures.0,
      ← c.if-not-bound_good.ensures,
    )

pub returns : goal.returns
returns c = rw (← c.loop-i.invariant, bounds_end _ _ _ c.loop-i-test.false)
