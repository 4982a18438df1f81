use Rattle.phrases.specs.Ended.{bound_order, bound_low, bound_high, bound_none}
use Rattle.std.proofs.Common.{◌∙◌, lt-ltb}
use Rattle.phrases.proofs.ended.bound_good.Goals as goal
use Rattle.phrases.proofs.ended.bound_good.Goals.{then-high-low-via-then-high-low, then-high-low-via-else-high-low+then-ceiling-low}

pub returns-then-high-low : goal.returns-then-high-low
returns-then-high-low c =
    elim c.then-high-low.branch [
      | then-high-low-via-then-high-low w ↦ bound_order _ _ _ w.if-high-low.true
      | then-high-low-via-else-high-low+then-ceiling-low w ↦ bound_low _ _ _ w.if-high-low.false w.if-ceiling-low.true
    ]

pub returns-then-high-ceiling : goal.returns-then-high-ceiling
returns-then-high-ceiling c = lt-ltb _ _ c.if-high-ceiling.true ∙ bound_high _ _ _ c.if-high-low.false c.if-ceiling-low.false c.if-high-ceiling.true

pub returns-else-high-ceiling : goal.returns-else-high-ceiling
returns-else-high-ceiling c = bound_none _ _ _ c.if-high-low.false c.if-ceiling-low.false c.if-high-ceiling.false
