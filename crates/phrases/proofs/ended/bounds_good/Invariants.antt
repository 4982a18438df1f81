-- The bounds from clock i on decide.
use Rattle.std.proofs.Common.{◌≡◌, take}
use Rattle.policy.specs.Check.{bounds_good}
use Rattle.conditions.specs.Steps.{bounds_of}
use Rattle.phrases.specs.Ended.{good_from}
use Rattle.phrases.proofs.ended.bounds_good.Given as goal

abbrev pub invariant-loop-i : goal.invariant-loop-i
invariant-loop-i l = good_from l.ceilings l.low l.high l.clocks l.i ≡ bounds_good (take l.clocks l.ceilings) (bounds_of l.clocks l.low l.high)
