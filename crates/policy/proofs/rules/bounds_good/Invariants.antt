use Rattle.std.proofs.Common.{◌≡◌, length}
use Rattle.policy.specs.File.{bounds_from}
use Rattle.policy.specs.Check.{bounds_good}
use Rattle.policy.proofs.RuleLaws.{bounds_left}
use Rattle.policy.proofs.rules.bounds_good.Given as goal

-- The bounds from clock i on keep the rules exactly if all do.
abbrev pub invariant-loop-i : goal.invariant-loop-i
invariant-loop-i l = bounds_left l.bounds l.ceilings l.i ≡ bounds_good l.ceilings (bounds_from l.bounds 0 (length l.ceilings))
