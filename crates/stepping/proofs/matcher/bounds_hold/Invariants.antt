-- The bounds from the clock `i` on hold just where all do.
use Rattle.std.proofs.Common.{◌≡◌, ◌≤◌, take}
use Rattle.policy.specs.Rules.{hold}
use Rattle.policy.specs.File.{bounds_from}
use Rattle.stepping.proofs.RuleLaws.{hold_from}
use Rattle.stepping.proofs.matcher.bounds_hold.Given as goal

abbrev pub invariant-loop-i : goal.invariant-loop-i
invariant-loop-i l = (l.i ≤ l.clocks) × (hold (bounds_from l.rules l.at l.clocks) (take l.clocks l.fn.values) ≡ hold_from l.rules l.at l.clocks l.fn.values l.i)
