-- The values asked for are the first `i` of `next`, then those that `rest` gives from the clock `i` on.
use Rattle.std.proofs.Common.{◌≡◌, length}
use Rattle.policy.specs.Rules.{stopped, advance}
use Rattle.stepping.proofs.Laws.{advance_with}
use Rattle.stepping.proofs.next.advanced.Given as goal

abbrev pub invariant-loop-i : goal.invariant-loop-i
invariant-loop-i l = (length l.next ≡ 4) × (advance stopped l.mask l.ceilings l.fn.values ≡ advance_with l.ceilings l.fn.values l.i l.rest l.next)
