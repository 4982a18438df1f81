use Rattle.std.proofs.Common.{◌≡◌}
use Rattle.policy.specs.File.{pairs_from}
use Rattle.policy.specs.Number.{four}
use Rattle.policy.proofs.sections.ceilings_of.Given as goal

-- i ceilings, then 0.
abbrev pub invariant-loop-i : goal.invariant-loop-i
invariant-loop-i l = l.ceilings ≡ four (pairs_from l.file l.at l.i)
