use Rattle.std.proofs.Common.{◌≡◌, ◌+◌, ◌-◌, ◌*◌}
use Rattle.policy.specs.File.{pairs_from}
use Rattle.policy.specs.Check.{all_pass, ceiling_good}
use Rattle.policy.proofs.sections.ceilings_good.Given as goal

-- The ceilings from i on are good exactly if all are.
abbrev pub invariant-loop-i : goal.invariant-loop-i
invariant-loop-i l = all_pass ceiling_good (pairs_from l.file (l.at + 2 * l.i) (l.n - l.i)) ≡ all_pass ceiling_good (pairs_from l.file l.at l.n)
