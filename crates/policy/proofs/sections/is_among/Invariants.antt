use Rattle.std.proofs.Common.{◌≡◌, drop}
use Rattle.policy.specs.Check.{among}
use Rattle.policy.proofs.sections.is_among.Given as goal

-- The tag is among the tags from i on exactly if it is among all.
abbrev pub invariant-loop-i : goal.invariant-loop-i
invariant-loop-i l = among l.t (drop l.i l.tags) ≡ among l.t l.tags
