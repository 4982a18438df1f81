use Rattle.std.proofs.Common.{◌≡◌, ◌++◌, take, drop}
use Rattle.policy.specs.Check.{tags_good}
use Rattle.policy.proofs.sections.tags_good.Given as goal

-- The tags from i on, after those before them, are good exactly if all are.
abbrev pub invariant-loop-i : goal.invariant-loop-i
invariant-loop-i l = tags_good (l.before ++ take l.i l.tags) (drop l.i l.tags) ≡ tags_good l.before l.tags
