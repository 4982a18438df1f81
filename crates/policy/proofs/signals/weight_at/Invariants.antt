use Rattle.std.proofs.Common.{◌≡◌, ◌*◌, ◌^◌, drop}
use Rattle.policy.specs.Signals.{weight_of, tags_at}
use Rattle.policy.proofs.signals.weight_at.Given as goal

-- The weight of the signal at i is 2 ^ i, and so many times the weight among the tags from i on is the weight among all.
abbrev pub invariant-loop-i : goal.invariant-loop-i
invariant-loop-i l = 2 ^ l.i * weight_of l.tag (drop l.i (tags_at l.file l.at)) ≡ weight_of l.tag (tags_at l.file l.at)
