use Rattle.std.proofs.Common.{inl, inr, arith}
use Rattle.policy.specs.CheckLaws.{a_reading, no_reading}
use Rattle.frames.proofs.check_input.Goals as goal

pub returns-then-reading-lt1 : goal.returns-then-reading-lt1
returns-then-reading-lt1 c = rw (no_reading c.args.reading (elim c.then-reading-lt1.either [ inl x ↦ inl x | inr x ↦ inr x.1 ]))

pub returns : goal.returns
returns c = rw (a_reading c.args.reading (omega arith) (omega arith)) c.check_count.ensures
