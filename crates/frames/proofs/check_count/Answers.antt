-- Each return rewrites with the tests that led there.
use Rattle.std.proofs.Common.{le-leb}
use Rattle.std.proofs.lemmas.Bool.{lt-leb}
use Rattle.frames.specs.Frame.{count_refusal}
use Rattle.frames.proofs.check_count.Goals as goal

pub returns-then-input-at : goal.returns-then-input-at
unfolding count_refusal
returns-then-input-at c = simp (lt-leb _ _ c.if-input-at.true)

pub returns-then-most-n : goal.returns-then-most-n
unfolding count_refusal
returns-then-most-n c = simp (le-leb _ _ c.if-input-at.false, ← c.pair_at-n.ensures.0, lt-leb _ _ c.if-most-n.true)

pub returns-then-input-at-2 : goal.returns-then-input-at-2
unfolding count_refusal
returns-then-input-at-2 c =
    simp (le-leb _ _ c.if-input-at.false, ← c.pair_at-n.ensures.0, le-leb _ _ c.if-most-n.false, lt-leb _ _ c.if-input-at-2.true)

pub returns : goal.returns
unfolding count_refusal
returns c =
    simp (le-leb _ _ c.if-input-at.false, ← c.pair_at-n.ensures.0, le-leb _ _ c.if-most-n.false, le-leb _ _ c.if-input-at-2.false)
