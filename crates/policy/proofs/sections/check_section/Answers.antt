use Rattle.std.proofs.lemmas.Bool.{le-leb, lt-leb}
use Rattle.policy.specs.Check.{section_refusal}
use Rattle.policy.proofs.sections.check_section.Goals as goal
use Rattle.policy.proofs.sections.check_section.Goals.{then-n-low-via-then-n-low, then-n-low-via-else-n-low+then-high-n}

pub returns-then-file-at : goal.returns-then-file-at
unfolding section_refusal
returns-then-file-at c = simp (lt-leb _ _ c.if-file-at.true)

pub returns-then-n-low : goal.returns-then-n-low
unfolding section_refusal
returns-then-n-low c = elim c.then-n-low.branch [
  | then-n-low-via-then-n-low w ↦ simp (le-leb _ _ c.if-file-at.false, lt-leb _ _ w.if-n-low.true)
  | then-n-low-via-else-n-low+then-high-n w ↦ simp (le-leb _ _ c.if-file-at.false, le-leb _ _ w.if-n-low.false, lt-leb _ _ w.if-high-n.true)
]

pub returns-then-file-at-2 : goal.returns-then-file-at-2
unfolding section_refusal
returns-then-file-at-2 c =
    simp (le-leb _ _ c.if-file-at.false, le-leb _ _ c.if-n-low.false, le-leb _ _ c.if-high-n.false, lt-leb _ _ c.if-file-at-2.true)

pub returns : goal.returns
unfolding section_refusal
returns c =
    simp (le-leb _ _ c.if-file-at.false, le-leb _ _ c.if-n-low.false, le-leb _ _ c.if-high-n.false, le-leb _ _ c.if-file-at-2.false)
