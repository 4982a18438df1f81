-- `indexed::layout_by_index` meets its contract: what the check refuses, then 28, then 10.
use Rattle.std.proofs.Common.{refl, sym, ap, ◌∙◌, le-leb}
use Rattle.std.proofs.lemmas.Bool.{lt-leb}
use Rattle.streams.specs.Answer.{gives}
use Rattle.refusals.specs.Laws.{refused_first, handed_answer}
use Rattle.policy.specs.LayoutLaws.{said_layout, said_refusal}
use Rattle.stepping.specs.Laid.{laid_of, laid_sections}
use Rattle.enforcer.specs.States.{marks_by}
use Rattle.indexed.specs.Entries.{index_refusal, early_refusal, layout_by_index}
use Rattle.indexed.proofs.layout_by_index.Goals as goal

pub returns-in_err-layout : goal.returns-in_err-layout
unfolding layout_by_index early_refusal index_refusal
returns-in_err-layout c =
    handed_answer _ _ _ c.from_residual.ensures.1 (sym (rw (said_refusal _ _ _ c.in_err-layout.ensures, refused_first, refused_first)))

pub is_index-requires : goal.is_index-requires
is_index-requires c = laid_sections (laid_of _ _ _ c.in_ok-layout.ensures refl).0

pub returns-then-not-is_index : goal.returns-then-not-is_index
unfolding layout_by_index early_refusal index_refusal
returns-then-not-is_index c = rw ((said_layout _ _ _ c.in_ok-layout.ensures).0, sym c.is_index.ensures ∙ c.if-not-is_index.true)

pub returns-then-marks-layout : goal.returns-then-marks-layout
unfolding layout_by_index early_refusal index_refusal
returns-then-marks-layout c =
    rw ((said_layout _ _ _ c.in_ok-layout.ensures).0, sym c.is_index.ensures ∙ c.if-not-is_index.false, ← marks_by _ _ _ c.in_ok-layout.ensures, lt-leb _ _ c.if-marks-layout.true)

pub returns : goal.returns
unfolding layout_by_index early_refusal index_refusal
returns c =
    let l = said_layout _ _ _ c.in_ok-layout.ensures in
    rw (l.0, sym c.is_index.ensures ∙ c.if-not-is_index.false, ← marks_by _ _ _ c.in_ok-layout.ensures, le-leb _ _ c.if-marks-layout.false) (ap gives l.1)
