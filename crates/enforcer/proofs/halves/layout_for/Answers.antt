-- `enforcer::halves::layout_for` meets its contract: what the check refuses comes first, and without that the layout says how many states there are.
use Rattle.std.proofs.Common.{sym, ap, le-leb}
use Rattle.std.proofs.lemmas.Bool.{lt-leb}
use Rattle.streams.specs.Answer.{gives}
use Rattle.refusals.specs.Laws.{refused_first, handed_answer}
use Rattle.policy.specs.LayoutLaws.{said_layout, said_refusal}
use Rattle.enforcer.specs.Entries.{layout_for, marks_refusal}
use Rattle.enforcer.specs.States.{marks_by}
use Rattle.enforcer.proofs.halves.layout_for.Goals as goal

pub returns-in_err-layout : goal.returns-in_err-layout
unfolding layout_for marks_refusal
returns-in_err-layout c =
    handed_answer _ _ _ c.from_residual.ensures.1 (sym (rw (said_refusal _ _ _ c.in_err-layout.ensures) (refused_first _ _)))

pub returns-then-marks-layout : goal.returns-then-marks-layout
unfolding layout_for
returns-then-marks-layout c = rw (← marks_by _ _ _ c.in_ok-layout.ensures, lt-leb _ _ c.if-marks-layout.true)

pub returns : goal.returns
unfolding layout_for
returns c = rw (← marks_by _ _ _ c.in_ok-layout.ensures, le-leb _ _ c.if-marks-layout.false) (ap gives (said_layout _ _ _ c.in_ok-layout.ensures).1)
