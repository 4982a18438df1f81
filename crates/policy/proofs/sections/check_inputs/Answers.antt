use Rattle.std.proofs.Common.{arith, sym}
use Rattle.std.proofs.Math.Nat.{add-sub_cancel_left}
use Rattle.refusals.specs.Laws.{handed_first}
use Rattle.policy.specs.Check.{inputs_refusal}
use Rattle.policy.specs.Frame.{section_fits}
use Rattle.policy.proofs.sections.check_inputs.Goals as goal

pub returns-in_err-check_section-clause-refuses : goal.returns-in_err-check_section-clause-refuses
unfolding inputs_refusal
returns-in_err-check_section-clause-refuses c = rw (← c.byte_at-n.ensures.0) (handed_first _ _ _ c.from_residual.ensures.1 c.in_err-check_section.ensures)

pub slice_bounds-tags_good-end-2 : goal.slice_bounds-tags_good-end-2
slice_bounds-tags_good-end-2 c = omega (arith, section_fits _ _ _ _ _ _ _ (sym c.in_ok-check_section.ensures))

pub returns-then-tags_good-clause-refuses : goal.returns-then-tags_good-clause-refuses
unfolding inputs_refusal
returns-then-tags_good-clause-refuses c =
    rw (← c.byte_at-n.ensures.0, ← c.in_ok-check_section.ensures, ← add-sub_cancel_left 1 c.byte_at-n.result, ← c.if-tags_good.ensures)

pub returns-else-tags_good-clause-refuses : goal.returns-else-tags_good-clause-refuses
unfolding inputs_refusal
returns-else-tags_good-clause-refuses c =
    rw (← c.byte_at-n.ensures.0, ← c.in_ok-check_section.ensures, ← add-sub_cancel_left 1 c.byte_at-n.result, ← c.if-tags_good.ensures)
