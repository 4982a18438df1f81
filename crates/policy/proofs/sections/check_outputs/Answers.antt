use Rattle.std.proofs.Common.{◌+◌, arith, sym}
use Rattle.std.proofs.Math.Nat.{add-sub_cancel_left}
use Rattle.refusals.specs.Laws.{handed_first}
use Rattle.policy.specs.Check.{outputs_refusal}
use Rattle.policy.specs.Frame.{section_fits}
use Rattle.policy.proofs.Laws.{inputs_fit}
use Rattle.policy.proofs.sections.check_outputs.Goals as goal

pub check_section-requires : goal.check_section-requires
check_section-requires c = omega (arith, inputs_fit c.args.file.now c.requires.0)

pub returns-in_err-check_section-clause-refuses : goal.returns-in_err-check_section-clause-refuses
unfolding outputs_refusal
returns-in_err-check_section-clause-refuses c =
    rw (← c.requires.2, ← c.byte_at-n.ensures.0) (handed_first _ _ _ c.from_residual.ensures.1 c.in_err-check_section.ensures)

pub slice_bounds-tags_good-end : goal.slice_bounds-tags_good-end
slice_bounds-tags_good-end c = omega (arith, inputs_fit c.args.file.now c.requires.0)

pub overflow_add-at : goal.overflow_add-at
overflow_add-at c = omega (arith, section_fits _ _ _ _ _ _ _ (sym c.in_ok-check_section.ensures))

pub overflow_add-at-2 : goal.overflow_add-at-2
overflow_add-at-2 c = omega (arith, section_fits _ _ _ _ _ _ _ (sym c.in_ok-check_section.ensures))

pub overflow_add-at-3 : goal.overflow_add-at-3
overflow_add-at-3 c = omega (arith, section_fits _ _ _ _ _ _ _ (sym c.in_ok-check_section.ensures))

pub slice_bounds-tags_good-end-2 : goal.slice_bounds-tags_good-end-2
slice_bounds-tags_good-end-2 c = omega (arith, section_fits _ _ _ _ _ _ _ (sym c.in_ok-check_section.ensures))

pub returns-then-tags_good-clause-refuses : goal.returns-then-tags_good-clause-refuses
unfolding outputs_refusal
returns-then-tags_good-clause-refuses c =
    rw (← c.requires.2, ← c.byte_at-n.ensures.0, ← c.in_ok-check_section.ensures, ← c.requires.1, ← add-sub_cancel_left 1 c.args.inputs, ← add-sub_cancel_left (c.args.at + 1) c.byte_at-n.result, ← c.if-tags_good.ensures)

pub returns-else-tags_good-clause-refuses : goal.returns-else-tags_good-clause-refuses
unfolding outputs_refusal
returns-else-tags_good-clause-refuses c =
    rw (← c.requires.2, ← c.byte_at-n.ensures.0, ← c.in_ok-check_section.ensures, ← c.requires.1, ← add-sub_cancel_left 1 c.args.inputs, ← add-sub_cancel_left (c.args.at + 1) c.byte_at-n.result, ← c.if-tags_good.ensures)
