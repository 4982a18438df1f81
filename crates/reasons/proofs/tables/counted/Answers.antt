-- `reasons::tables::counted` meets its contract: the refusals in their order, and what `count` leaves in the tables.
use Rattle.std.proofs.Common.{sym, ap, ◌∙◌, ℕ, arith}
use Rattle.std.proofs.Math.Seq.{length-take-le}
use Rattle.refusals.specs.Laws.{number_above, handed_on}
use Rattle.policy.specs.Rules.{input_values, output_values}
use Rattle.policy.specs.File.{policy_of}
use Rattle.stepping.specs.Laid.{laid_limits, laid_inputs, laid_outputs}
use Rattle.enforcer.specs.States.{layout_refused, layout_none, layout_granted}
use Rattle.counting.specs.OtherMarks.{other_marks}
use Rattle.counting.proofs.Laws.{room, part_fits, part_length, back_part}
use Rattle.reasons.specs.Granted.{by_marks, by_state, by_other, by_x, by_y, by_nothing, at_front}
use Rattle.reasons.proofs.tables.counted.Goals as goal

pub returns-in_err-layout-clause-refuses : goal.returns-in_err-layout-clause-refuses
returns-in_err-layout-clause-refuses c =
    let r = c.in_err-layout.field-0.0 in
    rw (handed_on _ _ c.from_residual.ensures.1)
    (by_marks _ _ _ _ _ _ _ _ (sym (layout_refused _ _ _ r c.in_err-layout.ensures)) (λ z. omega (arith, number_above r)))

pub check_state-requires : goal.check_state-requires
check_state-requires c = let g = layout_granted _ _ _ c.in_ok-layout.ensures in (g.laid, g.enough)

pub returns-in_err-check_state-clause-refuses : goal.returns-in_err-check_state-clause-refuses
returns-in_err-check_state-clause-refuses c =
    let r = c.in_err-check_state.field-0.0 in
    let g = layout_granted _ _ _ c.in_ok-layout.ensures in
    rw (handed_on _ _ c.from_residual-in_err-check_state.ensures.1)
    (by_state _ _ _ _ _ _ _ _ (layout_none _ _ _ c.in_ok-layout.ensures) (rw g.named at c.in_err-check_state.ensures) (λ z. omega (arith, number_above r)))

pub slice_bounds-count-end : goal.slice_bounds-count-end
slice_bounds-count-end c = let k = (layout_granted _ _ _ c.in_ok-layout.ensures).laid in part_fits k c.args.ticks.now (room k _ c.requires.0)

pub slice_bounds-count-end-2 : goal.slice_bounds-count-end-2
slice_bounds-count-end-2 c =
    let k = (layout_granted _ _ _ c.in_ok-layout.ensures).laid in sym (length-take-le _ _ (part_fits k c.args.ticks.now (room k _ c.requires.0)))

pub slice_bounds-count-end-3 : goal.slice_bounds-count-end-3
slice_bounds-count-end-3 c = let k = (layout_granted _ _ _ c.in_ok-layout.ensures).laid in part_fits k c.args.rests.now (room k _ c.requires.1)

pub slice_bounds-count-end-4 : goal.slice_bounds-count-end-4
slice_bounds-count-end-4 c =
    let k = (layout_granted _ _ _ c.in_ok-layout.ensures).laid in sym (length-take-le _ _ (part_fits k c.args.rests.now (room k _ c.requires.1)))

pub count-others-requires : goal.count-others-requires
count-others-requires c =
    let g = layout_granted _ _ _ c.in_ok-layout.ensures in
    let k = g.laid in
    (k, g.enough, part_length k c.args.ticks.now (room k _ c.requires.0), part_length k c.args.rests.now (room k _ c.requires.1))

pub returns-then-others-clause-refuses : goal.returns-then-others-clause-refuses
returns-then-others-clause-refuses c =
    let g = layout_granted _ _ _ c.in_ok-layout.ensures in
    let others = c.count-others.ensures.0 ∙ ap (λ (r : ℕ). other_marks (policy_of r c.args.file.now) c.args.marks.now) g.named in
    by_other _ _ _ _ _ _ _ _ (layout_none _ _ _ c.in_ok-layout.ensures) (sym (rw g.named at c.in_ok-check_state.ensures)) (sym others ∙ c.if-others.true)

pub values-requires : goal.values-requires
values-requires c = omega (arith, laid_limits (layout_granted _ _ _ c.in_ok-layout.ensures).laid)

pub returns-then-values-x-clause-refuses : goal.returns-then-values-x-clause-refuses
returns-then-values-x-clause-refuses c =
    let g = layout_granted _ _ _ c.in_ok-layout.ensures in
    let others = c.count-others.ensures.0 ∙ ap (λ (r : ℕ). other_marks (policy_of r c.args.file.now) c.args.marks.now) g.named in
    let inputs = c.values.ensures ∙ (laid_inputs g.laid).0 ∙ ap (λ (r : ℕ). input_values (policy_of r c.args.file.now)) g.named in
    by_x _ _ _ _ _ _ _ _ (layout_none _ _ _ c.in_ok-layout.ensures) (sym (rw g.named at c.in_ok-check_state.ensures)) (sym others ∙ c.if-others.false)
    (rw inputs at c.if-values-x.true)

pub values-requires-2 : goal.values-requires-2
values-requires-2 c = omega (arith, laid_limits (layout_granted _ _ _ c.in_ok-layout.ensures).laid)

pub returns-then-values-y-clause-refuses : goal.returns-then-values-y-clause-refuses
returns-then-values-y-clause-refuses c =
    let g = layout_granted _ _ _ c.in_ok-layout.ensures in
    let others = c.count-others.ensures.0 ∙ ap (λ (r : ℕ). other_marks (policy_of r c.args.file.now) c.args.marks.now) g.named in
    let inputs = c.values.ensures ∙ (laid_inputs g.laid).0 ∙ ap (λ (r : ℕ). input_values (policy_of r c.args.file.now)) g.named in
    let outputs = c.values-2.ensures ∙ (laid_outputs g.laid).0 ∙ ap (λ (r : ℕ). output_values (policy_of r c.args.file.now)) g.named in
    by_y _ _ _ _ _ _ _ _ (layout_none _ _ _ c.in_ok-layout.ensures) (sym (rw g.named at c.in_ok-check_state.ensures)) (sym others ∙ c.if-others.false)
    (rw inputs at c.if-values-x.false) (rw outputs at c.if-values-y.true)

pub returns-clause-refuses : goal.returns-clause-refuses
returns-clause-refuses c =
    let g = layout_granted _ _ _ c.in_ok-layout.ensures in
    let k = g.laid in
    let others = c.count-others.ensures.0 ∙ ap (λ (r : ℕ). other_marks (policy_of r c.args.file.now) c.args.marks.now) g.named in
    let inputs = c.values.ensures ∙ (laid_inputs k).0 ∙ ap (λ (r : ℕ). input_values (policy_of r c.args.file.now)) g.named in
    let outputs = c.values-2.ensures ∙ (laid_outputs k).0 ∙ ap (λ (r : ℕ). output_values (policy_of r c.args.file.now)) g.named in
    by_nothing _ _ _ _ _ _ _ _ (layout_none _ _ _ c.in_ok-layout.ensures) (sym (rw g.named at c.in_ok-check_state.ensures)) (sym others ∙ c.if-others.false)
    (rw inputs at c.if-values-x.false) (rw outputs at c.if-values-y.false)
    (at_front _ _ g
    (rw (back_part k c.args.ticks.now (room k _ c.requires.0) c.count-others.new.ticks c.count-others.auto.ticks, back_part k c.args.rests.now (room k _ c.requires.1) c.count-others.new.rests c.count-others.auto.rests)
    c.count-others.ensures.1))

pub returns-clause-granted : goal.returns-clause-granted
returns-clause-granted c = layout_granted _ _ _ c.in_ok-layout.ensures
