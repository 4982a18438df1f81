use Rattle.std.proofs.Common.{sym, arith}
use Rattle.refusals.specs.Laws.{handed_on}
use Rattle.waves.specs.Tags.{counted, refused_as, tags_stand}
use Rattle.waves.proofs.tags.tags_of.Goals as goal

pub returns-in_err-layout : goal.returns-in_err-layout
returns-in_err-layout c = rw (handed_on _ _ c.from_residual.ensures.1) (sym (refused_as (record { said = c.in_err-layout.ensures })))

pub overflow_add-inputs_end : goal.overflow_add-inputs_end
overflow_add-inputs_end c = let t = counted _ _ c.in_ok-layout.ensures in omega arith

pub overflow_add-outputs_start : goal.overflow_add-outputs_start
overflow_add-outputs_start c = let t = counted _ _ c.in_ok-layout.ensures in omega arith

pub overflow_add-outputs_end : goal.overflow_add-outputs_end
overflow_add-outputs_end c = let t = counted _ _ c.in_ok-layout.ensures in omega arith

pub slice_bounds-result-end : goal.slice_bounds-result-end
slice_bounds-result-end c = let t = counted _ _ c.in_ok-layout.ensures in omega arith

pub slice_bounds-result-end-2 : goal.slice_bounds-result-end-2
slice_bounds-result-end-2 c = let t = counted _ _ c.in_ok-layout.ensures in omega arith

pub returns : goal.returns
returns c = tags_stand (counted _ _ c.in_ok-layout.ensures)
