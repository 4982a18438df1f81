-- The layout is the file's, the start may be asked about, and the tables have an entry for each state.
use Rattle.std.proofs.Common.{sym, ◌∙◌, arith, length-take-le}
use Rattle.refusals.specs.Laws.{number_above}
use Rattle.stepping.specs.Laid.{laid_well}
use Rattle.enforcer.specs.States.{layout_refused, layout_granted}
use Rattle.telling.specs.Prints.{start_marks, start_good, start_asked, start_told}
use Rattle.telling.proofs.reply.tell_all.Goals as goal

pub unreachable-requires : goal.unreachable-requires
unreachable-requires c =
    let r = c.in_default.field-0 in omega (arith, number_above r, layout_refused _ _ _ r c.in_default.ensures, c.requires.startable.early)

pub slice_bounds-tell_counted-end : goal.slice_bounds-tell_counted-end
slice_bounds-tell_counted-end c = let k = layout_granted _ _ _ c.in-Ok.ensures in omega (arith, (laid_well k.laid).states, c.requires.ticks_len)

pub slice_bounds-tell_counted-end-2 : goal.slice_bounds-tell_counted-end-2
slice_bounds-tell_counted-end-2 c =
    let k = layout_granted _ _ _ c.in-Ok.ensures in sym (length-take-le _ _ (omega (arith, (laid_well k.laid).states, c.requires.ticks_len)))

pub slice_bounds-tell_counted-end-3 : goal.slice_bounds-tell_counted-end-3
slice_bounds-tell_counted-end-3 c = let k = layout_granted _ _ _ c.in-Ok.ensures in omega (arith, (laid_well k.laid).states, c.requires.ticks_len)

pub slice_bounds-tell_counted-end-4 : goal.slice_bounds-tell_counted-end-4
slice_bounds-tell_counted-end-4 c =
    let k = layout_granted _ _ _ c.in-Ok.ensures in sym (length-take-le _ _ (omega (arith, (laid_well k.laid).states, c.requires.ticks_len)))

pub tell_counted-requires : goal.tell_counted-requires
tell_counted-requires c =
    let k = layout_granted _ _ _ c.in-Ok.ensures in
    let h = c.requires.startable in
    let t = c.requires.ticks_len in
    let states = (laid_well k.laid).states in
    record {
      asked = (start_asked k h, k.laid, start_marks k h);
      ticks_len = (length-take-le _ _ (omega (arith, states, t)) ∙ k.laid.states, length-take-le _ _ (omega (arith, states, t)) ∙ k.laid.states);
      events_len_bound = (t.2, start_good k h, t.3);
    }

pub returns : goal.returns
returns c =
    start_told (layout_granted _ _ _ c.in-Ok.ensures) c.requires.startable c.tell_counted.ensures
