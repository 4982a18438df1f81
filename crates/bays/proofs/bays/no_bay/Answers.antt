-- `bays::bays::no_bay` meets its contract: 22 and 1 to 10 come first, then 24.
use Rattle.refusals.specs.Laws.{refused_first}
use Rattle.enforcer.specs.States.{layout_refused, layout_none}
use Rattle.bays.specs.Entries.{no_bay}
use Rattle.bays.proofs.bays.no_bay.Goals as goal

pub returns-in-Err : goal.returns-in-Err
unfolding no_bay
returns-in-Err c = rw (layout_refused _ _ _ _ c.in-Err.ensures, refused_first)

pub returns-in-Ok : goal.returns-in-Ok
unfolding no_bay
returns-in-Ok c = rw (layout_none _ _ _ c.in-Ok.ensures)
