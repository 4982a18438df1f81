-- `bays::odd::odd_refusal` meets its contract: 22 and 1 to 10 come first, then 14 where there is no room, then 16.
use Rattle.refusals.specs.Laws.{refused_first}
use Rattle.enforcer.specs.States.{layout_refused, layout_none}
use Rattle.bays.specs.Odd.{odd_refusal}
use Rattle.bays.proofs.odd.odd_refusal.Goals as goal

pub returns-in-Err : goal.returns-in-Err
unfolding odd_refusal
returns-in-Err c = rw (layout_refused _ _ _ _ c.in-Err.ensures, refused_first)

pub returns-in-Ok : goal.returns-in-Ok
unfolding odd_refusal
returns-in-Ok c = rw (layout_none _ _ _ c.in-Ok.ensures, c.if-room.true)

pub returns-in-Ok-2 : goal.returns-in-Ok-2
unfolding odd_refusal
returns-in-Ok-2 c = rw (layout_none _ _ _ c.in-Ok.ensures, c.if-room.false)
