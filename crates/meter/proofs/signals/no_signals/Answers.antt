-- `meter::signals::no_signals` meets its contract: 22 and 1 to 9 come first, then 26.
use Rattle.refusals.specs.Laws.{refused_first}
use Rattle.policy.specs.LayoutLaws.{said_layout, said_refusal}
use Rattle.meter.proofs.signals.no_signals.Goals as goal

pub returns-in-Err : goal.returns-in-Err
returns-in-Err c = rw (said_refusal _ _ _ c.in-Err.ensures, refused_first)

pub returns-in-Ok : goal.returns-in-Ok
returns-in-Ok c = rw (said_layout _ _ _ c.in-Ok.ensures).0
