-- What comes before 16, and then 16.
use Rattle.std.proofs.Common.{sym}
use Rattle.streams.specs.AnswerLaws.{given_only}
use Rattle.refusals.specs.Laws.{refused_first}
use Rattle.enforcer.specs.States.{refused_only}
use Rattle.reasons.specs.Runs.{room_for}
use Rattle.groovepawn.specs.Why.{odd_why_run}
use Rattle.groovepawn.proofs.why_call.odd_why_run.Goals as goal

pub returns-in-Err : goal.returns-in-Err
unfolding odd_why_run room_for
returns-in-Err c = rw (refused_only _ _ (sym c.in-Err.ensures), refused_first)

pub returns-in-Ok : goal.returns-in-Ok
unfolding odd_why_run room_for
returns-in-Ok c = rw ((given_only _ _ _ (sym c.in-Ok.ensures)).0)
