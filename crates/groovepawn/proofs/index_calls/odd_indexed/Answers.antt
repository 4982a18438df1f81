-- 22, 1 to 9, 28 and 10 come first, then 16.
use Rattle.std.proofs.Common.{sym}
use Rattle.streams.specs.AnswerLaws.{given_only}
use Rattle.enforcer.specs.States.{refused_only}
use Rattle.refusals.specs.Laws.{refused_first}
use Rattle.indexed.specs.Entries.{layout_by_index}
use Rattle.groovepawn.specs.Indexed.{odd_indexed}
use Rattle.groovepawn.proofs.index_calls.odd_indexed.Goals as goal

pub returns-in-Err : goal.returns-in-Err
unfolding odd_indexed layout_by_index
returns-in-Err c = rw (refused_only _ _ (sym c.in-Err.ensures), refused_first)

pub returns-in-Ok : goal.returns-in-Ok
unfolding odd_indexed layout_by_index
returns-in-Ok c = rw ((given_only _ _ _ (sym c.in-Ok.ensures)).0)
