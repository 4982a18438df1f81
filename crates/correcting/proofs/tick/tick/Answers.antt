-- `correcting::tick::tick` meets its contract: an event that arrives at a marked state is released as it was read.
use Rattle.correcting.specs.Arrived.{tick_as_read}
use Rattle.correcting.proofs.tick.tick.Goals as goal

pub returns-in-Some : goal.returns-in-Some
returns-in-Some c = tick_as_read _ _ _ _ _ (rw c.here_by-here.ensures.1 at c.in-Some.ensures) c.requires.3 c.requires.2
