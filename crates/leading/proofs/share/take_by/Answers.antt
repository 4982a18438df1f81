-- A rule that takes nothing leaves all as it is, and else the part says what it takes.
use Rattle.stepping.specs.Pass.{took_not}
use Rattle.leading.proofs.share.take_by.Goals as goal

pub returns-in-None : goal.returns-in-None
returns-in-None c = took_not _ c.in-None.ensures
