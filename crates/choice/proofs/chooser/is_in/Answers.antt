-- The bit is shifted down.
use Rattle.std.proofs.Common.{sym}
use Rattle.choice.specs.Filled.{has_shift}
use Rattle.choice.proofs.chooser.is_in.Goals as goal

pub returns : goal.returns
returns c = sym (has_shift c.args.set c.args.value)
