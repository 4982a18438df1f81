-- Computed for all care bits and values below sixteen.
use Rattle.choice.specs.Outs.{clear_outs}
use Rattle.choice.proofs.sets.moved_up.Goals as goal

pub returns : goal.returns
returns c = rw c.requires.0 (clear_outs c.args.care c.args.value c.requires.1 c.requires.2)
