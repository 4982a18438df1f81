-- The table it lends is the one that was computed with.
use Rattle.std.proofs.Common.{refl, ◌∙◌, arith}
use Rattle.choice.specs.Outs.{clear, outs_low}
use Rattle.choice.proofs.sets.outs.Goals as goal

pub moved_up-requires : goal.moved_up-requires
unfolding clear
moved_up-requires c = (refl, omega arith, omega arith)

pub returns : goal.returns
returns c = c.moved_up.ensures ∙ outs_low _ _
