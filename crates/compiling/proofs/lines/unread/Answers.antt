use Rattle.std.proofs.Common.{arith, refl}
use Rattle.words.specs.Spans.{spans}
use Rattle.compiling.proofs.lines.unread.Goals as goal

pub returns : goal.returns
unfolding spans
returns c = (λ text starts lengths left. refl, record { inputs = omega arith; outputs = omega arith; order = omega arith; clocks = omega arith; places = omega arith; first = λ h. refl; tags_long = refl; ceilings_long = refl })
