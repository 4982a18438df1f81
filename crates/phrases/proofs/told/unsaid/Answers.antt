use Rattle.std.proofs.Common.{arith}
use Rattle.wording.specs.Reader.{opening}
use Rattle.phrases.specs.Told.{no_bounds}
use Rattle.phrases.proofs.told.unsaid.Goals as goal

pub returns : goal.returns
returns c = (λ n h. let e = no_bounds n h in (λ i. record { part = opening; care = 0; value = 0; bounds = e i; target = 0; reset = 0 }), record { care = omega arith; value = omega arith; reset = omega arith; clock = omega arith; target = omega arith })
