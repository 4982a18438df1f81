use Rattle.conditions.specs.Steps.{at-least}
use Rattle.conditions.proofs.steps.on_at_least.Goals as goal

pub returns : goal.returns
returns c =
    let r = c.requires.1 in
    (λ m. at-least m c.args.parsed c.args.k c.args.n c.max.ensures, record { care = r.care; value = r.value; reset = r.reset; clock = r.clock; target = r.target })
