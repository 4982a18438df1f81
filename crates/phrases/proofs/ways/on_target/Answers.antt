use Rattle.phrases.specs.Arms.{target_is}
use Rattle.phrases.proofs.ways.on_target.Goals as goal

pub returns : goal.returns
returns c =
    let r = c.requires.1 in
    (λ n. target_is n c.args.parsed c.args.target, record { care = r.care; value = r.value; reset = r.reset; clock = r.clock; target = c.requires.0 })
