use Rattle.std.proofs.Common.{ap, sym, ◌∙◌}
use Rattle.streams.specs.Answer.{gives}
use Rattle.declarations.proofs.placeline.place.Goals as goal

pub returns-clause-said : goal.returns-clause-said
returns-clause-said c =
    let a = c.args in
    λ rules. ap gives (c.add_place.ensures.0 rules) ∙ sym (c.in_ok-check_place.ensures.said a.left.now rules a.byte)
