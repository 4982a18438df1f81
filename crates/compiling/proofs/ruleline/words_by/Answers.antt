use Rattle.std.proofs.Common.{◌-◌, ◌∙◌, refl, ap}
use Rattle.policy.specs.File.{part}
use Rattle.wording.specs.Words.{words_of}
use Rattle.wording.specs.Names.{through}
use Rattle.wording.specs.Reader.{Scope, bare, rule_word}
use Rattle.compiling.specs.RuleLine.{scope_is}
use Rattle.compiling.proofs.ruleline.words_by.Goals as goal

pub returns-clause-said : goal.returns-clause-said
returns-clause-said c left rules =
    let a = c.args in
    c.read_rule.ensures.said
    ∙ ap (λ (sc : Scope). through (rule_word sc) (bare a.table.clocks) (words_of (part a.text.now a.at (a.end - a.at))))
    (scope_is a.text.now a.starts.now a.lengths.now left c.requires.2 rules refl)
