use Rattle.std.proofs.Common.{sym, ◌∙◌, rules, tests}
use Rattle.std.proofs.lemmas.Iterator.{YieldsList-from_slice}
use Rattle.std.proofs.lemmas.Iterator.Search.{all_from_yields_List}
use Rattle.policy.specs.Check.{location_good}
use Rattle.policy.proofs.Laws.{all_pass-list_all}
use Rattle.policy.proofs.sections.locations_good.Goals as goal

pub returns : goal.returns
returns c =
    all_from_yields_List location_good _ _ _ c.all.ensures.ran (YieldsList-from_slice c.args.bytes.now cc) (λ x b q k. search (rules, tests))
    ∙ sym (all_pass-list_all location_good c.args.bytes.now)
