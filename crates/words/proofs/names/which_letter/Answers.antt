use Rattle.std.proofs.Common.{◌∙◌, ap, sym, arith, rules, tests, eqb, get_or}
use Rattle.std.proofs.lemmas.Iterator.{YieldsList-from_slice}
use Rattle.std.proofs.lemmas.Iterator.Search.{position_from_yields_List}
use Rattle.words.specs.Spans.{found_said}
use Rattle.words.specs.Signals.{letter_none, letter_found}
use Rattle.words.proofs.names.which_letter.Goals as goal

pub returns-in-len1-clause-found : goal.returns-in-len1-clause-found
returns-in-len1-clause-found c =
    let tags = c.args.tags.now in
    let word = c.args.word.now in
    let e = position_from_yields_List (λ t. eqb t (get_or word 0 0)) _ _ c.position.result c.position.ensures.ran (YieldsList-from_slice tags c.iter.ensures.rest) (λ x b q k. search (rules, tests)) in
    ap found_said e ∙ letter_found word (omega arith) tags

pub returns-in_default-clause-found : goal.returns-in_default-clause-found
returns-in_default-clause-found c = sym (letter_none 0 c.args.word.now c.args.tags.now (λ e. omega arith))

pub returns-in_default-2-clause-found : goal.returns-in_default-2-clause-found
returns-in_default-2-clause-found c = sym (letter_none 0 c.args.word.now c.args.tags.now (λ e. omega arith))
