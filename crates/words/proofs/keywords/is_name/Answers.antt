-- By its tests, one after another.
use Rattle.std.proofs.Common.{◌-◌, ◌∙◌, sym, arith, rules, tests, length, take, drop}
use Rattle.std.proofs.lemmas.Iterator.{YieldsList-from_slice}
use Rattle.std.proofs.lemmas.Iterator.Search.{all_from_yields_List}
use Rattle.words.specs.Keywords.{inner, all_inner, plain_test, name_none, name_long, name_first, name_inner, name_plain}
use Rattle.words.proofs.keywords.is_name.Goals as goal
use Rattle.words.proofs.keywords.is_name.Goals.{then-word-eq0-via-then-word-eq0, then-word-eq0-via-else-word-eq0+then-word-gt16, then-word-eq0-via-else-word-eq0+else-word-gt16+then-not-is_ascii_lowercase}

pub returns-then-word-eq0 : goal.returns-then-word-eq0
returns-then-word-eq0 c =
    let word = c.args.word.now in
    elim c.then-word-eq0.branch [
      | then-word-eq0-via-then-word-eq0 w ↦ name_none word w.if-word-eq0.true
      | then-word-eq0-via-else-word-eq0+then-word-gt16 w ↦ name_long word w.if-word-gt16.true
      | then-word-eq0-via-else-word-eq0+else-word-gt16+then-not-is_ascii_lowercase w ↦
          name_first word (omega arith) (sym w.if-not-is_ascii_lowercase.true ∙ w.is_ascii_lowercase.ensures.value)
    ]

pub returns-then-not-all : goal.returns-then-not-all
returns-then-not-all c =
    let word = c.args.word.now in
    let rest = take (length word - 1) (drop 1 word) in
    let e = all_from_yields_List inner _ _ c.all.result c.all.ensures.ran (YieldsList-from_slice rest c.iter.ensures.rest) (λ x b q k. search (rules, tests)) in
    name_inner word (sym c.if-not-all.true ∙ e ∙ all_inner word)

pub returns : goal.returns
returns c =
    let word = c.args.word.now in
    let rest = take (length word - 1) (drop 1 word) in
    let e = all_from_yields_List inner _ _ c.all.result c.all.ensures.ran (YieldsList-from_slice rest c.iter.ensures.rest) (λ x b q k. search (rules, tests)) in
    plain_test word c.keyword.result c.keyword.ensures
    ∙ name_plain word (omega arith) (omega arith) (sym c.if-not-is_ascii_lowercase.false ∙ c.is_ascii_lowercase.ensures.value) (sym c.if-not-all.false ∙ e ∙ all_inner word)
