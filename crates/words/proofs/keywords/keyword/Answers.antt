-- The table has the words of the language.
use Rattle.std.proofs.Common.{ap, sym, ◌∙◌, lt-ltb}
use Rattle.wording.specs.Names.{find}
use Rattle.words.specs.Keywords.{table_words, table_names}
use Rattle.words.proofs.keywords.keyword.Goals as goal

pub which_name-requires : goal.which_name-requires
which_name-requires c = table_names

pub returns-in-Some : goal.returns-in-Some
returns-in-Some c =
    ap (find 0 c.args.word.now) (sym table_words) ∙ sym c.in-Some.ensures.found ∙ rw (lt-ltb c.in-Some.k 14 c.in-Some.ensures.within)

pub returns-in-None : goal.returns-in-None
returns-in-None c = ap (find 0 c.args.word.now) (sym table_words) ∙ sym c.in-None.ensures.found
