use Rattle.std.proofs.Common.{get_or, sym, ◌∙◌, arith}
use Rattle.declarations.specs.Letters.{among_any, letter_taken, letter_given}
use Rattle.declarations.proofs.letters.letter_of.Goals as goal

pub returns-then-contains : goal.returns-then-contains
returns-then-contains c =
    let w = c.args.word.now in
    letter_taken c.args.tags.now w (omega arith) (sym c.if-not-is_ascii_uppercase.ensures.value) (sym (c.if-contains.ensures.value ∙ among_any (get_or w 0 0) c.args.tags.now))

pub returns : goal.returns
returns c =
    let w = c.args.word.now in
    letter_given c.args.tags.now w (omega arith) (sym c.if-not-is_ascii_uppercase.ensures.value) (sym (c.if-contains.ensures.value ∙ among_any (get_or w 0 0) c.args.tags.now))
