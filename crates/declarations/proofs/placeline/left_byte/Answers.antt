use Rattle.std.proofs.Common.{ap, sym, ◌∙◌}
use Rattle.words.specs.Firsts.{in_none, in_word}
use Rattle.declarations.specs.PlaceLine.{byte_answer, byte_is}
use Rattle.declarations.proofs.placeline.left_byte.Goals as goal

pub returns-then-first : goal.returns-then-first
returns-then-first c = rw (in_none c.word_in-first.ensures c.if-first.true)

pub returns-then-must_be_left : goal.returns-then-must_be_left
returns-then-must_be_left c = ap byte_answer (byte_is _ (in_word c.word_in-first.ensures c.if-first.false) (sym c.must_be_left.ensures ∙ c.if-must_be_left.true))

pub returns : goal.returns
returns c = ap byte_answer (byte_is _ (in_word c.word_in-first.ensures c.if-first.false) (sym c.must_be_left.ensures ∙ c.if-must_be_left.false))
