-- By how many words there are.
use Rattle.words.specs.Firsts.{few_none, few_one, few_two, few_more}
use Rattle.words.proofs.firsts.few_words.Goals as goal

pub returns-then-first : goal.returns-then-first
returns-then-first c = few_none c.word_in-first.result c.requires.1 c.word_in-first.ensures c.if-first.true

pub returns-then-second : goal.returns-then-second
returns-then-second c = few_one c.word_in-first.result c.requires.1 c.word_in-first.ensures c.word_in-second.result c.if-first.false c.word_in-second.ensures c.if-second.true

pub returns-then-third : goal.returns-then-third
returns-then-third c = few_two c.word_in-first.result c.requires.1 c.word_in-first.ensures c.word_in-second.result c.if-first.false c.word_in-second.ensures c.word_in-third.result c.if-second.false c.word_in-third.ensures c.if-third.true

pub returns : goal.returns
returns c = few_more c.word_in-first.result c.requires.1 c.word_in-first.ensures c.word_in-second.result c.if-first.false c.word_in-second.ensures c.word_in-third.result c.if-second.false c.word_in-third.ensures c.if-third.false
