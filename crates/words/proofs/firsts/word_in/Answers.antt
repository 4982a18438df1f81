use Rattle.words.specs.Firsts.{next_in}
use Rattle.words.proofs.firsts.word_in.Goals as goal

pub returns : goal.returns
returns c = next_in c.args.text.now c.args.end c.args.at c.next_word.result.start c.next_word.result.end c.requires.1 c.next_word.ensures
