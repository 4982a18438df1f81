-- The line's end, a comment, or a word.
use Rattle.words.specs.Lex.{next_end, next_comment, next_word}
use Rattle.words.proofs.words.next_word.Goals as goal
use Rattle.words.proofs.words.next_word.Goals.{then-line-start-via-then-line-start, then-line-start-via-else-line-start+then-line-start-eq35}

pub returns-then-line-start : goal.returns-then-line-start
returns-then-line-start c =
    let line = c.args.line.now in
    elim c.then-line-start.branch [
      | then-line-start-via-then-line-start w ↦ next_end line c.args.at c.requires _ c.skip-start.ensures w.if-line-start.true
      | then-line-start-via-else-line-start+then-line-start-eq35 w ↦ next_comment line c.args.at c.requires _ c.skip-start.ensures w.if-line-start.false w.if-line-start-eq35.true
    ]

pub returns : goal.returns
returns c =
    next_word c.args.line.now c.args.at c.requires _ c.skip-start.ensures c.if-line-start.false c.if-line-start-eq35.false
    _ c.kind_of-k.ensures _ c.run_end-end.ensures
