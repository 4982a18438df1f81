-- `sentences::lines::put_rule` meets its contract: the half, the number, what is asked, the line feed.
use native.Mathlib.Omega.{arith}
use borrow.Author.Rules.{rules}
use Rattle.policy.specs.File.{policy_of}
use Rattle.texts.specs.Text.{ascii, decimal}
use Rattle.texts.specs.WroteLaws.{wrote_then}
use Rattle.asks.specs.Turns.{three_length}
use Rattle.sentences.specs.Text.{rule_words, rule_length}
use Rattle.sentences.proofs.lines.put_rule.Statement.{statement}
use Rattle.sentences.proofs.lines.put_rule.Tie as tie

put-about-requires : tie.Need-put_about-words-requires
put-about-requires c κs =
    let a = c.args in
    omega (arith, rule_length (policy_of a.layout.reading a.file.now) a.i)

put-asked-requires : tie.Need-put_asked-end-requires
put-asked-requires c κs =
    let a = c.args in (
      c.requires.0,
      omega (arith, rule_length (policy_of a.layout.reading a.file.now) a.i, three_length (ascii "rule ") (decimal a.i) (ascii " forbids it: ")),
    )

put-bytes-requires-2 : tie.Need-put_bytes-requires
put-bytes-requires-2 c κs =
    let a = c.args in
    omega (arith, rule_length (policy_of a.layout.reading a.file.now) a.i, three_length (ascii "rule ") (decimal a.i) (ascii " forbids it: "))

returns : tie.Need-returns
unfolding rule_words
returns c =
    let two = wrote_then (omega arith) c.put_about-words.ensures c.put_asked-end.ensures in
    let three = wrote_then (omega arith) two c.put_bytes.ensures in
    wrote_then (omega arith) c.put_bytes-half_end.ensures three

pub put_rule_spec : {M : Type 1} → statement M
put_rule_spec = tie.close (tie.spec (λ c κs. search rules) put-about-requires put-asked-requires put-bytes-requires-2 (λ c. search rules) returns)
