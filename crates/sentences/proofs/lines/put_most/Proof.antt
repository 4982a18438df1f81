-- `sentences::lines::put_most` meets its contract: one, or any other number.
use mathlib.Core.Path.{ap, ◌∙◌}
use native.Mathlib.Omega.{arith}
use lib.ListN.{length}
use borrow.Author.Rules.{rules}
use Rattle.texts.specs.Text.{ascii, decimal}
use Rattle.texts.specs.WroteLaws.{wrote_then}
use Rattle.asks.specs.Turns.{three_length}
use Rattle.sentences.specs.Text.{most_one, most_more}
use Rattle.sentences.proofs.lines.put_most.Statement.{statement}
use Rattle.sentences.proofs.lines.put_most.Tie as tie

put-about-requires : tie.Need-put_about-requires
put-about-requires c κs =
    let a = c.args in
    omega (arith, ap length (most_one a.one.now a.more.now a.k c.if-k-eq1.true) ∙ three_length (ascii "after it at most ") (decimal a.k) a.one.now)

returns : tie.Need-returns-then-k-eq1
returns c =
    rw (most_one c.args.one.now c.args.more.now c.args.k c.if-k-eq1.true) (wrote_then (omega arith) c.put_bytes-half_end.ensures c.put_about.ensures)

put-about-requires-2 : tie.Need-put_about-requires-2
put-about-requires-2 c κs =
    let a = c.args in
    omega (arith, ap length (most_more a.one.now a.more.now a.k c.if-k-eq1.false) ∙ three_length (ascii "after it at most ") (decimal a.k) a.more.now)

returns-2 : tie.Need-returns
returns-2 c =
    rw (most_more c.args.one.now c.args.more.now c.args.k c.if-k-eq1.false) (wrote_then (omega arith) c.put_bytes-half_end.ensures c.put_about-2.ensures)

pub put_most_spec : {M : Type 1} → statement M
put_most_spec = tie.close (tie.spec (λ c κs. search rules) put-about-requires (λ c. search rules) returns put-about-requires-2 (λ c. search rules) returns-2)
