-- `sentences::lines::put_plain` meets its contract: the half, then the words.
use native.Mathlib.Omega.{arith}
use borrow.Author.Rules.{rules}
use Rattle.texts.specs.WroteLaws.{wrote_then}
use Rattle.sentences.proofs.lines.put_plain.Statement.{statement}
use Rattle.sentences.proofs.lines.put_plain.Tie as tie

returns : tie.Need-returns
returns c =
    wrote_then (omega arith) c.put_bytes-half_end.ensures c.put_bytes.ensures

pub put_plain_spec : {M : Type 1} → statement M
put_plain_spec = tie.close (tie.spec (λ c κs. search rules) (λ c κs. search rules) (λ c. search rules) returns)
