-- `translating::to_file::put_stopped` meets its contract: at most three digits, and then at most twenty.
use native.Mathlib.Omega.{arith}
use lib.ListN.{length-append}
use borrow.Author.Rules.{rules}
use Rattle.texts.specs.Text.{ascii, decimal}
use Rattle.texts.specs.Decimal.{decimal_short}
use Rattle.texts.specs.WroteLaws.{wrote_then}
use Rattle.translating.specs.ToFile.{stopped_line}
use Rattle.translating.proofs.to_file.put_stopped.Statement.{statement}
use Rattle.translating.proofs.to_file.put_stopped.Tie as tie

put-about-requires : tie.Need-put_about-place-requires
put-about-requires c κs = omega (arith, decimal_short c.args.refusal 2 (omega arith))

put-decimal-requires : tie.Need-put_decimal-end-requires
put-decimal-requires c κs =
    omega (
      arith,
      c.put_about-place.ensures.next,
      length-append (decimal c.args.refusal) (ascii " line "),
      decimal_short c.args.refusal 2 (omega arith),
      decimal_short c.args.at 19 (omega arith),
    )

put-bytes-requires : tie.Need-put_bytes-requires
put-bytes-requires c κs =
    omega (
      arith,
      c.put_decimal-end.ensures.next,
      c.put_about-place.ensures.next,
      length-append (decimal c.args.refusal) (ascii " line "),
      decimal_short c.args.refusal 2 (omega arith),
      decimal_short c.args.at 19 (omega arith),
    )

returns : tie.Need-returns
unfolding stopped_line
returns c =
    wrote_then (omega arith) (wrote_then (omega arith) c.put_about-place.ensures c.put_decimal-end.ensures) c.put_bytes.ensures

pub put_stopped_spec : {M : Type 1} → statement M
put_stopped_spec = tie.close (tie.spec put-about-requires put-decimal-requires put-bytes-requires (λ c. search rules) returns)
