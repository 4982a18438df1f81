-- `drawing::lines::put_time` meets its contract.
use native.Mathlib.Omega.{arith}
use Rattle.texts.specs.WroteLaws.{wrote_then}
use Rattle.drawing.specs.Wave.{time_line}
use Rattle.drawing.specs.Under.{time_length}
use borrow.Author.Rules.{rules}
use Rattle.drawing.proofs.lines.put_time.Statement.{statement}
use Rattle.drawing.proofs.lines.put_time.Tie as tie

put-bytes-requires : tie.Need-put_bytes-digits-requires
put-bytes-requires c κs = omega (arith, time_length c.args.time)

put-decimal-requires : tie.Need-put_decimal-end-requires
put-decimal-requires c κs =
    omega (arith, time_length c.args.time)

put-bytes-requires-2 : tie.Need-put_bytes-requires
put-bytes-requires-2 c κs =
    omega (arith, time_length c.args.time)

returns : tie.Need-returns
unfolding time_line
returns c =
    let l = time_length c.args.time in
    wrote_then (omega arith) (wrote_then (omega arith) c.put_bytes-digits.ensures c.put_decimal-end.ensures) c.put_bytes.ensures

pub put_time_spec : {M : Type 1} → statement M
put_time_spec = tie.close (tie.spec put-bytes-requires put-decimal-requires put-bytes-requires-2 (λ c. search rules) returns)
