-- `drawing::lines::put_opening` meets its contract: the header's parts, then time 0.
use native.Mathlib.Omega.{arith}
use Rattle.texts.specs.WroteLaws.{wrote_then}
use Rattle.drawing.specs.Wave.{header}
use Rattle.drawing.specs.Under.{opening_length}
use borrow.Author.Rules.{rules}
use Rattle.drawing.proofs.lines.put_opening.Statement.{statement}
use Rattle.drawing.proofs.lines.put_opening.Tie as tie

put-bytes-requires : tie.Need-put_bytes-vars-requires
put-bytes-requires c κs = let a = c.args in omega (arith, opening_length a.inputs.now a.outputs.now)

put-vars-requires : tie.Need-put_vars-more-requires
put-vars-requires c κs =
    let a = c.args in
    omega (arith, opening_length a.inputs.now a.outputs.now)

put-vars-requires-2 : tie.Need-put_vars-end-requires
put-vars-requires-2 c κs =
    let a = c.args in
    omega (arith, opening_length a.inputs.now a.outputs.now)

put-bytes-requires-2 : tie.Need-put_bytes-start-requires
put-bytes-requires-2 c κs =
    let a = c.args in
    omega (arith, opening_length a.inputs.now a.outputs.now)

put-time-requires : tie.Need-put_time-requires
put-time-requires c κs =
    let a = c.args in
    omega (arith, opening_length a.inputs.now a.outputs.now)

returns : tie.Need-returns
unfolding header
returns c =
    let l = opening_length c.args.inputs.now c.args.outputs.now in
    let two = wrote_then (omega arith) c.put_bytes-vars.ensures c.put_vars-more.ensures in
    let three = wrote_then (omega arith) two c.put_vars-end.ensures in
    wrote_then (omega arith) (wrote_then (omega arith) three c.put_bytes-start.ensures) c.put_time.ensures

pub put_opening_spec : {M : Type 1} → statement M
put_opening_spec = tie.close (tie.spec put-bytes-requires put-vars-requires put-vars-requires-2 put-bytes-requires-2 put-time-requires (λ c. search rules) returns)
