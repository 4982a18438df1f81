-- At most two digits each.
use Rattle.std.proofs.Common.{arith, ◌%◌, ◌/◌}
use Rattle.printing.specs.Lines.{spaced_short}
use Rattle.texts.specs.WroteLaws.{wrote_then}
use Rattle.printing.proofs.put_halves.Goals as goal

pub put_spaced-next-requires : goal.put_spaced-next-requires
put_spaced-next-requires c =
    let e = c.args.event in omega (arith, spaced_short (e % 16) 1 (omega arith))

pub put_spaced-requires : goal.put_spaced-requires
put_spaced-requires c =
    let e = c.args.event in
    omega (arith, spaced_short (e % 16) 1 (omega arith), spaced_short (e / 16) 1 (omega arith))

pub returns : goal.returns
returns c =
    wrote_then (omega arith) c.put_spaced-next.ensures c.put_spaced.ensures
