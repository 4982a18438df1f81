use Rattle.std.proofs.Common.{arith}
use Rattle.tracing.specs.Read.{lines_small, read_both}
use Rattle.tracing.proofs.read.read_event.Goals as goal

pub both_lines-requires : goal.both_lines-requires
both_lines-requires c =
    let t = c.args.text.now in
    let x = c.read_lines-x in
    let l = lines_small t c.args.at c.args.inputs.now 0 (omega arith) x.ensures in
    let m = lines_small t x.result.next c.args.outputs.now 0 (omega arith) c.read_lines-y.ensures in
    (omega arith, omega arith, omega arith, omega arith)

pub returns : goal.returns
returns c = read_both c.read_lines-x.ensures c.read_lines-y.ensures c.both_lines.ensures
