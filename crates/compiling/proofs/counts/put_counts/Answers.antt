-- One section after another, each as long as the table says.
use Rattle.std.proofs.Common.{◌-◌, ◌≤◌, arith, length, drop, length-drop}
use Rattle.std.proofs.Math.Seq.{length-take-le}
use Rattle.compiling.specs.Counts.{ceilings_long, wrote_counts}
use Rattle.compiling.proofs.counts.put_counts.Goals as goal

pub returns : goal.returns
returns c =
    let t = c.args.table in
    let fit = c.requires.3 in
    let after : t.signals - t.inputs ≤ length (drop t.inputs t.tags) = simp length-drop (omega (arith, fit.order, fit.tags_long)) in
    let inputs = rw (length-take-le t.inputs t.tags (omega (arith, fit.order, fit.tags_long))) at c.put_section-inputs.ensures.0 in
    let outputs = rw (length-take-le (t.signals - t.inputs) (drop t.inputs t.tags) after) at c.put_section-outputs.ensures.0 in
    let clocks = rw (ceilings_long fit) at c.put_ceilings-clocks.ensures.0 in
    let places = rw (length-take-le t.places c.args.left.now (omega arith)) at c.put_section-places.ensures.0 in
    wrote_counts c.args.count inputs outputs clocks places c.put_bytes.ensures c.high_byte.ensures c.low_byte.ensures
