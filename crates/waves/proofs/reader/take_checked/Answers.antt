-- No stream, no room, or the events.
use Rattle.std.proofs.Common.{[], ◌∷◌, arith}
use Rattle.waves.specs.BySignals.{taken_none, taken_short, taken_all}
use Rattle.waves.proofs.reader.take_checked.Goals as goal

pub returns-in_default : goal.returns-in_default
returns-in_default c =
    let a = c.args in
    taken_none a.inputs.now a.outputs.now c.requires a.text.now a.events.now (0 ∷ []) c.read_stream.new.events c.in_default.ensures

pub returns-then-events-count : goal.returns-then-events-count
returns-then-events-count c =
    let a = c.args in
    taken_short a.inputs.now a.outputs.now c.requires a.text.now a.events.now (0 ∷ []) c.read_stream.new.events c.in-Some.count c.in-Some.ensures (omega arith)

pub returns : goal.returns
returns c =
    let a = c.args in
    let k = c.read_stream-2 in
    taken_all a.inputs.now a.outputs.now c.requires a.text.now a.events.now (0 ∷ []) c.read_stream.new.events k.new.events c.in-Some.count k.result
    c.in-Some.ensures (omega arith) k.ensures
