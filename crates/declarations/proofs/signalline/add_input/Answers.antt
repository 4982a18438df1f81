use Rattle.std.proofs.Common.{arith}
use Rattle.declarations.specs.Fresh.{names_more}
use Rattle.declarations.specs.SignalLine.{input_more, fit_input}
use Rattle.declarations.proofs.signalline.add_input.Goals as goal

pub returns : goal.returns
returns c =
    let a = c.args in
    let f = c.requires.3 in
    let p = c.requires.4 in
    (input_more f p a.a a.size a.tag c.requires.1 c.requires.2, fit_input f p a.a a.size a.tag c.requires.1 c.requires.2, names_more p a.table.signals a.a a.size (omega (arith, f.inputs, f.outputs)) c.requires.0)
