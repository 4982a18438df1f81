use Rattle.std.proofs.Common.{arith}
use Rattle.declarations.specs.Fresh.{names_more}
use Rattle.declarations.specs.SignalLine.{output_more, fit_output}
use Rattle.declarations.proofs.signalline.add_output.Goals as goal

pub returns : goal.returns
returns c =
    let a = c.args in
    let f = c.requires.3 in
    let p = c.requires.4 in
    (output_more f p a.a a.size a.tag c.requires.1, fit_output f p a.a a.size a.tag c.requires.1, names_more p a.table.signals a.a a.size (omega (arith, f.inputs, f.outputs)) c.requires.0)
