use Rattle.std.proofs.Common.{◌+◌, arith}
use Rattle.declarations.specs.Fresh.{names_more}
use Rattle.declarations.specs.ClockLine.{clock_more, fit_clock}
use Rattle.declarations.proofs.clockline.add_clock.Goals as goal

pub returns : goal.returns
returns c =
    let a = c.args in
    let f = c.requires.3 in
    let p = c.requires.4 in
    (clock_more f p a.a a.size a.ceiling c.requires.1, fit_clock f a.ceiling c.requires.1, names_more p (8 + a.table.clocks) a.a a.size (omega (arith, c.requires.1)) c.requires.0)
