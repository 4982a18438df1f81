use Rattle.std.proofs.Common.{◌+◌, arith}
use Rattle.declarations.specs.Fresh.{names_more}
use Rattle.declarations.specs.PlaceLine.{place_more, fit_place}
use Rattle.declarations.proofs.placeline.add_place.Goals as goal

pub returns : goal.returns
returns c =
    let a = c.args in
    let f = c.requires.2 in
    let p = c.requires.3 in
    (place_more f p a.a a.size a.byte c.requires.1 a.left.now c.requires.4, fit_place f c.requires.1, names_more p (12 + a.table.places) a.a a.size (omega (arith, c.requires.1)) c.requires.0)
