use Rattle.std.proofs.Common.{arith, ap, length}
use Rattle.showing.specs.Lines.{framed, text_start, text_end}
use Rattle.showing.proofs.writer.text_length.Goals as goal

pub line_count-i-end-requires : goal.line_count-i-end-requires
line_count-i-end-requires c = omega (arith, framed c.requires.0)

pub returns : goal.returns
returns c =
    let file = c.args.file.now in
    let none = text_end file (framed c.requires.0) c.loop-i.i (omega (arith, c.line_count-i-end.ensures, c.requires.0)) in
    omega (arith, c.loop-i.invariant.left, ap length none, ap length (text_start file c.requires.0.passes))
