use Rattle.std.proofs.Common.{arith}
use Rattle.words.specs.Lex.{line_more, line_done, line_last, next_line}
use Rattle.words.proofs.words.line_end.Goals as goal

pub returns-then-text-i-eq10 : goal.returns-then-text-i-eq10
returns-then-text-i-eq10 c =
    let text = c.args.text.now in
    let i = c.loop-i.i in
    next_line text c.args.at i c.requires (omega (arith, c.loop-i.invariant, line_done text i (omega arith) c.if-text-i-eq10.true))

pub loop-i-preserved : goal.loop-i-preserved
loop-i-preserved c =
    let text = c.args.text.now in
    let i = c.loop-i.i in
    omega (arith, c.loop-i.invariant, line_more text i (omega arith) c.if-text-i-eq10.false)

pub returns : goal.returns
returns c =
    let text = c.args.text.now in
    let i = c.loop-i.i in
    next_line text c.args.at _ c.requires (omega (arith, c.loop-i.invariant, line_last text i (omega arith)))
