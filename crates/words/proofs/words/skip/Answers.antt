use Rattle.std.proofs.Common.{arith, sym}
use Rattle.words.specs.Lex.{blanks_more, blanks_done, blanks_end}
use Rattle.words.proofs.words.skip.Goals as goal

pub returns-then-not-is_skipped : goal.returns-then-not-is_skipped
returns-then-not-is_skipped c =
    let i = c.loop-i.i in
    omega (arith, c.loop-i.invariant, blanks_done c.args.line.now i (omega arith) (sym c.if-not-is_skipped.ensures))

pub loop-i-preserved : goal.loop-i-preserved
loop-i-preserved c =
    let i = c.loop-i.i in
    omega (arith, c.loop-i.invariant, blanks_more c.args.line.now i (omega arith) (sym c.if-not-is_skipped.ensures))

pub returns : goal.returns
returns c =
    omega (arith, c.loop-i.invariant, blanks_end c.args.line.now c.loop-i.i (omega arith))
