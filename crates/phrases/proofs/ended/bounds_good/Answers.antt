use Rattle.std.proofs.Common.{sym, ◌∙◌, arith}
use Rattle.phrases.specs.Ended.{good_start, good_fails, good_on, good_end}
use Rattle.phrases.proofs.ended.bounds_good.Goals as goal

pub loop-i-init : goal.loop-i-init
loop-i-init c = good_start c.args.ceilings c.args.low c.args.high c.args.clocks

pub returns-then-not-bound_good : goal.returns-then-not-bound_good
returns-then-not-bound_good c =
    let a = c.args in
    sym (sym c.loop-i.invariant ∙ good_fails a.ceilings a.low a.high a.clocks c.loop-i.i (omega arith) (omega arith) (omega arith) (omega arith) (sym c.bound_good.ensures ∙ c.if-not-bound_good.true))

pub loop-i-preserved : goal.loop-i-preserved
loop-i-preserved c =
    let a = c.args in
    sym (good_on a.ceilings a.low a.high a.clocks c.loop-i.i (omega arith) (omega arith) (omega arith) (omega arith) (sym c.bound_good.ensures ∙ c.if-not-bound_good.false)) ∙ c.loop-i.invariant

pub returns : goal.returns
returns c =
    let a = c.args in
    sym (sym c.loop-i.invariant ∙ good_end a.ceilings a.low a.high a.clocks c.loop-i.i (omega arith))
