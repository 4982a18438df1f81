-- A turn takes one clock on.
use Rattle.std.proofs.Common.{sym, ◌∙◌, length-set, arith}
use borrow.Author.Tests.{eq-eqb, ne_eqb}
use Rattle.stepping.proofs.Laws.{advanced_turn, advanced_ends}
use Rattle.stepping.proofs.next.advanced.Goals as goal
use Rattle.stepping.proofs.next.advanced.Goals.{then-rest-eq1, else-rest-eq1+then-value-ceiling, else-rest-eq1+else-value-ceiling}

pub loop-i-preserved : goal.loop-i-preserved
loop-i-preserved c =
    let l = c.loop-i in
    let a = c.args in
    let turn = advanced_turn a.ceilings a.values l.rest l.i l.next {v = c.if-rest-eq1.next} (omega arith) (omega arith) (omega arith) in (
      length-set l.next l.i c.if-rest-eq1.next ∙ l.invariant.0,
      l.invariant.1 ∙ elim c.if-rest-eq1.branch [
        | then-rest-eq1 w ↦ turn (rw (eq-eqb _ _ w.if-rest-eq1.true) w.next-is)
        | else-rest-eq1+then-value-ceiling w ↦ turn (rw (ne_eqb _ _ w.if-rest-eq1.false) (omega arith))
        | else-rest-eq1+else-value-ceiling w ↦ turn (rw (ne_eqb _ _ w.if-rest-eq1.false) (omega arith))
      ],
    )

pub returns : goal.returns
returns c =
    let l = c.loop-i in
    sym (l.invariant.1 ∙ advanced_ends c.args.ceilings c.args.values l.rest l.i l.next (omega arith) (omega arith))
