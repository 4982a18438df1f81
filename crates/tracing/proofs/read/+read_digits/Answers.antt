-- `tracing::read::read_digits` meets its contract: one digit more, or the end of the number.
use mathlib.Core.Path.{sym, ap, ◌∙◌}
use native.Mathlib.Omega.{arith}
use lib.ListN.{get_or}
use Rattle.tracing.specs.Read.{goes_true, digits_on, digits_stop, digits_end}
use Rattle.drawing.specs.Times.{NumberThere}
use Rattle.tracing.proofs.read.+read_digits.Goals as goal

pub overflow_mul-v : goal.overflow_mul-v
overflow_mul-v t c =
    let g = goes_true c.args.v (get_or c.args.text.now c.args.at 0) (sym c.goes_on.ensures ∙ c.if-goes_on.true) in
    omega arith

pub overflow_sub-digit : goal.overflow_sub-digit
overflow_sub-digit t c =
    let g = goes_true c.args.v (get_or c.args.text.now c.args.at 0) (sym c.goes_on.ensures ∙ c.if-goes_on.true) in
    omega arith

pub overflow_add-v : goal.overflow_add-v
overflow_add-v t c =
    let g = goes_true c.args.v (get_or c.args.text.now c.args.at 0) (sym c.goes_on.ensures ∙ c.if-goes_on.true) in
    omega arith

pub returns-then-goes_on : goal.returns-then-goes_on
returns-then-goes_on t c =
    let a = c.args in
    let r = c.read_digits.ensures in
    let e = digits_on a.text.now a.at a.v (omega arith) (sym c.goes_on.ensures ∙ c.if-goes_on.true) in
    record {
      value = r.value ∙ ap (λ (n : NumberThere). n.value) (sym e);
      rest = r.rest ∙ ap (λ (n : NumberThere). n.rest) (sym e);
      between = record { after = omega arith; within = r.between.within };
    }

pub returns-then-at-text : goal.returns-then-at-text
returns-then-at-text t c =
    let a = c.args in
    let e = digits_stop a.text.now a.at a.v (omega arith) (sym c.goes_on.ensures ∙ c.if-goes_on.false) in
    record {
      value = ap (λ (n : NumberThere). n.value) (sym e);
      rest = ap (λ (n : NumberThere). n.rest) (sym e);
      between = record { after = omega arith; within = omega arith };
    }

pub returns : goal.returns
returns t c =
    let a = c.args in
    let e = digits_end a.text.now a.at a.v (omega arith) in
    record {
      value = ap (λ (n : NumberThere). n.value) (sym e);
      rest = ap (λ (n : NumberThere). n.rest) (sym e);
      between = record { after = omega arith; within = omega arith };
    }
