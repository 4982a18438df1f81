-- Test by test.
use Rattle.std.proofs.Common.{sym, arith}
use Rattle.tracing.specs.Next.{next_untimed, next_early, next_closes, next_none, next_other, next_changes}
use Rattle.tracing.proofs.next.read_next.Goals as goal

pub returns-in_err-line : goal.returns-in_err-line
returns-in_err-line c =
    let a = c.args in
    rw c.from_residual.ensures
    record { said = sym (next_untimed a.inputs.now a.outputs.now a.text.now a.at a.from a.before c.in_err-line.ensures); between = tt }

pub returns-then-time-from : goal.returns-then-time-from
returns-then-time-from c =
    let a = c.args in
    record {
      said = sym (next_early a.inputs.now a.outputs.now a.text.now a.at a.from a.before c.in_ok-line.ensures c.if-time-from.true);
      between = tt;
    }

pub returns-then-after-text : goal.returns-then-after-text
returns-then-after-text c =
    let a = c.args in
    record {
      said = sym (next_closes a.inputs.now a.outputs.now a.text.now a.at a.from a.before c.in_ok-line.ensures c.if-time-from.false c.if-after-text.true);
      between = tt;
    }

pub returns-then-shown-eq0 : goal.returns-then-shown-eq0
returns-then-shown-eq0 c =
    let a = c.args in
    let t = c.in_ok-line.ensures in
    let b = t.between in
    record {
      said = sym (next_none a.inputs.now a.outputs.now a.text.now a.at a.from a.before t c.if-time-from.false (omega arith) c.read_event-lines.ensures (omega arith));
      between = tt;
    }

pub returns-then-event-shown : goal.returns-then-event-shown
returns-then-event-shown c =
    let a = c.args in
    let t = c.in_ok-line.ensures in
    let b = t.between in
    record {
      said = sym (next_other a.inputs.now a.outputs.now a.text.now a.at a.from a.before t c.if-time-from.false (omega arith) c.read_event-lines.ensures c.if-event-shown.true);
      between = tt;
    }

pub returns : goal.returns
returns c =
    let a = c.args in
    let t = c.in_ok-line.ensures in
    let b = t.between in
    let l = c.read_event-lines.ensures in
    record {
      said = next_changes a.inputs.now a.outputs.now a.text.now a.at a.from a.before t c.if-time-from.false (omega arith) l (omega arith) c.if-event-shown.false;
      between = record { after = omega (arith, b.after, l.between.after); within = l.between.within };
    }
