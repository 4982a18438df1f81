-- The answer of the conversion, rounded as asked, in one number.
use Rattle.std.proofs.Common.{◌≡◌, arith, eq-eqb, ne_eqb}
use Rattle.ticks.specs.Conversion.{upwards}
use Rattle.ticks.specs.Laws.{converted_within}
use Rattle.groovepawn.specs.Words.{is_up, ticks_word}
use Rattle.groovepawn.proofs.ticks_call.groovepawn_ticks.Goals as goal
use Rattle.groovepawn.proofs.ticks_call.groovepawn_ticks.Goals.{then-up-eq0, else-up-eq0}

pub overflow_mul-result : goal.overflow_mul-result
overflow_mul-result c = omega (arith, (converted_within c.in-Ok.ensures).1, c.count.ensures)

pub returns-in-Ok : goal.returns-in-Ok
unfolding ticks_word
returns-in-Ok c =
    let rounds : upwards c.if-up-eq0.rounding ≡ is_up c.args.up =
    elim c.if-up-eq0.branch [
      | then-up-eq0 w ↦ rw (w.rounding-is, eq-eqb _ 0 w.if-up-eq0.true)
      | else-up-eq0 w ↦ rw (w.rounding-is, ne_eqb _ 0 w.if-up-eq0.false)
    ]
    in
    record { said = rw (← rounds, ← c.in-Ok.ensures.said, ← c.count.ensures) }

pub returns-in-Err : goal.returns-in-Err
unfolding ticks_word
returns-in-Err c =
    let rounds : upwards c.if-up-eq0.rounding ≡ is_up c.args.up =
    elim c.if-up-eq0.branch [
      | then-up-eq0 w ↦ rw (w.rounding-is, eq-eqb _ 0 w.if-up-eq0.true)
      | else-up-eq0 w ↦ rw (w.rounding-is, ne_eqb _ 0 w.if-up-eq0.false)
    ]
    in
    record { said = rw (← rounds, ← c.in-Err.ensures.said) c.refusal_word.ensures }
