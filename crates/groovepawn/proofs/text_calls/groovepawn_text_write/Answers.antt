-- The refusal or the length in one number.
use Rattle.std.proofs.Common.{arith}
use Rattle.groovepawn.specs.Text.{written_word}
use Rattle.groovepawn.proofs.text_calls.groovepawn_text_write.Goals as goal

pub overflow_mul-result : goal.overflow_mul-result
overflow_mul-result c =
    let k = rw (← c.in-Ok.ensures.long, ← c.in-Ok.ensures.refuses) at (written_word c.args.file.now c.args.text.now) in omega (arith, k.0)

pub returns-in-Ok : goal.returns-in-Ok
returns-in-Ok c =
    let k = rw (← c.in-Ok.ensures.long, ← c.in-Ok.ensures.refuses) at (written_word c.args.file.now c.args.text.now) in
    record { said = omega (arith, k.1); text = c.in-Ok.ensures.writes }

pub returns-in-Err : goal.returns-in-Err
returns-in-Err c =
    let k = rw (← c.in-Err.ensures.long, ← c.in-Err.ensures.refuses) at (written_word c.args.file.now c.args.text.now) in
    record { said = omega (arith, c.from.ensures, c.refusal_word.ensures, k.1); text = c.in-Err.ensures.writes }
