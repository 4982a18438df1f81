-- The refusal, or the number of states, in one number.
use Rattle.std.proofs.Common.{arith}
use Rattle.groovepawn.specs.Check.{checked_word}
use Rattle.groovepawn.proofs.check_call.groovepawn_check.Goals as goal

pub overflow_mul-result : goal.overflow_mul-result
overflow_mul-result c = let k = rw (← c.in-Ok.ensures) at (checked_word c.args.file.now) in omega (arith, k.0)

pub returns-in-Ok : goal.returns-in-Ok
returns-in-Ok c = let k = rw (← c.in-Ok.ensures) at (checked_word c.args.file.now) in record { said = omega (arith, k.1) }

pub returns-in-Err : goal.returns-in-Err
returns-in-Err c =
    let k = rw (← c.in-Err.ensures) at (checked_word c.args.file.now) in record { said = omega (arith, c.refusal_word.ensures, k.1) }
