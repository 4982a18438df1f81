-- The answer of clean in one number, and its slices.
use Rattle.std.proofs.Common.{ap, sym, ◌∙◌, arith}
use Rattle.cleaning.specs.Short.{lengths_few}
use Rattle.groovepawn.specs.Clean.{lengths_word, clean_word}
use Rattle.groovepawn.proofs.clean_call.groovepawn_clean.Goals as goal

pub overflow_mul-result : goal.overflow_mul-result
overflow_mul-result c = omega (arith, lengths_few _ _ _ _ _ (sym c.in-Ok.ensures.said))

pub overflow_mul-result-in-Ok : goal.overflow_mul-result-in-Ok
overflow_mul-result-in-Ok c = omega (arith, lengths_few _ _ _ _ _ (sym c.in-Ok.ensures.said))

pub overflow_add-result : goal.overflow_add-result
overflow_add-result c = omega (arith, lengths_few _ _ _ _ _ (sym c.in-Ok.ensures.said))

pub returns-in-Ok : goal.returns-in-Ok
unfolding clean_word
returns-in-Ok c = let e = c.in-Ok.ensures in record { said = ap lengths_word e.said; cleaned = e.cleaned; struck = e.struck }

pub returns-in-Err : goal.returns-in-Err
unfolding clean_word
returns-in-Err c =
    let e = c.in-Err.ensures in record { said = c.from.ensures ∙ c.refusal_word.ensures ∙ ap lengths_word e.said; cleaned = e.cleaned; struck = e.struck }
