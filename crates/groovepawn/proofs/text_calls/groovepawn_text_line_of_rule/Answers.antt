-- The line of a rule, or the refusal with its line, in one number.
use Rattle.std.proofs.Common.{◌+◌, ◌*◌, ◌%◌, ◌^◌, ap, arith}
use Rattle.pointing.specs.RuleAt.{RuleAt}
use Rattle.groovepawn.specs.Text.{text_rule_word}
use Rattle.groovepawn.proofs.text_calls.groovepawn_text_line_of_rule.Goals as goal

pub returns-in-Ok : goal.returns-in-Ok
unfolding text_rule_word
returns-in-Ok c = record { said = omega (arith, ap (λ (r : RuleAt). r.refusal + r.line % 2 ^ 32 * 256) c.in-Ok.ensures) }

pub returns-in-Err : goal.returns-in-Err
unfolding text_rule_word
returns-in-Err c =
    record { said = omega (arith, c.from.ensures, c.refusal_word.ensures, ap (λ (r : RuleAt). r.refusal + r.line % 2 ^ 32 * 256) c.in-Err.ensures) }
