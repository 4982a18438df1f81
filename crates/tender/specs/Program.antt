-- What the program `enforce`, which uses reading 1, prints for 01's sample: one statement, by computation.
use Rattle.std.specs.Prelude.{◌≡◌, refl, [], ◌∷◌, ◌++◌}
use Rattle.texts.specs.Text.{ascii, digits, decimal}
use Rattle.printing.specs.Text.{verdict_line, refused_line, tick_line, tick_lines}
use Rattle.frames.specs.Frame.{count_refusal}
use Rattle.console.specs.Outcome.{lent, events_refusal, outcome}
use Rattle.console.specs.Printed.{printed}
use Rattle.tender.specs.Samples.{T}
use Rattle.prepare.specs.Computing.{the_file, the_check, a_step, the_marks, the_run}

-- "Input `00 18`, T, `00 02 01 11` prints in full".
pub sample : printed (0x00 ∷ 0x18 ∷ T ++ (0x00 ∷ 0x02 ∷ 0x01 ∷ 0x11 ∷ [])) ≡ ascii "verdict 1 states 2 live 1\n1 1 0 0 0 EF\n2 1 1 0 1 EF\n"
unfolding
    the_file the_check a_step the_marks the_run printed lent outcome events_refusal count_refusal digits decimal verdict_line refused_line tick_line tick_lines
sample = refl
