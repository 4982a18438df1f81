-- The writer gives a length, or the line of its refusal is printed.
use Rattle.std.proofs.Common.{List, ℕ, subst, ◌∙◌}
use Rattle.refusals.specs.Refused.{number_of}
use Rattle.texts.specs.Wrote.{Wrote}
use Rattle.printing.specs.Text.{refused_line}
use Rattle.printing.specs.Reply.{replied}
use Rattle.viewer.specs.Ways.{file_written, file_refused}
use Rattle.viewer.proofs.write_file.Goals as goal

pub returns-in-Ok : goal.returns-in-Ok
returns-in-Ok c = replied (file_written _ _ _ c.requires c.in-Ok.ensures) c.write.auto.text

pub returns-in-Err : goal.returns-in-Err
returns-in-Err c =
    let f = file_refused _ _ _ c.requires c.in-Err.ensures in
    rw f.0
    (replied
    (subst (λ (text : List ℕ). Wrote text 0 (refused_line (number_of c.in-Err.refusal)) c.put_refused.result c.put_refused.new.text) f.1
    (rw c.from.ensures at c.put_refused.ensures))
    (c.put_refused.auto.text ∙ c.write.auto.text))
