-- The file is refused, or its text is written.
use Rattle.std.proofs.Common.{List, ℕ, refl, subst, ◌∙◌, arith}
use Rattle.refusals.specs.Refused.{number_of}
use Rattle.refusals.specs.Laws.{number_above}
use Rattle.texts.specs.Wrote.{Wrote}
use Rattle.printing.specs.Text.{refused_line}
use Rattle.printing.specs.Reply.{replied}
use Rattle.translating.specs.Ways.{refused_way, shown_way}
use Rattle.translating.proofs.to_text.reply.Goals as goal

pub returns-in-Ok : goal.returns-in-Ok
returns-in-Ok c = replied (shown_way c.args.file.now c.args.text.now c.requires c.in-Ok.ensures refl) c.show.auto.out

pub returns-in-Err : goal.returns-in-Err
returns-in-Err c =
    let p = c.put_refused in
    let above = number_above c.in-Err.refusal in
    let w = refused_way c.args.file.now c.args.text.now c.requires c.in-Err.ensures (λ z. omega (arith, above)) in
    rw w.0
    (replied
    (subst (λ (b : List ℕ). Wrote b 0 (refused_line (number_of c.in-Err.refusal)) p.result p.new.text) w.1 (rw c.from.ensures at p.ensures))
    (p.auto.text ∙ c.show.auto.out))
