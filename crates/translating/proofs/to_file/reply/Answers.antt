-- The text is too long, or it is refused, or its file is written.
use Rattle.std.proofs.Common.{[], refl, sym, subst, arith}
use Rattle.refusals.specs.Laws.{number_above}
use Rattle.texts.specs.Wrote.{Wrote}
use Rattle.texts.specs.WroteLaws.{wrote_none}
use Rattle.printing.specs.Reply.{replied}
use Rattle.translating.specs.Ways.{too_long, stopped_way, read_way}
use Rattle.translating.proofs.to_file.reply.Goals as goal

pub returns-then-text-gt-TEXT : goal.returns-then-text-gt-TEXT
returns-then-text-gt-TEXT c =
    let p = c.put_stopped in
    let a = c.args in
    let t = too_long a.text.now (omega (arith, c.if-text-gt-TEXT.true)) in
    record {
      replied = rw t.0 (replied (wrote_none a.file.now 0) refl);
      replied_2 = rw t.1 (replied (rw c.from.ensures at p.ensures) p.auto.line);
    }

pub returns-in-Ok : goal.returns-in-Ok
returns-in-Ok c =
    let p = c.put_compiled in
    let a = c.args in
    let w = read_way a.text.now (omega (arith, c.if-text-gt-TEXT.false)) a.file.now c.requires.0 c.in-Ok.ensures refl in
    record { replied = replied w.0 c.compile.auto.out; replied_2 = rw w.1 (replied p.ensures p.auto.line) }

pub returns-in-Err : goal.returns-in-Err
returns-in-Err c =
    let p = c.put_stopped-in-Err in
    let a = c.args in
    let above = number_above c.in-Err.stopped.refusal in
    let w = stopped_way a.text.now (omega (arith, c.if-text-gt-TEXT.false)) a.file.now c.requires.0 c.in-Err.ensures (λ z. omega (arith, above)) in
    record {
      replied = rw w.0 (replied (subst (Wrote a.file.now 0 [] 0) (sym w.2) (wrote_none a.file.now 0)) c.compile.auto.out);
      replied_2 = rw w.1 (replied (rw c.from-in-Err.ensures at p.ensures) p.auto.line);
    }
