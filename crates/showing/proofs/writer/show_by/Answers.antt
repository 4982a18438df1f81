-- The check, then the room.
use Rattle.std.proofs.Common.{sym, ◌∙◌, arith, leb-true, leb-false}
use Rattle.refusals.specs.Laws.{handed_on, number_above}
use Rattle.showing.specs.Lines.{laid_out}
use Rattle.showing.specs.Promise.{passed_says, refused_says, write_refused, write_short, write_whole}
use Rattle.showing.proofs.writer.show_by.Goals as goal

pub returns-in_err-layout : goal.returns-in_err-layout
returns-in_err-layout c =
    rw (handed_on _ _ c.from_residual.ensures.1)
    (write_refused _ _ (refused_says c.args.file.now c.in_err-layout.field-0.0 c.in_err-layout.ensures) (λ z. omega (arith, number_above c.in_err-layout.field-0.0)))

pub has_room-requires : goal.has_room-requires
has_room-requires c = let l = passed_says c.args.file.now c.in_ok-layout.ensures in (laid_out l.0 l.1, c.requires)

pub returns-then-not-has_room : goal.returns-then-not-has_room
returns-then-not-has_room c =
    let l = passed_says c.args.file.now c.in_ok-layout.ensures in
    write_short _ _ l.0 (leb-false _ _ (sym c.has_room.ensures ∙ c.if-not-has_room.true))

pub put_text-requires : goal.put_text-requires
put_text-requires c =
    let l = passed_says c.args.file.now c.in_ok-layout.ensures in
    (laid_out l.0 l.1, omega arith, leb-true _ _ (sym c.has_room.ensures ∙ c.if-not-has_room.false))

pub returns : goal.returns
returns c =
    let l = passed_says c.args.file.now c.in_ok-layout.ensures in
    write_whole _ _ l.0 (leb-true _ _ (sym c.has_room.ensures ∙ c.if-not-has_room.false)) c.put_text.ensures
