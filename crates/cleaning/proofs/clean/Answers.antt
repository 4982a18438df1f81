-- BadReading and the file's own refusals by the check, then what is left to ask.
use Rattle.std.proofs.Common.{ℕ, refl, subst}
use Rattle.refusals.specs.Refused.{told}
use Rattle.refusals.specs.Laws.{handed_on}
use Rattle.policy.specs.LayoutLaws.{said_layout, said_refusal}
use Rattle.stepping.specs.Laid.{laid_of}
use Rattle.cleaning.specs.Entry.{cleaned_file, struck_list}
use Rattle.cleaning.specs.Promise.{WritesPromise}
use Rattle.cleaning.proofs.PromiseLaws.{clean_refused, clean_past}
use Rattle.cleaning.proofs.clean.Goals as goal

pub returns-in_err-layout : goal.returns-in_err-layout
returns-in_err-layout c =
    let a = c.args in
    rw (handed_on _ _ c.from_residual.ensures.1)
    (clean_refused a.reading a.file.now a.out.now a.list.now _ (said_refusal a.reading a.file.now _ c.in_err-layout.ensures))

pub clean_with-requires : goal.clean_with-requires
clean_with-requires c =
    let a = c.args in
    (laid_of a.reading a.file.now (record { refusal = 0; layout = c.in_ok-layout.layout }) c.in_ok-layout.ensures refl).0

pub returns : goal.returns
returns c =
    let a = c.args in
    let w = c.clean_with in
    let l = (laid_of a.reading a.file.now (record { refusal = 0; layout = c.in_ok-layout.layout }) c.in_ok-layout.ensures refl).1 in
    clean_past a.reading a.file.now a.out.now a.list.now (said_layout a.reading a.file.now _ c.in_ok-layout.ensures).0
    (subst (λ (n : ℕ). WritesPromise (cleaned_file n a.file.now) (struck_list n a.file.now) a.out.now a.list.now (told w.result) w.new.out w.new.list) l w.ensures)
