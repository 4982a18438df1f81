-- By its refusals, in their order.
use Rattle.std.proofs.Common.{ap, sym, ◌∙◌, arith}
use Rattle.streams.specs.Answer.{refused, gives}
use Rattle.refusals.specs.Refused.{number_of}
use Rattle.refusals.specs.Laws.{number_above}
use Rattle.words.specs.Firsts.{count_of, first_held, second_held, word_of, two_words}
use Rattle.declarations.specs.Fresh.{spans_long}
use Rattle.declarations.specs.Table.{draft_of, table_handed, not_two}
use Rattle.declarations.specs.ClockLine.{clock_refusal, clock_form, clock_late, clock_named, clock_read, clock_last, clock_given}
use Rattle.declarations.proofs.clockline.read_clock.Goals as goal

pub returns-in_default : goal.returns-in_default
returns-in_default c =
    let a = c.args in
    record {
      said = λ left rules l e. clock_form (draft_of a.text.now a.starts.now a.lengths.now left a.table rules) (count_of a.few) (word_of a.text.now (first_held a.few)) (word_of a.text.now (second_held a.few)) l (not_two a.few c.in_default.not-Two) e;
      fit = tt;
      names = c.requires.2;
    }

pub returns-then-table-gt3-clause-said : goal.returns-then-table-gt3-clause-said
returns-then-table-gt3-clause-said c =
    let a = c.args in
    λ left rules l e. clock_late (draft_of a.text.now a.starts.now a.lengths.now left a.table rules) (word_of a.text.now c.in-Two.name) (word_of a.text.now c.in-Two.number) l (two_words a.text.now a.few c.in-Two.name c.in-Two.number l c.in-Two.is e) c.if-table-gt3.true

pub returns-in_err-check_name-clause-said : goal.returns-in_err-check_name-clause-said
returns-in_err-check_name-clause-said c =
    let a = c.args in
    λ left rules l e. table_handed _ _ _ _ rules _ _ c.from_residual.ensures.1
    ∙ clock_named (draft_of a.text.now a.starts.now a.lengths.now left a.table rules) (word_of a.text.now c.in-Two.name) (word_of a.text.now c.in-Two.number) l (two_words a.text.now a.few c.in-Two.name c.in-Two.number l c.in-Two.is e) c.if-table-gt3.false _ c.in_err-check_name.ensures.said (λ z. omega (arith, number_above c.in_err-check_name.field-0.0))

pub returns-in_err-ceiling-clause-said : goal.returns-in_err-ceiling-clause-said
returns-in_err-ceiling-clause-said c =
    let a = c.args in
    λ left rules l e. table_handed _ _ _ _ rules _ _ c.from_residual-in_err-ceiling.ensures.1
    ∙ clock_read (draft_of a.text.now a.starts.now a.lengths.now left a.table rules) (word_of a.text.now c.in-Two.name) (word_of a.text.now c.in-Two.number) l (two_words a.text.now a.few c.in-Two.name c.in-Two.number l c.in-Two.is e) c.if-table-gt3.false c.in_ok-check_name.ensures.said (refused (number_of c.in_err-ceiling.field-0.0)) c.in_err-ceiling.ensures

pub returns-in_err-check_clock-clause-said : goal.returns-in_err-check_clock-clause-said
returns-in_err-check_clock-clause-said c =
    let a = c.args in
    λ left rules l e. table_handed _ _ _ _ rules _ _ c.from_residual-in_err-check_clock.ensures.1
    ∙ clock_last (draft_of a.text.now a.starts.now a.lengths.now left a.table rules) (word_of a.text.now c.in-Two.name) (word_of a.text.now c.in-Two.number) l (two_words a.text.now a.few c.in-Two.name c.in-Two.number l c.in-Two.is e) c.if-table-gt3.false c.in_ok-check_name.ensures.said c.in_ok-ceiling.ceiling c.in_ok-ceiling.ensures _
    (c.in_err-check_clock.ensures ∙ ap (clock_refusal c.in_ok-ceiling.ceiling) (sym (spans_long a.text.now a.starts.now a.lengths.now 8 a.table.clocks)))
    (λ z. omega (arith, number_above c.in_err-check_clock.field-0.0))

pub returns-clause-said : goal.returns-clause-said
returns-clause-said c =
    let a = c.args in
    λ left rules l e. ap gives (c.add_clock.ensures.0 left rules)
    ∙ clock_given (draft_of a.text.now a.starts.now a.lengths.now left a.table rules) (word_of a.text.now c.in-Two.name) (word_of a.text.now c.in-Two.number) l (two_words a.text.now a.few c.in-Two.name c.in-Two.number l c.in-Two.is e) c.if-table-gt3.false c.in_ok-check_name.ensures.said c.in_ok-ceiling.ceiling c.in_ok-ceiling.ensures
    (c.in_ok-check_clock.ensures ∙ ap (clock_refusal c.in_ok-ceiling.ceiling) (sym (spans_long a.text.now a.starts.now a.lengths.now 8 a.table.clocks)))
