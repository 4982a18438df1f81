use Rattle.std.proofs.Common.{ap, ◌∙◌}
use Rattle.streams.specs.Answer.{refused, gives}
use Rattle.refusals.specs.Refused.{number_of}
use Rattle.words.specs.Firsts.{count_of, first_held, second_held, word_of}
use Rattle.words.specs.declared.words.Span.{Span}
use Rattle.wording.specs.Reader.{with_input}
use Rattle.declarations.specs.Table.{draft_of, table_handed}
use Rattle.declarations.specs.SignalLine.{input_late, input_few}
use Rattle.declarations.proofs.signalline.read_input.Goals as goal

pub returns-then-table-gt1-clause-said : goal.returns-then-table-gt1-clause-said
returns-then-table-gt1-clause-said c =
    let a = c.args in
    λ left rules l e. input_late a.text.now a.starts.now a.lengths.now left c.requires.1 rules (count_of a.few) (word_of a.text.now (first_held a.few)) (word_of a.text.now (second_held a.few)) l e c.if-table-gt1.true

pub returns-in_err-tag-clause-said : goal.returns-in_err-tag-clause-said
returns-in_err-tag-clause-said c =
    let a = c.args in
    λ left rules l e. table_handed _ _ _ _ rules _ _ c.from_residual.ensures.1
    ∙ input_few a.text.now a.starts.now a.lengths.now left c.requires.1 rules a.few l e (refused (number_of c.in_err-tag.field-0.0)) c.if-table-gt1.false c.in_err-tag.ensures.said

pub returns-clause-said : goal.returns-clause-said
returns-clause-said c =
    let a = c.args in
    λ left rules l e. ap gives (c.add_input.ensures.0 left rules ∙ ap (λ (s : Span). with_input (draft_of a.text.now a.starts.now a.lengths.now left a.table rules) c.in_ok-tag.tag (word_of a.text.now s)) c.second-name.ensures)
    ∙ input_few a.text.now a.starts.now a.lengths.now left c.requires.1 rules a.few l e (gives c.in_ok-tag.tag) c.if-table-gt1.false c.in_ok-tag.ensures.said
