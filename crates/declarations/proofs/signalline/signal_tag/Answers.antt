-- By the letter, the name and room, in this order.
use Rattle.std.proofs.Common.{take, ap, ◌∙◌, arith}
use Rattle.refusals.specs.Refused.{told}
use Rattle.refusals.specs.Laws.{number_above, handed_on}
use Rattle.words.specs.Firsts.{first_span, word_of}
use Rattle.words.specs.declared.words.Span.{Span}
use Rattle.wording.specs.Reader.{letter}
use Rattle.declarations.specs.SignalLine.{tag_not, tag_named, tag_full, tag_given}
use Rattle.declarations.proofs.signalline.signal_tag.Goals as goal

pub returns-in_err-tag-clause-said : goal.returns-in_err-tag-clause-said
returns-in_err-tag-clause-said c =
    let a = c.args in
    ap told (handed_on _ _ c.from_residual.ensures.1) ∙ tag_not (take a.table.signals a.table.tags) a.count (word_of a.text.now (first_span a.few)) _ (c.in_err-tag.ensures ∙ ap (λ (s : Span). letter (take a.table.signals a.table.tags) (word_of a.text.now s)) c.first-letter.ensures) _

pub returns-in_err-check_second-clause-said : goal.returns-in_err-check_second-clause-said
returns-in_err-check_second-clause-said c =
    let a = c.args in
    ap told (handed_on _ _ c.from_residual-in_err-check_second.ensures.1) ∙ tag_named (take a.table.signals a.table.tags) a.count (word_of a.text.now (first_span a.few)) c.in_ok-tag.tag (c.in_ok-tag.ensures ∙ ap (λ (s : Span). letter (take a.table.signals a.table.tags) (word_of a.text.now s)) c.first-letter.ensures) _ c.in_err-check_second.ensures.said (λ z. omega (arith, number_above c.in_err-check_second.field-0.0))

pub returns-then-count-ge4-clause-said : goal.returns-then-count-ge4-clause-said
returns-then-count-ge4-clause-said c =
    let a = c.args in
    tag_full (take a.table.signals a.table.tags) a.count (word_of a.text.now (first_span a.few)) c.in_ok-tag.tag (c.in_ok-tag.ensures ∙ ap (λ (s : Span). letter (take a.table.signals a.table.tags) (word_of a.text.now s)) c.first-letter.ensures) c.in_ok-check_second.ensures.said c.if-count-ge4.true

pub returns-clause-said : goal.returns-clause-said
returns-clause-said c =
    let a = c.args in
    tag_given (take a.table.signals a.table.tags) a.count (word_of a.text.now (first_span a.few)) c.in_ok-tag.tag (c.in_ok-tag.ensures ∙ ap (λ (s : Span). letter (take a.table.signals a.table.tags) (word_of a.text.now s)) c.first-letter.ensures) c.in_ok-check_second.ensures.said c.if-count-ge4.false
