use Rattle.std.proofs.Common.{◌∙◌}
use Rattle.streams.specs.Answer.{refused, gives}
use Rattle.refusals.specs.Refused.{number_of}
use Rattle.declarations.specs.Table.{draft_of, table_handed}
use Rattle.declarations.specs.PlaceLine.{location_none, location_by}
use Rattle.declarations.proofs.placeline.read_location.Goals as goal

pub returns-then-name-clause-said : goal.returns-then-name-clause-said
returns-then-name-clause-said c =
    let a = c.args in
    λ rules. location_none (draft_of a.text.now a.starts.now a.lengths.now a.left.now a.table rules) c.word_in-name.ensures c.if-name.true

pub returns-in_err-byte-clause-said : goal.returns-in_err-byte-clause-said
returns-in_err-byte-clause-said c =
    let a = c.args in
    λ rules. table_handed _ _ _ _ rules _ _ c.from_residual.ensures.1
    ∙ location_by (draft_of a.text.now a.starts.now a.lengths.now a.left.now a.table rules) c.word_in-name.ensures c.if-name.false (refused (number_of c.in_err-byte.field-0.0)) c.in_err-byte.ensures

pub returns-clause-said : goal.returns-clause-said
returns-clause-said c =
    let a = c.args in
    λ rules. c.place.ensures.said rules
    ∙ location_by (draft_of a.text.now a.starts.now a.lengths.now a.left.now a.table rules) c.word_in-name.ensures c.if-name.false (gives c.in_ok-byte.byte) c.in_ok-byte.ensures
