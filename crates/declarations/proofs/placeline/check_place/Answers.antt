use Rattle.std.proofs.Common.{◌-◌, sym, ◌∙◌}
use Rattle.policy.specs.File.{part}
use Rattle.words.specs.Keywords.{name_size}
use Rattle.declarations.specs.Table.{draft_of}
use Rattle.declarations.specs.Fresh.{found_some, found_none, spans_long}
use Rattle.declarations.specs.PlaceLine.{place_late, place_unnamed, place_taken, place_full, place_given}
use Rattle.declarations.proofs.placeline.check_place.Goals as goal

pub returns-then-table-gt4-clause-said : goal.returns-then-table-gt4-clause-said
returns-then-table-gt4-clause-said c =
    let a = c.args in
    λ left rules byte. sym (place_late (draft_of a.text.now a.starts.now a.lengths.now left a.table rules) (part a.text.now a.a (a.b - a.a)) byte c.if-table-gt4.true)

pub returns-then-not-is_name-clause-said : goal.returns-then-not-is_name-clause-said
returns-then-not-is_name-clause-said c =
    let a = c.args in
    λ left rules byte. sym (place_unnamed (draft_of a.text.now a.starts.now a.lengths.now left a.table rules) (part a.text.now a.a (a.b - a.a)) byte c.if-table-gt4.false (sym c.is_name.ensures ∙ c.if-not-is_name.true))

pub returns-then-is_some-clause-said : goal.returns-then-is_some-clause-said
returns-then-is_some-clause-said c =
    let a = c.args in
    let found = found_some c.which_name.result c.which_name.ensures.found (sym c.if-is_some.ensures) in
    λ left rules byte. sym (place_taken (draft_of a.text.now a.starts.now a.lengths.now left a.table rules) (part a.text.now a.a (a.b - a.a)) byte c.if-table-gt4.false (sym c.is_name.ensures ∙ c.if-not-is_name.false) found.1)

pub returns-then-table-ge64-clause-said : goal.returns-then-table-ge64-clause-said
returns-then-table-ge64-clause-said c =
    let a = c.args in
    let none = found_none c.which_name.result c.which_name.ensures.found (sym c.if-is_some.ensures) in
    λ left rules byte. sym (place_full (draft_of a.text.now a.starts.now a.lengths.now left a.table rules) (part a.text.now a.a (a.b - a.a)) byte c.if-table-gt4.false (sym c.is_name.ensures ∙ c.if-not-is_name.false) none (rw (spans_long a.text.now a.starts.now a.lengths.now 12 a.table.places) c.if-table-ge64.true))

pub returns-clause-said : goal.returns-clause-said
returns-clause-said c =
    let a = c.args in
    let none = found_none c.which_name.result c.which_name.ensures.found (sym c.if-is_some.ensures) in
    λ left rules byte. sym (place_given (draft_of a.text.now a.starts.now a.lengths.now left a.table rules) (part a.text.now a.a (a.b - a.a)) byte c.if-table-gt4.false (sym c.is_name.ensures ∙ c.if-not-is_name.false) none (rw (spans_long a.text.now a.starts.now a.lengths.now 12 a.table.places) c.if-table-ge64.false))

pub returns-clause-room : goal.returns-clause-room
returns-clause-room c = let a = c.args in (c.if-table-ge64.false, name_size a.text.now a.a a.b c.requires.0 c.requires.1 (sym c.is_name.ensures ∙ c.if-not-is_name.false))
