use Rattle.std.proofs.Common.{sym}
use Rattle.words.specs.Firsts.{count_of, first_held, second_held, word_of, one_word}
use Rattle.declarations.specs.Table.{draft_of, at_form, at_unknown, at_falls, at_given, not_one, source_some, rises_on, rises_first}
use Rattle.declarations.proofs.table.read_at.Goals as goal
use Rattle.declarations.proofs.table.read_at.Goals.{else-table-lt64-via-then-table-lt64+else-location-table, else-table-lt64-via-else-table-lt64}

pub returns-in_default : goal.returns-in_default
returns-in_default c =
    let a = c.args in
    record {
      said = λ left rules l e. at_form (draft_of a.text.now a.starts.now a.lengths.now left a.table rules) (count_of a.few) (word_of a.text.now (first_held a.few)) (word_of a.text.now (second_held a.few)) l (not_one a.few c.in_default.not-One) e;
      fit = tt;
    }

pub returns-then-location-table-clause-said : goal.returns-then-location-table-clause-said
returns-then-location-table-clause-said c =
    let a = c.args in
    λ left rules l e. at_falls (draft_of a.text.now a.starts.now a.lengths.now left a.table rules) (word_of a.text.now c.in-One.name) l (one_word a.text.now a.few c.in-One.name l c.in-One.is e) (sym c.in-Some.ensures.found) (source_some a.table.source c.if-table-lt64.true) c.if-location-table.true

pub returns-else-table-lt64-clause-said : goal.returns-else-table-lt64-clause-said
returns-else-table-lt64-clause-said c =
    let a = c.args in
    let k = c.in-Some.location in
    λ left rules l e. at_given a.text.now a.starts.now a.lengths.now left a.table rules (word_of a.text.now c.in-One.name) l (one_word a.text.now a.few c.in-One.name l c.in-One.is e) (sym c.in-Some.ensures.found) c.in-Some.ensures.within c.requires.1.places
    (elim c.else-table-lt64.branch [
      | else-table-lt64-via-then-table-lt64+else-location-table w ↦ rises_on (draft_of a.text.now a.starts.now a.lengths.now left a.table rules) a.table.source k w.if-table-lt64.true w.if-location-table.false
      | else-table-lt64-via-else-table-lt64 w ↦ rises_first (draft_of a.text.now a.starts.now a.lengths.now left a.table rules) a.table.source k w.if-table-lt64.false
    ])

pub returns-in-None-clause-said : goal.returns-in-None-clause-said
returns-in-None-clause-said c =
    let a = c.args in
    λ left rules l e. at_unknown (draft_of a.text.now a.starts.now a.lengths.now left a.table rules) (word_of a.text.now c.in-One.name) l (one_word a.text.now a.few c.in-One.name l c.in-One.is e) (sym c.in-None.ensures.found)
