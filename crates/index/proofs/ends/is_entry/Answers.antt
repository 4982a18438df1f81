use Rattle.std.proofs.Common.{sym, ◌∙◌, ne_eqb}
use Rattle.index.proofs.Laws.{past_first, past_number, within_first, within_number}
use Rattle.index.proofs.ends.is_entry.Goals as goal

pub returns-then-given-eq0 : goal.returns-then-given-eq0
returns-then-given-eq0 c = sym (past_number c.requires.0 _ _ c.if-layout-location.true c.if-given-eq0.true)

pub returns-else-given-eq0 : goal.returns-else-given-eq0
returns-else-given-eq0 c =
    ne_eqb _ _ c.if-given-eq0.false ∙ sym (past_first c.requires.0 _ _ c.if-layout-location.true c.if-given-eq0.false)

pub returns-then-given-first : goal.returns-then-given-first
returns-then-given-first c =
    c.has_exactly.ensures ∙ sym (within_number c.requires.0 _ _ c.if-layout-location.false c.requires.1 c.if-given-first.true)

pub returns-else-given-first : goal.returns-else-given-first
returns-else-given-first c =
    ne_eqb _ _ c.if-given-first.false ∙ sym (within_first c.requires.0 _ _ c.if-layout-location.false c.requires.1 c.if-given-first.false)
