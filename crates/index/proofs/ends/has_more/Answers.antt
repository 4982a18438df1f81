use Rattle.std.proofs.Common.{◌+◌, arith, sym, ◌∙◌}
use Rattle.std.proofs.lemmas.Bool.{le-ltb}
use Rattle.index.specs.Sections.{sections_passed, sections_within, sections_more, sections_past}
use Rattle.index.proofs.ends.has_more.Goals as goal

pub overflow_add-rule : goal.overflow_add-rule
overflow_add-rule c = omega (arith, sections_passed c.requires.0 _ _ c.requires.1)

pub overflow_add-layout : goal.overflow_add-layout
overflow_add-layout c = omega (arith, sections_within c.requires.0 (c.args.first + c.args.count) c.if-rule-layout.true)

pub byte_within-requires : goal.byte_within-requires
byte_within-requires c = sections_within c.requires.0 (c.args.first + c.args.count) c.if-rule-layout.true

pub returns-then-rule-layout : goal.returns-then-rule-layout
returns-then-rule-layout c = rw c.byte_within.ensures.0 (sections_more c.requires.0 _ _ c.requires.1 _ c.if-rule-layout.true)

pub returns-else-rule-layout : goal.returns-else-rule-layout
returns-else-rule-layout c =
    le-ltb _ _ c.if-rule-layout.false ∙ sym (sections_past c.requires.0 _ _ c.requires.1 _ c.if-rule-layout.false)
