use Rattle.std.proofs.Common.{◌≡◌, ◌+◌, ◌-◌, sym, ◌∙◌, arith, length-take, length-drop}
use Rattle.std.proofs.Math.Nat.{add-mul}
use Rattle.std.proofs.lemmas.Bool.{le-ltb}
use Rattle.policy.specs.File.{rule_size}
use Rattle.index.specs.Index.{entry_of}
use Rattle.index.specs.Names.{entry_within}
use Rattle.index.specs.Sections.{sections_limits, sections_filled, sections_number, sections_passed}
use Rattle.index.proofs.entry.entry_at.Goals as goal

pub returns-then-layout-location : goal.returns-then-layout-location
unfolding entry_of
returns-then-layout-location c = rw (le-ltb c.args.location _ (rw c.requires.0.locations at c.if-layout-location.true))

pub slice_bounds-rules_below-count : goal.slice_bounds-rules_below-count
slice_bounds-rules_below-count c = omega (arith, sections_limits c.requires.0)

pub slice_bounds-rules_below-start : goal.slice_bounds-rules_below-start
slice_bounds-rules_below-start c = omega (arith, sections_limits c.requires.0)

pub slice_bounds-rules_below-end : goal.slice_bounds-rules_below-end
slice_bounds-rules_below-end c = omega (arith, sections_limits c.requires.0)

pub overflow_mul-first : goal.overflow_mul-first
overflow_mul-first c = omega (arith, sections_passed c.requires.0 _ _ c.requires.1)

pub overflow_sub-layout : goal.overflow_sub-layout
overflow_sub-layout c = (sections_number c.requires.0 _ _ c.requires.1).0

pub rules_below-number-requires : goal.rules_below-number-requires
rules_below-number-requires c =
    let a = c.args in
    let few = (sections_number c.requires.0 _ _ c.requires.1).0 in
    let all : a.first + (a.layout.rules - a.first) ≡ a.layout.rules = omega (arith, few) in
    simp (length-take, length-drop)
    (omega (
      arith,
      few,
      sections_passed c.requires.0 _ _ c.requires.1,
      sections_limits c.requires.0,
      sections_filled c.requires.0,
      rw all at (add-mul a.first (a.layout.rules - a.first) (rule_size a.layout.clocks)),
    ))

pub returns : goal.returns
returns c =
    let a = c.args in
    let many = c.rules_below-number.ensures ∙ (sections_number c.requires.0 a.location a.first c.requires.1).1 in
    let within = entry_within a.file.now c.requires.0.passes a.location (omega (arith, c.requires.0)) in
    (λ i. record { first = c.requires.1 i; number = many i }) ∙ sym within
