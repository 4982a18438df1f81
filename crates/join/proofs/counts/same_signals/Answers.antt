-- The parts of the files that the tags are.
use Rattle.std.proofs.Common.{◌∙◌, ap₂, sym, arith}
use Rattle.policy.specs.File.{policy_of}
use Rattle.join.specs.Entry.{same_tags, same_signals}
use Rattle.join.proofs.SizeLaws.{sizes, tags_read, same_told}
use Rattle.join.proofs.counts.same_signals.Goals as goal

pub slice_bounds-eq-end : goal.slice_bounds-eq-end
slice_bounds-eq-end c = omega (arith, sizes c.requires.0, sizes c.requires.1)

pub slice_bounds-eq-end-2 : goal.slice_bounds-eq-end-2
slice_bounds-eq-end-2 c = omega (arith, sizes c.requires.0, sizes c.requires.1)

pub slice_bounds-eq-end-then-eq : goal.slice_bounds-eq-end-then-eq
slice_bounds-eq-end-then-eq c = omega (arith, sizes c.requires.0, sizes c.requires.1)

pub slice_bounds-eq-end-then-eq-2 : goal.slice_bounds-eq-end-then-eq-2
slice_bounds-eq-end-then-eq-2 c = omega (arith, sizes c.requires.0, sizes c.requires.1)

pub returns-then-eq : goal.returns-then-eq
unfolding same_signals policy_of
returns-then-eq c =
    let f = tags_read c.requires.0 in
    let g = tags_read c.requires.1 in
    rw (sym (same_told _ _ _ c.eq.ensures ∙ ap₂ same_tags f.0 g.0) ∙ c.if-eq.true) (same_told _ _ _ c.eq-then-eq.ensures ∙ ap₂ same_tags f.1 g.1)

pub returns-else-eq : goal.returns-else-eq
unfolding same_signals policy_of
returns-else-eq c =
    let f = tags_read c.requires.0 in
    let g = tags_read c.requires.1 in
    rw (sym (same_told _ _ _ c.eq.ensures ∙ ap₂ same_tags f.0 g.0) ∙ c.if-eq.false) c.if-eq.false
