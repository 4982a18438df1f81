-- A rule whose bounds do not hold takes nothing, and else its bytes say what it takes.
use Rattle.std.proofs.Common.{sym, ◌∙◌}
use Rattle.policy.specs.File.{rule_from}
use Rattle.stepping.specs.Pass.{parted_bounds, parted_taken, parted_so}
use Rattle.leading.proofs.share.part_of.Goals as goal

pub returns-then-not-held : goal.returns-then-not-held
returns-then-not-held c = parted_bounds _ (sym c.held.ensures ∙ c.if-not-held.true)

pub is_left-requires : goal.is_left-requires
unfolding rule_from
is_left-requires c =
    let k = c.requires in
    rw (c.byte_within-care.ensures.0, c.byte_within-value.ensures.0) (k.3, k.2.ours.care, k.2.ours.formed.inputs)

-- Whether the rule takes something is said of its bytes.
pub returns-then-not-is_left : goal.returns-then-not-is_left
unfolding rule_from
returns-then-not-is_left c =
    let left = rw (c.outs-set.ensures, c.byte_within-care.ensures.0, c.byte_within-value.ensures.0, c.byte_within.ensures.0, c.byte_within-2.ensures.0) at c.is_left.ensures in
    parted_taken _ (sym c.held.ensures ∙ c.if-not-held.false) (sym (c.if-not-is_left.true) ∙ left)

pub returns : goal.returns
unfolding rule_from
returns c =
    let left = rw (c.outs-set.ensures, c.byte_within-care.ensures.0, c.byte_within-value.ensures.0, c.byte_within.ensures.0, c.byte_within-2.ensures.0) at c.is_left.ensures in
    let ours = c.requires.2.ours in
    rw (c.outs-set.ensures, c.byte_within-care.ensures.0, c.byte_within-value.ensures.0, c.byte_within.ensures.0, c.byte_within-2.ensures.0)
    (parted_so _ (sym c.held.ensures ∙ c.if-not-held.false) ours.care ours.formed.inputs (sym (c.if-not-is_left.false) ∙ left))
