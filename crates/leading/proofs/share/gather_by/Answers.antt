-- A rule whose bounds do not hold takes nothing, and else its bytes say what it takes, and the mark of the state that it leads to says whether that is found.
use Rattle.std.proofs.Common.{sym, ◌∙◌}
use Rattle.policy.specs.File.{rule_from}
use Rattle.stepping.specs.Pass.{parted_bounds, parts_so, gathers_not, gathers_led}
use Rattle.leading.proofs.share.gather_by.Goals as goal

pub gather-requires : goal.gather-requires
unfolding rule_from
gather-requires c =
    let k = c.requires in
    rw (c.byte_within-care.ensures.0, c.byte_within-value.ensures.0) (k.2, k.1.ours.care, k.1.ours.formed.inputs, k.3, k.4)

pub returns-then-held : goal.returns-then-held
unfolding rule_from
returns-then-held c =
    let ours = c.requires.1.ours in
    let taken = rw (c.outs-set.ensures, c.byte_within-care.ensures.0, c.byte_within-value.ensures.0, c.byte_within.ensures.0, c.byte_within-then-held.ensures.0) at c.gather.ensures.changed in
    let gained = rw (c.byte_within-care.ensures.0, c.byte_within-value.ensures.0) at c.gather.ensures.changed_2 in
    let led = rw (c.outs-set.ensures, c.byte_within.ensures.0, c.byte_within-then-held.ensures.0) at c.kept-led.ensures in
    gathers_led _ _ _ (parts_so _ {r = rule_from c.args.layout.clocks c.args.file.now c.args.at} (sym c.held.ensures ∙ c.if-held.true) ours.care ours.formed.inputs) taken _ led gained

pub returns-else-held : goal.returns-else-held
returns-else-held c = gathers_not _ _ _ _ (parted_bounds _ (sym c.held.ensures ∙ c.if-held.false))
