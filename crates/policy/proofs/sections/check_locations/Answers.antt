use Rattle.std.proofs.Common.{◌+◌, arith, sym}
use Rattle.std.proofs.Math.Nat.{add-sub_cancel_left}
use Rattle.refusals.specs.Laws.{handed_first}
use Rattle.policy.specs.Check.{locations_refusal}
use Rattle.policy.specs.Frame.{section_fits}
use Rattle.policy.proofs.sections.check_locations.Goals as goal

pub returns-in_err-check_section-clause-refuses : goal.returns-in_err-check_section-clause-refuses
unfolding locations_refusal
returns-in_err-check_section-clause-refuses c =
    rw (← c.requires.1, ← c.byte_at-n.ensures.0) (handed_first _ _ _ c.from_residual.ensures.1 c.in_err-check_section.ensures)

pub slice_bounds-locations_good-end : goal.slice_bounds-locations_good-end
slice_bounds-locations_good-end c = omega (arith, section_fits _ _ _ _ _ _ _ (sym c.in_ok-check_section.ensures))

pub returns-then-locations_good-clause-refuses : goal.returns-then-locations_good-clause-refuses
unfolding locations_refusal
returns-then-locations_good-clause-refuses c =
    rw (← c.requires.1, ← c.byte_at-n.ensures.0, ← c.in_ok-check_section.ensures, ← add-sub_cancel_left (c.args.at + 1) c.byte_at-n.result, ← c.if-locations_good.ensures)

pub returns-else-locations_good-clause-refuses : goal.returns-else-locations_good-clause-refuses
unfolding locations_refusal
returns-else-locations_good-clause-refuses c =
    rw (← c.requires.1, ← c.byte_at-n.ensures.0, ← c.in_ok-check_section.ensures, ← add-sub_cancel_left (c.args.at + 1) c.byte_at-n.result, ← c.if-locations_good.ensures)
