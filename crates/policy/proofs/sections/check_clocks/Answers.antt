use Rattle.std.proofs.Common.{arith, sym}
use Rattle.refusals.specs.Laws.{handed_first}
use Rattle.policy.specs.Check.{clocks_refusal}
use Rattle.policy.specs.Frame.{section_fits}
use Rattle.policy.proofs.sections.check_clocks.Goals as goal

pub returns-in_err-check_section-clause-refuses : goal.returns-in_err-check_section-clause-refuses
unfolding clocks_refusal
returns-in_err-check_section-clause-refuses c =
    rw (← c.requires.1, ← c.byte_at-n.ensures.0) (handed_first _ _ _ c.from_residual.ensures.1 c.in_err-check_section.ensures)

pub ceilings_good-requires : goal.ceilings_good-requires
ceilings_good-requires c = omega (arith, section_fits _ _ _ _ _ _ _ (sym c.in_ok-check_section.ensures))

pub returns-then-ceilings_good-clause-refuses : goal.returns-then-ceilings_good-clause-refuses
unfolding clocks_refusal
returns-then-ceilings_good-clause-refuses c =
    rw (← c.requires.1, ← c.byte_at-n.ensures.0, ← c.in_ok-check_section.ensures, ← c.if-ceilings_good.ensures)

pub returns-else-ceilings_good-clause-refuses : goal.returns-else-ceilings_good-clause-refuses
unfolding clocks_refusal
returns-else-ceilings_good-clause-refuses c =
    rw (← c.requires.1, ← c.byte_at-n.ensures.0, ← c.in_ok-check_section.ensures, ← c.if-ceilings_good.ensures)
