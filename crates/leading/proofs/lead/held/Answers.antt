-- The bounds see the clock values that are looked at.
use Rattle.std.proofs.Common.{sym, arith}
use Rattle.stepping.specs.Laid.{laid_limits}
use Rattle.leading.proofs.WayLaws.{rule_seen}
use Rattle.leading.proofs.lead.held.Goals as goal

pub bounds_hold-requires : goal.bounds_hold-requires
bounds_hold-requires c = omega (arith, laid_limits c.requires.0)

pub returns : goal.returns
returns c = sym (rule_seen c.requires.0 c.requires.1 c.requires.2 _ (sym c.bounds_hold.ensures))
