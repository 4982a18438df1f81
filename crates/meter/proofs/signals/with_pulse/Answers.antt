-- `meter::signals::with_pulse` meets its contract.
use Rattle.std.proofs.Common.{eq-eqb}
use borrow.Author.Tests.{ne_eqb}
use Rattle.meter.specs.Meter.{with_pulse}
use Rattle.meter.proofs.signals.with_pulse.Goals as goal

pub returns-then-pulses-eq0 : goal.returns-then-pulses-eq0
unfolding with_pulse
returns-then-pulses-eq0 c = rw (eq-eqb _ 0 c.if-pulses-eq0.true)

pub returns-else-pulses-eq0 : goal.returns-else-pulses-eq0
unfolding with_pulse
returns-else-pulses-eq0 c = rw (ne_eqb _ 0 c.if-pulses-eq0.false)
