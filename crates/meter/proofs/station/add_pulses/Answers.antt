-- `meter::station::add_pulses` meets its contract: one total is stored, and the other stays.
use Rattle.std.proofs.Common.{arith}
use Rattle.meter.proofs.Laws.{first_room, second_room, first_risen, second_risen}
use Rattle.meter.proofs.station.add_pulses.Goals as goal

pub overflow_add-totals : goal.overflow_add-totals
overflow_add-totals c = omega (arith, c.from.ensures, first_room c.args.totals.now c.args.billed c.args.pulses c.if-billed.true c.requires.1)

pub overflow_add-totals-else-billed : goal.overflow_add-totals-else-billed
overflow_add-totals-else-billed c =
    omega (arith, c.from-else-billed.ensures, second_room c.args.totals.now c.args.billed c.args.pulses c.if-billed.false c.requires.1)

pub returns-then-billed : goal.returns-then-billed
returns-then-billed c = rw c.from.ensures (first_risen c.args.totals.now c.args.billed c.args.pulses c.if-billed.true c.requires.0)

pub returns-else-billed : goal.returns-else-billed
returns-else-billed c = rw c.from-else-billed.ensures (second_risen c.args.totals.now c.args.billed c.args.pulses c.if-billed.false c.requires.0)
