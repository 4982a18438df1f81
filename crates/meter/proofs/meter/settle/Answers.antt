-- `meter::meter::settle` meets its contract: 27 before any change, or the state, the register and the total.
use Rattle.std.proofs.Common.{sym, ◌∙◌}
use Rattle.streams.specs.Answer.{gives}
use Rattle.meter.specs.Entries.{settled}
use Rattle.meter.proofs.meter.settle.Goals as goal

pub returns-then-not-has_room : goal.returns-then-not-has_room
unfolding settled
returns-then-not-has_room c = record { said = rw (← c.pulses-n.ensures, sym c.has_room.ensures ∙ c.if-not-has_room.true) }

pub add_pulses-requires : goal.add_pulses-requires
add_pulses-requires c = (c.requires.1, sym c.has_room.ensures ∙ c.if-not-has_room.false)

pub returns : goal.returns
unfolding settled
returns c =
    record {
      said =
          rw (← c.pulses-n.ensures, sym c.has_room.ensures ∙ c.if-not-has_room.false)
          (λ i. record { answer = gives c.args.y; station = c.put_station.ensures i; totals = c.add_pulses.ensures i });
    }
