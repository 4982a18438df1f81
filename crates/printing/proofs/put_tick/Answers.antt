-- The tick, the event, what was released, then the letters.
use Rattle.std.proofs.Common.{arith}
use Rattle.printing.specs.Text.{tick_line}
use Rattle.texts.specs.WroteLaws.{wrote_then}
use Rattle.printing.specs.Lines.{spaced_short, halves_short}
use Rattle.printing.proofs.put_tick.Goals as goal

pub put_spaced-tick_end-requires : goal.put_spaced-tick_end-requires
put_spaced-tick_end-requires c =
    omega (arith, spaced_short c.args.tick 4 c.requires.0)

pub put_halves-event_end-requires : goal.put_halves-event_end-requires
put_halves-event_end-requires c =
    omega (arith, spaced_short c.args.tick 4 c.requires.0)

pub put_halves-released_end-requires : goal.put_halves-released_end-requires
put_halves-released_end-requires c =
    omega (
      arith,
      spaced_short c.args.tick 4 c.requires.0,
      halves_short c.args.event c.ranges.event.fits,
      c.put_halves-event_end.ensures.next,
      c.put_spaced-tick_end.ensures.next,
    )

pub put_bytes-requires : goal.put_bytes-requires
put_bytes-requires c =
    omega (
      arith,
      spaced_short c.args.tick 4 c.requires.0,
      halves_short c.args.event c.ranges.event.fits,
      halves_short c.args.released c.ranges.released.fits,
      c.before,
      c.before,
      c.before,
    )

pub returns : goal.returns
unfolding tick_line
returns c =
    let room = c.requires.1 in
    let two = wrote_then (omega arith) c.put_spaced-tick_end.ensures c.put_halves-event_end.ensures in
    let three = wrote_then (omega arith) two c.put_halves-released_end.ensures in
    rw (← c.letter.ensures, ← c.letter-2.ensures)
    (wrote_then (omega arith) three c.put_bytes.ensures)
