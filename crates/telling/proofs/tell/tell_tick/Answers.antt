-- `telling::tell::tell_tick` meets its contract: the line of the tick that is released, then those of its reasons. The halves that are released are below
-- 16, and the line of the tick has at most 21 bytes.
use Prim.Native.Nat.{◌+◌, ◌*◌}
use native.Mathlib.Omega.{arith}
use Rattle.texts.specs.WroteLaws.{wrote_then}
use Rattle.explaining.specs.CodeReasons.{both_said}
use Rattle.printing.specs.Lines.{line_short}
use Rattle.telling.specs.Asked.{released_small}
use Rattle.sentences.specs.Named.{explained_named}
use Rattle.telling.specs.Told.{told_tick}
use Rattle.telling.proofs.tell.tell_tick.Goals as goal

pub tell-told-requires : goal.tell-told-requires
tell-told-requires c =
    let k = c.requires.asked.0 in
    record {
      standing = (k.standing, k.prepared, k.live);
      counts_of = (c.requires.asked.1, c.requires.event_bound.0, c.requires.event_bound.1, c.own_of-own.ensures);
    }

pub overflow_mul-told : goal.overflow_mul-told
overflow_mul-told c = omega (arith, released_small c.requires.asked.0 c.tell-told.ensures.1)

pub overflow_add-told : goal.overflow_add-told
overflow_add-told c = omega (arith, released_small c.requires.asked.0 c.tell-told.ensures.1)

pub put_tick-next-requires : goal.put_tick-next-requires
put_tick-next-requires c = (c.requires.number_bound.0, omega (arith, c.requires.number_bound.1))

pub put_reasons-end-requires : goal.put_reasons-end-requires
put_reasons-end-requires c =
    let v = c.tell-told.result in
    let b = c.tell-told.ensures.0 in
    let small = released_small c.requires.asked.0 c.tell-told.ensures.1 in
    let line = line_short c.args.this.number c.args.event (v.x + v.y * 16) c.requires.number_bound.0 c.ranges.event.fits (omega (arith, small)) in
    let n = explained_named c.args.layout.reading c.args.file.now b.explained in
    record {
      laid = (c.requires.asked.0.standing.laid, omega (arith, line, c.requires.number_bound.1, c.put_tick-next.ensures.next, c.put_tick-next.auto.text));
      named = (n.0, b.few_input);
      named_2 = (n.1, b.few_output);
    }

pub returns : goal.returns
returns c =
    let v = c.tell-told.result in
    let small = released_small c.requires.asked.0 c.tell-told.ensures.1 in
    let line = line_short c.args.this.number c.args.event (v.x + v.y * 16) c.requires.number_bound.0 c.ranges.event.fits (omega (arith, small)) in
    let w = c.put_reasons-end.ensures in
    told_tick {q = both_said v.reasons} c.requires.asked.0 c.tell-told.ensures.1 c.tell-told.ensures.0.explained
    (wrote_then (omega (arith, c.requires.number_bound.1)) c.put_tick-next.ensures w.0) (omega (arith, line, c.put_tick-next.ensures.next, w.1))
