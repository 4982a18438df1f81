use Rattle.std.proofs.Common.{arith, refl, ◌∙◌, ◌≡◌, List, [], ◌++◌, ℕ, append-nil, length, drop}
use Rattle.texts.specs.Under.{under_room, under_more, under_all}
use Rattle.drawing.specs.Wave.{time_line, later_lines}
use Rattle.drawing.specs.Lengths.{later_turn, later_end}
use Rattle.drawing.proofs.text.put_later.Goals as goal

pub put_change-next-requires : goal.put_change-next-requires
put_change-next-requires c =
    under_room c.requires.events_in_bounds c.loop-time.invariant _ _ (later_turn _ _ _ c.loop-time.time c.loop-time.before (omega arith))

pub loop-time-preserved : goal.loop-time-preserved
loop-time-preserved c =
    let p = c.put_change-next in
    under_more c.requires.events_in_bounds c.loop-time.invariant (later_turn _ _ _ c.loop-time.time c.loop-time.before (omega arith)) p.ensures p.auto.text

-- After the last event only the closing time is left.
closes : (inputs outputs events : List ℕ) (time before : ℕ) → time ≡ length events →
    later_lines inputs outputs time before (drop time events) ≡ time_line (length events) ++ []
closes inputs outputs events time before e = later_end inputs outputs events time before (omega arith) ∙ rw (e, append-nil)

pub put_time-requires : goal.put_time-requires
put_time-requires c = under_room c.requires.events_in_bounds c.loop-time.invariant _ _ (closes _ _ _ c.loop-time.time c.loop-time.before (omega arith))

pub returns : goal.returns
returns c =
    let p = c.put_time in
    under_all
    (under_more c.requires.events_in_bounds c.loop-time.invariant (closes _ _ _ c.loop-time.time c.loop-time.before (omega arith)) p.ensures p.auto.text)
    refl
