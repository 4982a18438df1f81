-- `reasons::runs::why_run` meets its contract: the refusals in their order; the tables are made once, and each event is explained by them.
use Rattle.std.proofs.Common.{◌≡◌, refl, sym, subst, ℕ, length, arith}
use Rattle.std.proofs.Math.Seq.{length-take-le}
use Rattle.refusals.specs.Refused.{number_of}
use Rattle.refusals.specs.Laws.{number_above, handed_on}
use Rattle.enforcer.specs.Promises.{ran_said}
use Rattle.counting.proofs.Laws.{part_fits, part_length, back_fits, back_part}
use Rattle.reasons.specs.Runs.{Room, shortest_of, early_refusal, walked, WhyRunAnswers}
use Rattle.reasons.specs.RunLaws.{early_room, early_state, run_early, answers_no}
use Rattle.reasons.proofs.RoomLaws.{room_refused, room_clear, room_long, room_granted, room_enough}
use Rattle.reasons.proofs.runs.why_run.Goals as goal

pub returns-in_err-layout : goal.returns-in_err-layout
returns-in_err-layout c =
    let a = c.args in
    let m : Room = record { ticks = a.ticks.now; rests = a.rests.now; prepared = a.prepared.now; work = record { stack = a.stack.now; from = a.from.now; ways = a.ways.now; bound = a.bound.now; place = a.place.now } } in
    let r = c.in_err-layout.field-0.0 in
    let some : number_of r ≡ 0 → ⊥ = λ z. omega (arith, number_above r) in
    let e = early_room _ _ _ _ _ _ _ (room_refused _ _ _ m _ _ c.shortest-work.ensures r c.in_err-layout.ensures) some in
    rw (handed_on _ _ c.from_residual.ensures.1) (record { answers = answers_no _ _ _ _ _ _ _ (run_early _ _ _ _ _ _ _ e some) some; scratch = λ n. refl })

pub check_state-requires : goal.check_state-requires
check_state-requires c =
    let a = c.args in
    let m : Room = record { ticks = a.ticks.now; rests = a.rests.now; prepared = a.prepared.now; work = record { stack = a.stack.now; from = a.from.now; ways = a.ways.now; bound = a.bound.now; place = a.place.now } } in
    let g = room_granted _ _ _ m _ _ c.shortest-work.ensures c.in_ok-layout.ensures in
    (g.laid, g.enough)

pub returns-in_err-check_state : goal.returns-in_err-check_state
returns-in_err-check_state c =
    let a = c.args in
    let m : Room = record { ticks = a.ticks.now; rests = a.rests.now; prepared = a.prepared.now; work = record { stack = a.stack.now; from = a.from.now; ways = a.ways.now; bound = a.bound.now; place = a.place.now } } in
    let g = room_granted _ _ _ m _ _ c.shortest-work.ensures c.in_ok-layout.ensures in
    let r = c.in_err-check_state.field-0.0 in
    let some : number_of r ≡ 0 → ⊥ = λ z. omega (arith, number_above r) in
    let e = early_state _ _ _ _ _ _ _ (room_clear _ _ _ m _ _ c.shortest-work.ensures c.in_ok-layout.ensures) (rw g.named at c.in_err-check_state.ensures) in
    rw (handed_on _ _ c.from_residual-in_err-check_state.ensures.1)
    (record { answers = answers_no _ _ _ _ _ _ _ (run_early _ _ _ _ _ _ _ e some) some; scratch = λ n. refl })

pub slice_bounds-count_in-end : goal.slice_bounds-count_in-end
slice_bounds-count_in-end c =
    let a = c.args in
    let m : Room = record { ticks = a.ticks.now; rests = a.rests.now; prepared = a.prepared.now; work = record { stack = a.stack.now; from = a.from.now; ways = a.ways.now; bound = a.bound.now; place = a.place.now } } in
    part_fits (room_granted _ _ _ m _ _ c.shortest-work.ensures c.in_ok-layout.ensures).laid a.ticks.now (room_enough _ _ _ m _ _ c.shortest-work.ensures c.in_ok-layout.ensures).ticks

pub slice_bounds-count_in-end-2 : goal.slice_bounds-count_in-end-2
slice_bounds-count_in-end-2 c =
    let a = c.args in
    let m : Room = record { ticks = a.ticks.now; rests = a.rests.now; prepared = a.prepared.now; work = record { stack = a.stack.now; from = a.from.now; ways = a.ways.now; bound = a.bound.now; place = a.place.now } } in
    sym (length-take-le _ _ (part_fits (room_granted _ _ _ m _ _ c.shortest-work.ensures c.in_ok-layout.ensures).laid a.ticks.now (room_enough _ _ _ m _ _ c.shortest-work.ensures c.in_ok-layout.ensures).ticks))

pub slice_bounds-count_in-end-3 : goal.slice_bounds-count_in-end-3
slice_bounds-count_in-end-3 c =
    let a = c.args in
    let m : Room = record { ticks = a.ticks.now; rests = a.rests.now; prepared = a.prepared.now; work = record { stack = a.stack.now; from = a.from.now; ways = a.ways.now; bound = a.bound.now; place = a.place.now } } in
    part_fits (room_granted _ _ _ m _ _ c.shortest-work.ensures c.in_ok-layout.ensures).laid a.rests.now (room_enough _ _ _ m _ _ c.shortest-work.ensures c.in_ok-layout.ensures).rests

pub slice_bounds-count_in-end-4 : goal.slice_bounds-count_in-end-4
slice_bounds-count_in-end-4 c =
    let a = c.args in
    let m : Room = record { ticks = a.ticks.now; rests = a.rests.now; prepared = a.prepared.now; work = record { stack = a.stack.now; from = a.from.now; ways = a.ways.now; bound = a.bound.now; place = a.place.now } } in
    sym (length-take-le _ _ (part_fits (room_granted _ _ _ m _ _ c.shortest-work.ensures c.in_ok-layout.ensures).laid a.rests.now (room_enough _ _ _ m _ _ c.shortest-work.ensures c.in_ok-layout.ensures).rests))

pub count_in-others-requires-clause-laid : goal.count_in-others-requires-clause-laid
count_in-others-requires-clause-laid c =
    let a = c.args in
    let m : Room = record { ticks = a.ticks.now; rests = a.rests.now; prepared = a.prepared.now; work = record { stack = a.stack.now; from = a.from.now; ways = a.ways.now; bound = a.bound.now; place = a.place.now } } in
    let g = room_granted _ _ _ m _ _ c.shortest-work.ensures c.in_ok-layout.ensures in
    let n = room_enough _ _ _ m _ _ c.shortest-work.ensures c.in_ok-layout.ensures in
    (g.laid, g.enough, part_length g.laid a.ticks.now n.ticks, part_length g.laid a.rests.now n.rests)

pub count_in-others-requires-clause-file_in_bounds : goal.count_in-others-requires-clause-file_in_bounds
count_in-others-requires-clause-file_in_bounds c =
    let a = c.args in
    let m : Room = record { ticks = a.ticks.now; rests = a.rests.now; prepared = a.prepared.now; work = record { stack = a.stack.now; from = a.from.now; ways = a.ways.now; bound = a.bound.now; place = a.place.now } } in
    let n = room_enough _ _ _ m _ _ c.shortest-work.ensures c.in_ok-layout.ensures in
    (n.prepared, n.stack, n.from, n.ways, n.bound, n.place)

pub slice_bounds-explained-end : goal.slice_bounds-explained-end
slice_bounds-explained-end c =
    let a = c.args in
    let m : Room = record { ticks = a.ticks.now; rests = a.rests.now; prepared = a.prepared.now; work = record { stack = a.stack.now; from = a.from.now; ways = a.ways.now; bound = a.bound.now; place = a.place.now } } in
    back_fits (room_granted _ _ _ m _ _ c.shortest-work.ensures c.in_ok-layout.ensures).laid a.ticks.now (room_enough _ _ _ m _ _ c.shortest-work.ensures c.in_ok-layout.ensures).ticks c.count_in-others.new.ticks c.count_in-others.auto.ticks

pub slice_bounds-explained-end-2 : goal.slice_bounds-explained-end-2
slice_bounds-explained-end-2 c =
    let a = c.args in
    let m : Room = record { ticks = a.ticks.now; rests = a.rests.now; prepared = a.prepared.now; work = record { stack = a.stack.now; from = a.from.now; ways = a.ways.now; bound = a.bound.now; place = a.place.now } } in
    sym (length-take-le _ _ (back_fits (room_granted _ _ _ m _ _ c.shortest-work.ensures c.in_ok-layout.ensures).laid a.ticks.now (room_enough _ _ _ m _ _ c.shortest-work.ensures c.in_ok-layout.ensures).ticks c.count_in-others.new.ticks c.count_in-others.auto.ticks))

pub slice_bounds-explained-end-3 : goal.slice_bounds-explained-end-3
slice_bounds-explained-end-3 c =
    let a = c.args in
    let m : Room = record { ticks = a.ticks.now; rests = a.rests.now; prepared = a.prepared.now; work = record { stack = a.stack.now; from = a.from.now; ways = a.ways.now; bound = a.bound.now; place = a.place.now } } in
    back_fits (room_granted _ _ _ m _ _ c.shortest-work.ensures c.in_ok-layout.ensures).laid a.rests.now (room_enough _ _ _ m _ _ c.shortest-work.ensures c.in_ok-layout.ensures).rests c.count_in-others.new.rests c.count_in-others.auto.rests

pub slice_bounds-explained-end-4 : goal.slice_bounds-explained-end-4
slice_bounds-explained-end-4 c =
    let a = c.args in
    let m : Room = record { ticks = a.ticks.now; rests = a.rests.now; prepared = a.prepared.now; work = record { stack = a.stack.now; from = a.from.now; ways = a.ways.now; bound = a.bound.now; place = a.place.now } } in
    sym (length-take-le _ _ (back_fits (room_granted _ _ _ m _ _ c.shortest-work.ensures c.in_ok-layout.ensures).laid a.rests.now (room_enough _ _ _ m _ _ c.shortest-work.ensures c.in_ok-layout.ensures).rests c.count_in-others.new.rests c.count_in-others.auto.rests))

pub explained-requires-clause-laid : goal.explained-requires-clause-laid
explained-requires-clause-laid c =
    let a = c.args in
    let m : Room = record { ticks = a.ticks.now; rests = a.rests.now; prepared = a.prepared.now; work = record { stack = a.stack.now; from = a.from.now; ways = a.ways.now; bound = a.bound.now; place = a.place.now } } in
    let k = (room_granted _ _ _ m _ _ c.shortest-work.ensures c.in_ok-layout.ensures).laid in
    let n = room_enough _ _ _ m _ _ c.shortest-work.ensures c.in_ok-layout.ensures in (
      k,
      c.count_in-others.ensures.0,
      rw (back_part k a.ticks.now n.ticks c.count_in-others.new.ticks c.count_in-others.auto.ticks, back_part k a.rests.now n.rests c.count_in-others.new.rests c.count_in-others.auto.rests)
          c.count_in-others.ensures.1,
    )

pub explained-requires-clause-file_in_bounds : goal.explained-requires-clause-file_in_bounds
explained-requires-clause-file_in_bounds c =
    let a = c.args in
    let m : Room = record { ticks = a.ticks.now; rests = a.rests.now; prepared = a.prepared.now; work = record { stack = a.stack.now; from = a.from.now; ways = a.ways.now; bound = a.bound.now; place = a.place.now } } in
    ((room_granted _ _ _ m _ _ c.shortest-work.ensures c.in_ok-layout.ensures).enough, sym c.in_ok-check_state.ensures, room_long _ _ _ m _ _ c.shortest-work.ensures c.in_ok-layout.ensures)

pub returns : goal.returns
returns c =
    let a = c.args in
    let m : Room = record { ticks = a.ticks.now; rests = a.rests.now; prepared = a.prepared.now; work = record { stack = a.stack.now; from = a.from.now; ways = a.ways.now; bound = a.bound.now; place = a.place.now } } in
    let g = room_granted _ _ _ m _ _ c.shortest-work.ensures c.in_ok-layout.ensures in
    let x = c.explained in
    let early = early_state _ _ _ _ _ _ _ (room_clear _ _ _ m _ _ c.shortest-work.ensures c.in_ok-layout.ensures) (rw g.named at c.in_ok-check_state.ensures) in
    record {
      answers =
          subst (λ (n : ℕ). WhyRunAnswers n a.file.now a.marks.now a.state a.events.now a.words.now (shortest_of m) (ran_said (walked a.state (length a.events.now) x.result) x.new.words)) g.named
          (x.ensures (shortest_of m) (subst (λ (n : ℕ). early_refusal n a.file.now a.marks.now a.state a.events.now a.words.now (shortest_of m) ≡ 0) (sym g.named) early));
      scratch = λ n. absurd (n early);
    }
