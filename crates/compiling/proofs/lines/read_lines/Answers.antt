use Rattle.std.specs.Prelude.{refl, length}
use Rattle.std.proofs.Common.{arith}
use Rattle.compiling.specs.Lines.{next_drop, next_more}
use Rattle.compiling.specs.Stored.{keeping_start, keeping_rule, keeping_none, held_end, held_stops}
use Rattle.declarations.specs.Table.{draft_of}
use Rattle.compiling.proofs.lines.read_lines.Goals as goal
use Rattle.compiling.proofs.lines.read_lines.Goals.{in-Some, in_default}

pub loop-at-init : goal.loop-at-init
loop-at-init c =
    let a = c.args in
    let none = c.unread-table in (
      omega arith,
      omega arith,
      omega arith,
      omega arith,
      c.requires.0,
      c.requires.2,
      none.ensures.1,
      c.requires.1,
      keeping_start a.text.now a.kept.now (draft_of a.text.now a.starts.now a.lengths.now a.left.now none.result) (none.ensures.0 a.text.now a.starts.now a.lengths.now a.left.now),
      refl,
      refl,
    )

pub returns-in-Err : goal.returns-in-Err
returns-in-Err c = held_stops c.loop-at.invariant.8 c.line_end-end.ensures c.loop-at-test.true _ c.in-Err.ensures.took

pub loop-at-preserved : goal.loop-at-preserved
loop-at-preserved c =
    let l = c.loop-at in
    let n = c.next_line-at in
    let took = c.in-Ok.ensures.took in
    let on = next_more l.at c.line_end-end.result (length c.args.text.now) n.result c.line_end-end.ensures.after c.loop-at-test.true c.line_end-end.ensures.within n.ensures.1 n.ensures.2 in
    let rest = next_drop c.args.text.now c.line_end-end.result n.result c.line_end-end.ensures.within n.ensures.1 n.ensures.2 in (
      n.ensures.0,
      omega (arith, on, l.invariant.1),
      elim c.match-taken.branch [
        | in-Some w ↦ rw w.count-is (omega (arith, l.invariant.2))
        | in_default w ↦ rw w.count-is (omega (arith, l.invariant.2))
      ],
      elim c.match-taken.branch [
        | in-Some w ↦ let room = rw w.in-Some.is at took.rule in rw w.count-is (omega (arith, room))
        | in_default w ↦ rw w.count-is l.invariant.3
      ],
      omega (arith, c.match-taken.auto.kept, l.invariant.4),
      omega (arith, c.read_line.auto.left, l.invariant.5),
      took.fit,
      c.in-Ok.ensures.names,
      elim c.match-taken.branch [
        | in-Some w ↦
            rw (w.count-is, w.used-is, w.kept-is)
            (keeping_rule l.invariant.8 c.line_end-end.ensures c.loop-at-test.true took w.in-Some.is rest w.store_rule-used.ensures.0 (omega (arith, w.store_rule-used.ensures.1, took.fit.clocks)))
        | in_default w ↦
            rw (w.count-is, w.used-is, w.kept-is)
            (keeping_none l.invariant.8 c.line_end-end.ensures c.loop-at-test.true took w.in_default.is rest)
      ],
      omega (arith, c.read_line.auto.starts, l.invariant.9),
      omega (arith, c.read_line.auto.lengths, l.invariant.10),
    )

pub returns : goal.returns
returns c =
    let l = c.loop-at in
    (held_end l.invariant.8 (omega arith) (record { count = l.count; used = l.used; table = l.table }) refl refl, l.invariant.6, l.invariant.3)
