-- A line is made in the scratch, and then copied.
use Rattle.std.proofs.Common.{◌+◌, ◌≤◌, List, ℕ, arith, ap, subst, length}
use Rattle.texts.specs.Wrote.{Wrote}
use Rattle.texts.specs.Under.{under_room, under_more, under_all}
use Rattle.showing.specs.Lines.{framed, text_from, text_start, text_end}
use Rattle.showing.specs.Promise.{front_is}
use Rattle.showing.proofs.writer.put_text.Goals as goal

pub line_count-i-end-requires : goal.line_count-i-end-requires
line_count-i-end-requires c = omega (arith, framed c.requires.0)

pub put_bytes-next-requires : goal.put_bytes-next-requires
put_bytes-next-requires c =
    let file = c.args.file.now in
    let line = c.put_line-end.ensures.0 in
    let fits : 0 + length (text_from file 0) ≤ length c.args.out.now = omega (arith, c.requires.2, ap length (text_start file c.requires.0.passes)) in
    omega (arith, under_room fits c.loop-i.invariant line.line (text_from _ _) line.turn, ap length (front_is line.wrote))

pub loop-i-preserved : goal.loop-i-preserved
loop-i-preserved c =
    let file = c.args.file.now in
    let line = c.put_line-end.ensures.0 in
    let put = c.put_bytes-next in
    let fits : 0 + length (text_from file 0) ≤ length c.args.out.now = omega (arith, c.requires.2, ap length (text_start file c.requires.0.passes)) in
    let one = subst (λ (z : List ℕ). Wrote c.loop-i.out c.loop-i.next z put.result put.new.text) (front_is line.wrote) put.ensures in
    under_more fits c.loop-i.invariant line.turn one put.auto.text

pub returns : goal.returns
returns c =
    let file = c.args.file.now in
    let l = c.loop-i in
    let none = text_end file (framed c.requires.0) l.i (omega (arith, c.line_count-i-end.ensures, c.requires.0)) in
    subst (λ (z : List ℕ). Wrote c.args.out.now 0 z l.next l.out) (text_start file c.requires.0.passes) (under_all l.invariant none)
