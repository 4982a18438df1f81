-- The lines, the policy as a whole, the room, the file.
use Rattle.std.specs.Prelude.{List, ℕ, length}
use Rattle.std.proofs.Common.{ap, subst, arith, rules}
use Rattle.std.proofs.lemmas.Result.{err_from_is_err_and}
use Rattle.texts.specs.Wrote.{Wrote}
use Rattle.texts.specs.WroteLaws.{wrote_front}
use Rattle.compiling.specs.Lines.{unnamed}
use Rattle.compiling.specs.Promise.{ceilings_fit, judge_stopped, judge_own, read_short, counts_room, read_whole}
use Rattle.compiling.proofs.reader.judge.Goals as goal

pub read_lines-requires : goal.read_lines-requires
read_lines-requires c = (search rules, unnamed c.args.text.now, search rules)

pub returns-in_err-said : goal.returns-in_err-said
returns-in_err-said c =
    let e = err_from_is_err_and c.from_residual.result c.from_residual.ensures.1 in
    rw (e.1, e.2) (judge_stopped c.args.text.now c.args.out.now c.in_err-said.field-0.0 c.in_err-said.ensures)

pub check_whole-requires : goal.check_whole-requires
check_whole-requires c =
    let n = c.read_lines.new in
    let g = c.in_ok-said.ensures in
    (g.1.clocks, g.1.places, ceilings_fit c.args.text.now c.args.out.now n.starts n.lengths n.left g.1 g.0.lines g.0.many)

pub returns-in_err-check_whole : goal.returns-in_err-check_whole
returns-in_err-check_whole c =
    let n = c.read_lines.new in
    let g = c.in_ok-said.ensures in
    let d = c.in_err-check_whole.field-0.0 in
    let e = err_from_is_err_and c.from_residual-in_err-check_whole.result c.from_residual-in_err-check_whole.ensures.1 in
    rw (e.1, e.2) (judge_own c.args.text.now c.args.out.now n.starts n.lengths n.left g.1 g.0.lines g.0.many d c.in_err-check_whole.ensures)

pub returns-then-out-length : goal.returns-then-out-length
returns-then-out-length c =
    let n = c.read_lines.new in
    let g = c.in_ok-said.ensures in
    read_short c.args.text.now c.args.out.now n.starts n.lengths n.left g.1 g.0.lines g.0.many c.in_ok-check_whole.ensures
    (omega (arith, c.file_length-length.ensures, c.if-out-length.true))

pub put_bytes-requires : goal.put_bytes-requires
put_bytes-requires c =
    let n = c.read_lines.new in
    let g = c.in_ok-said.ensures in
    let room = counts_room c.args.text.now c.args.out.now n.starts n.lengths n.left g.1 g.0.lines g.0.many c.in_ok-check_whole.ensures (omega (arith, c.file_length-length.ensures, c.if-out-length.false)) in
    omega (arith, c.put_counts-from.ensures.next, c.put_counts-from.auto.out, ap length (wrote_front (omega arith) g.0.wrote), room)

pub returns : goal.returns
returns c =
    let w = c.put_bytes in
    let n = c.read_lines.new in
    let g = c.in_ok-said.ensures in
    let rules = subst (λ (z : List ℕ). Wrote c.put_counts-from.new.out c.put_counts-from.result z w.result w.new.text) (wrote_front (omega arith) g.0.wrote) w.ensures in
    read_whole c.args.text.now c.args.out.now n.starts n.lengths n.left g.1 g.0.lines g.0.many c.in_ok-check_whole.ensures
    (omega (arith, c.file_length-length.ensures, c.if-out-length.false)) c.put_counts-from.ensures rules
