-- A line more, a signal without one, or the end of the signals.
use Rattle.std.proofs.Common.{◌+◌, ◌-◌, ◌≡◌, ◌∙◌, List, ℕ, refl, sym, length, get_or, take, drop, take_all, length-drop, arith}
use Rattle.tracing.specs.Read.{line_room, lines_small, read_on, read_over, read_none}
use Rattle.tracing.proofs.read.+read_lines.Goals as goal

-- The signals after the first.
later : (tags : List ℕ) → take (length tags - 1) (drop 1 tags) ≡ drop 1 tags
later tags = take_all (length tags - 1) (drop 1 tags) (simp length-drop (omega arith))

pub returns-in_default : goal.returns-in_default
returns-in_default t c = let a = c.args in read_none a.text.now a.at a.tags.now 0 (omega arith) (omega arith) refl

pub bounds-text-at : goal.bounds-text-at
bounds-text-at t c =
    let k = line_room c.args.text.now c.args.at (get_or c.args.tags.now 0 0) (sym c.line_at.ensures ∙ c.if-line_at.true) in
    omega arith

pub with_line-requires : goal.with_line-requires
with_line-requires t c =
    let a = c.args in
    let k = line_room a.text.now a.at (get_or a.tags.now 0 0) (sym c.line_at.ensures ∙ c.if-line_at.true) in
    let l = lines_small a.text.now (a.at + 3) a.tags.now 1 (omega arith) (rw (later a.tags.now) at c.read_lines.ensures) in
    (omega arith, omega arith, omega arith)

pub without_line-requires : goal.without_line-requires
without_line-requires t c =
    let a = c.args in
    let l = lines_small a.text.now a.at a.tags.now 1 (omega arith) (rw (later a.tags.now) at c.read_lines-else-line_at.ensures) in
    (omega arith, omega arith)

pub returns-then-line_at : goal.returns-then-line_at
returns-then-line_at t c =
    let a = c.args in
    read_on a.text.now a.at a.tags.now 0 (omega arith) (sym c.line_at.ensures ∙ c.if-line_at.true) (rw (later a.tags.now) at c.read_lines.ensures)
    c.with_line.ensures

pub returns-else-line_at : goal.returns-else-line_at
returns-else-line_at t c =
    let a = c.args in
    read_over a.text.now a.at a.tags.now 0 (omega arith) (sym c.line_at.ensures ∙ c.if-line_at.false)
    (rw (later a.tags.now) at c.read_lines-else-line_at.ensures) c.without_line.ensures
