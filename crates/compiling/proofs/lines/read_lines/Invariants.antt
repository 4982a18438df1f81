-- The invariant: the lines that are left decide, and the rules so far are kept.
use Rattle.std.specs.Prelude.{◌≡◌, ◌-◌, ◌≤◌, length}
use Rattle.words.specs.Spans.{NamesIn}
use Rattle.declarations.specs.Table.{draft_of, Fit}
use Rattle.compiling.specs.Stored.{Keeping}
use Rattle.compiling.proofs.lines.read_lines.Given as goal

abbrev pub invariant-loop-at : goal.invariant-loop-at
invariant-loop-at l =
    (l.at ≤ length l.text) × (l.passed ≤ l.at) × (l.count ≤ l.passed) × (l.count ≤ 256) × (length l.kept ≡ 5888) × (length l.left ≡ 64) × Fit l.table × NamesIn 76 l.text l.starts l.lengths × Keeping l.text l.initial.kept (draft_of l.text l.starts l.lengths l.left l.table) l.count l.passed l.at l.used l.kept × (length l.starts ≡ length l.initial.starts) × (length l.lengths ≡ length l.initial.lengths)

abbrev pub decreases-loop-at : goal.decreases-loop-at
decreases-loop-at l = length l.text - l.at
