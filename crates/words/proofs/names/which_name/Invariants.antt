-- The names that are left decide.
use Rattle.std.proofs.Common.{◌≡◌, ◌+◌, ◌-◌}
use Rattle.wording.specs.Names.{find}
use Rattle.words.specs.Spans.{spans}
use Rattle.words.proofs.names.which_name.Given as goal

abbrev pub invariant-loop-i : goal.invariant-loop-i
invariant-loop-i l =
    find 0 l.word (spans l.text l.starts l.lengths l.first l.count) ≡ find l.i l.word (spans l.text l.starts l.lengths (l.first + l.i) (l.count - l.i))
