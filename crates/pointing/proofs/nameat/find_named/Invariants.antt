-- The lines that are left decide.
use Rattle.std.proofs.Common.{◌≡◌, ◌-◌, ◌≤◌, length}
use Rattle.pointing.specs.NameAt.{names_left}
use Rattle.pointing.specs.Said.{kind_number}
use Rattle.pointing.proofs.nameat.find_named.Given as goal

abbrev pub invariant-loop-at : goal.invariant-loop-at
invariant-loop-at l =
    record {
      within : l.at ≤ length l.text;
      same : names_left (kind_number l.kind) l.text 0 l.i ≡ names_left (kind_number l.kind) l.text l.at l.left;
    }

abbrev pub decreases-loop-at : goal.decreases-loop-at
decreases-loop-at l = length l.text - l.at
