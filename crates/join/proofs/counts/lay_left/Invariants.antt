-- The bytes of the locations below this one are laid.
use Rattle.std.proofs.Common.{◌+◌, ◌≡◌}
use Rattle.pairing.specs.Join.{left_below}
use Rattle.laying.specs.Lay.{LaidAt}
use Rattle.join.specs.Entry.{said}
use Rattle.join.proofs.counts.lay_left.Given as goal

abbrev pub invariant-loop-location : goal.invariant-loop-location
invariant-loop-location l = record {
  next : l.next ≡ l.at + l.location;
  laid : LaidAt (left_below (said l.a) (said l.b) l.location) l.fn.out l.at l.out l.next;
}
