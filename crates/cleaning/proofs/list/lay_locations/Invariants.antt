-- The entries from this location on, laid from here, give what all give.
use Rattle.std.proofs.Common.{◌*◌, ◌≤◌, drop}
use Rattle.laying.specs.Laying.{LeftToLay}
use Rattle.usage.specs.Clean.{struck_bytes, locations_struck}
use Rattle.usage.specs.Code.{flags_of}
use Rattle.cleaning.proofs.list.lay_locations.Given as goal

abbrev pub invariant-loop-location : goal.invariant-loop-location
invariant-loop-location l = record {
  next : l.next ≤ 3 * l.location;
  left : LeftToLay (struck_bytes (locations_struck 0 (flags_of l.entered))) (struck_bytes (locations_struck l.location (drop l.location (flags_of l.entered))))
      l.fn.out 0 l.out l.next;
}
