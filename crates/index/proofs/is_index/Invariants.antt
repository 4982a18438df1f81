use Rattle.std.proofs.Common.{◌≡◌, ◌*◌, take}
use Rattle.policy.specs.File.{rules_of}
use Rattle.index.specs.Index.{lower, entries}
use Rattle.index.proofs.is_index.Given as goal

-- The entries up to the location are the index's, and `first` rules have a lower source.
abbrev pub invariant-loop-location : goal.invariant-loop-location
invariant-loop-location l =
    record {
      lower : l.first ≡ lower l.location (rules_of l.file);
      same : take (2 * l.location) l.index ≡ entries l.file l.location;
    }
