use Rattle.std.proofs.Common.{◌≡◌, ◌*◌, ◌++◌, drop}
use Rattle.policy.specs.File.{rules_of}
use Rattle.index.specs.Index.{lower, entries}
use Rattle.index.proofs.fill.Given as goal

-- The entries up to the location are written, and `first` rules have a lower source.
abbrev pub invariant-loop-location : goal.invariant-loop-location
invariant-loop-location l =
    record {
      lower : l.first ≡ lower l.location (rules_of l.file);
      written : l.index ≡ entries l.file l.location ++ drop (2 * l.location) l.fn.index;
    }
