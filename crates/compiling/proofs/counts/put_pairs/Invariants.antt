-- The ceilings before this one are stored, two bytes each.
use Rattle.std.proofs.Common.{◌≡◌, ◌+◌, ◌*◌, drop}
use Rattle.policy.specs.Bytes.{pairs_bytes}
use Rattle.texts.specs.Under.{LinesUnder}
use Rattle.compiling.proofs.counts.put_pairs.Given as goal

abbrev pub invariant-loop-ceiling : goal.invariant-loop-ceiling
invariant-loop-ceiling l =
    record {
      so_far : l.next ≡ l.at + 2 * l.ceiling-index;
      under : LinesUnder l.fn.out l.at (pairs_bytes l.ceilings) l.next l.out (pairs_bytes (drop l.ceiling-index l.ceilings));
    }
