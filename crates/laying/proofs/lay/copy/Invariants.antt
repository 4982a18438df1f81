-- The bytes that are left, laid from here, give what all give.
use Rattle.std.proofs.Common.{◌+◌, ◌≡◌, drop}
use Rattle.laying.specs.Laying.{LeftToLay}
use Rattle.laying.proofs.lay.copy.Given as goal

abbrev pub invariant-loop-byte : goal.invariant-loop-byte
invariant-loop-byte l = record {
  next : l.next ≡ l.at + l.byte-index;
  left : LeftToLay l.byte-items (drop l.byte-index l.byte-items) l.fn.out l.at l.out l.next;
}
