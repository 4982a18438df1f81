-- The bytes that are left whose flags are set, laid from here, give what all give.
use Rattle.std.proofs.Common.{◌+◌, ◌≤◌, ◌≡◌, length}
use Rattle.laying.specs.Lay.{bytes_from}
use Rattle.laying.specs.Laying.{LeftToLay}
use Rattle.usage.specs.Sift.{sift}
use Rattle.usage.specs.Code.{flags_of}
use Rattle.cleaning.proofs.rules.lay_left.Given as goal

abbrev pub invariant-loop-byte : goal.invariant-loop-byte
invariant-loop-byte l = record {
  next : l.next + length l.byte-iterator.a.rest.now ≤ l.at + length l.entered;
  pairs : length l.byte-iterator.a.rest.now ≡ length l.byte-iterator.b.rest.now;
  left : LeftToLay (sift (flags_of l.entered) (bytes_from l.file l.start (length l.entered)))
      (sift (flags_of l.byte-iterator.b.rest.now) l.byte-iterator.a.rest.now) l.fn.out l.at l.out l.next;
}
