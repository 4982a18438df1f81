-- The bytes that are left, laid from here, give what all give.
use Rattle.std.proofs.Common.{◌+◌, ◌≡◌, length}
use Rattle.laying.specs.Lay.{either_from}
use Rattle.laying.specs.Laying.{LeftToLay}
use Rattle.laying.proofs.Laws.{eithers}
use Rattle.laying.proofs.lay.put_either.Given as goal

abbrev pub invariant-loop-first : goal.invariant-loop-first
invariant-loop-first l = record {
  ends : l.next + length l.first-iterator.a.rest.now ≡ l.at + l.n;
  left : LeftToLay (either_from l.a l.p l.b l.q l.n) (eithers l.first-iterator.a.rest.now l.first-iterator.b.rest.now) l.fn.out l.at l.out l.next;
  pairs : length l.first-iterator.a.rest.now ≡ length l.first-iterator.b.rest.now;
}
