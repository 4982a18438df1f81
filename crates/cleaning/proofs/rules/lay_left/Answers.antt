use Rattle.std.proofs.Common.{length-take, length-drop, arith}
use Rattle.laying.specs.Laying.{left_start}
use Rattle.laying.proofs.Laws.{range_bytes}
use Rattle.cleaning.proofs.rules.lay_left.Goals as goal

pub loop-byte-init : goal.loop-byte-init
loop-byte-init c =
    let p = c.zip-byte-items.ensures in
    rw (c.into_iter-byte-iterator.ensures.into_iter_gives, p.first, c.iter.ensures.rest, p.second.0)
    record {
      next = simp (length-take, length-drop) (omega arith);
      pairs = simp (length-take, length-drop) (omega arith);
      left = rw (range_bytes _ _ _ c.requires.0) (left_start _ _ _);
    }
