use Rattle.std.proofs.Common.{rules, length, length-take, length-drop, ⊎_elim, ap, arith}
use Rattle.laying.specs.Laying.{left_start, left_same, left_turn, left_end}
use Rattle.laying.proofs.Laws.{eithers_next, eithers_end, range_eithers}
use Rattle.laying.proofs.lay.put_either.Goals as goal

pub loop-first-init : goal.loop-first-init
loop-first-init c =
    let p = c.zip-first-items.ensures in
    rw (c.into_iter-first-iterator.ensures.into_iter_gives, p.first, c.iter.ensures.rest, p.second.0)
    record {
      ends = simp (length-take, length-drop) (omega arith);
      left = left_same (left_start _ _ _) (range_eithers _ _ _ _ _ c.requires.0 c.requires.1);
      pairs = simp (length-take, length-drop) (omega arith);
    }

pub put-next-requires : goal.put-next-requires
put-next-requires c = (search rules, let h = c.in-Some.ensures in omega (arith, ap length h.steps.0))

pub loop-first-preserved : goal.loop-first-preserved
loop-first-preserved c =
    let h = c.in-Some.ensures in
    record {
      ends = omega (arith, ap length h.steps.0, c.put-next.ensures.ends);
      left = left_turn c.loop-first.invariant.left (eithers_next h.steps.0 h.steps.1) c.put-next.ensures;
      pairs = omega (arith, ap length h.steps.0, ap length h.steps.1);
    }

pub returns : goal.returns
returns c =
    let h = c.in-None.ensures in
    left_end c.loop-first.invariant.left (eithers_end _ _ (⊎_elim (λ w. omega (arith, w.1.0)) (λ w. omega (arith, w.1.0)) h.steps))
