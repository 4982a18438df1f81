-- The input at x loses what agrees, and what is led of it is found.
use Rattle.std.proofs.Common.{◌≡◌, refl, false, List, ℕ, ◌<◌, eqb, get_or, eq-eqb, arith}
use Rattle.std.specs.Int.Bits.{bit_and, or_zero_r}
use Rattle.choice.specs.After.{after_up, walked_start, walked_more, walked_done, walked_now, rest_still}
use Rattle.choice.proofs.sets.gather.Invariants.{more}
use Rattle.choice.proofs.sets.gather.Goals as goal

still : (care value set : ℕ) (left found : List ℕ) (z : ℕ) → eqb (bit_and z care) value ≡ false → more care value set left found z ≡ get_or found z 0
still care value set left found z e = rw (e, or_zero_r)

pub loop-x-init : goal.loop-x-init
loop-x-init c =
    let a = c.args in (
      walked_start _ _ _ _ _ (rest_still a.care a.value a.set a.left.now) c.requires.2,
      walked_start _ _ _ _ _ (still a.care a.value a.led a.left.now a.found.now) c.requires.2,
    )

pub loop-x-smaller : goal.loop-x-smaller
loop-x-smaller c =
    let low : c.loop-x.x < 16 = omega arith in
    omega (arith, after_up _ _ c.requires.1 low c.loop-x.invariant.0.here)

pub loop-x-preserved : goal.loop-x-preserved
loop-x-preserved c =
    let a = c.args in
    let w = c.loop-x.invariant.0 in
    let v = c.loop-x.invariant.1 in
    rw c.after-x.ensures (
      walked_more _ _ _ _ _ (rest_still a.care a.value a.set a.left.now) c.requires.1 c.requires.0 c.loop-x-test.true
          (omega arith) (rw (walked_now _ _ _ _ _ w, eq-eqb _ _ w.here) refl) w,
      walked_more _ _ _ _ _ (still a.care a.value a.led a.left.now a.found.now) c.requires.1 c.requires.0 c.loop-x-test.true
          (omega arith) (rw (walked_now _ _ _ _ _ v, walked_now _ _ _ _ _ w, eq-eqb _ _ w.here) refl) v,
    )

pub returns : goal.returns
returns c =
    let a = c.args in
    record {
      changed = walked_done _ _ _ _ _ (rest_still a.care a.value a.set a.left.now) {x = c.loop-x.x} (omega arith) c.loop-x.invariant.0;
      changed_2 = walked_done _ _ _ _ _ (still a.care a.value a.led a.left.now a.found.now) {x = c.loop-x.x} (omega arith) c.loop-x.invariant.1;
    }
