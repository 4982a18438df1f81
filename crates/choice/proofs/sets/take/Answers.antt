-- The input at x loses what agrees.
use Rattle.std.proofs.Common.{refl, ◌<◌, eq-eqb, arith}
use Rattle.choice.specs.After.{after_up, walked_start, walked_more, walked_done, walked_now, rest_still}
use Rattle.choice.proofs.sets.take.Goals as goal

pub loop-x-init : goal.loop-x-init
loop-x-init c = walked_start _ _ _ _ _ (rest_still c.args.care c.args.value c.args.set c.args.left.now) c.requires.2

pub loop-x-smaller : goal.loop-x-smaller
loop-x-smaller c =
    let low : c.loop-x.x < 16 = omega arith in
    omega (arith, after_up _ _ c.requires.1 low c.loop-x.invariant.here)

pub loop-x-preserved : goal.loop-x-preserved
loop-x-preserved c =
    let a = c.args in
    let w = c.loop-x.invariant in
    rw c.after-x.ensures
    (walked_more _ _ _ _ _ (rest_still a.care a.value a.set a.left.now) c.requires.1 c.requires.0 c.loop-x-test.true
    (omega arith) (rw (walked_now _ _ _ _ _ w, eq-eqb _ _ w.here) refl) w)

pub returns : goal.returns
returns c =
    let a = c.args in
    walked_done _ _ _ _ _ (rest_still a.care a.value a.set a.left.now) {x = c.loop-x.x} (omega arith) c.loop-x.invariant
