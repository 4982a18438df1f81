-- An input that agrees takes nothing, or the answer is yes.
use Rattle.std.proofs.Common.{sym, ◌<◌, arith}
use Rattle.choice.specs.After.{after_up, idle_start, idle_found, idle_more, idle_done}
use Rattle.choice.proofs.sets.is_left.Goals as goal

pub loop-x-init : goal.loop-x-init
loop-x-init c = idle_start _ _ _ _ c.requires.2

pub returns-then-left-x-ne0 : goal.returns-then-left-x-ne0
returns-then-left-x-ne0 c = sym (idle_found _ _ _ _ c.loop-x.invariant c.loop-x-test.true c.if-left-x-ne0.true)

pub loop-x-smaller : goal.loop-x-smaller
loop-x-smaller c =
    let low : c.loop-x.x < 16 = omega arith in
    omega (arith, after_up _ _ c.requires.1 low c.loop-x.invariant.here)

pub loop-x-preserved : goal.loop-x-preserved
loop-x-preserved c =
    let low : c.loop-x.x < 16 = omega arith in
    rw c.after-x.ensures (idle_more _ _ _ _ c.requires.1 low c.loop-x.invariant c.if-left-x-ne0.false)

pub returns : goal.returns
returns c = sym (idle_done _ _ _ _ {x = c.loop-x.x} (omega arith) c.loop-x.invariant)
