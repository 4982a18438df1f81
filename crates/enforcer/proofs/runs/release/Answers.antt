-- `enforcer::runs::release` meets its contract: each tick releases one event more, or the run stops at it.
use Rattle.std.proofs.Common.{◌≡◌, length, arith, ltb-true}
use Rattle.std.proofs.Math.Bool.{and-eq-true_iff}
use Rattle.policy.specs.Checked.{all_at}
use Rattle.stepping.specs.Laid.{laid_sections, standing_location}
use Rattle.enforcer.proofs.RunLaws.{going_ends, going_stuck, going_turn}
use Rattle.enforcer.proofs.runs.release.Goals as goal

pub own_at-own-requires : goal.own_at-own-requires
own_at-own-requires c =
    let k = c.loop-i.invariant.standing in
    (laid_sections k.laid, c.requires.index_value, standing_location k)

pub tick-requires : goal.tick-requires
tick-requires c =
    let good = (and-eq-true_iff _ _).0 (all_at _ _ c.requires.events_in_bounds.1 c.loop-i.i c.loop-i-test.true) in
    (c.loop-i.invariant.standing, c.own_at-own.ensures, ltb-true _ _ good.0, ltb-true _ _ good.1)

pub returns-in_default : goal.returns-in_default
returns-in_default c = going_stuck c.loop-i.invariant c.loop-i-test.true c.in_default.ensures

pub overflow_mul-out : goal.overflow_mul-out
overflow_mul-out c = omega (arith, going_turn c.loop-i.invariant c.loop-i-test.true c.in-Some.ensures (omega (arith, c.requires.events_in_bounds)))

pub overflow_add-out : goal.overflow_add-out
overflow_add-out c = omega (arith, going_turn c.loop-i.invariant c.loop-i-test.true c.in-Some.ensures (omega (arith, c.requires.events_in_bounds)))

pub loop-i-preserved : goal.loop-i-preserved
loop-i-preserved c = (going_turn c.loop-i.invariant c.loop-i-test.true c.in-Some.ensures (omega (arith, c.requires.events_in_bounds))).2

pub returns : goal.returns
returns c =
    let all : c.loop-i.i ≡ length c.args.events.now = omega arith in
    rw (← all) (going_ends c.loop-i.invariant c.loop-i-test.false)
