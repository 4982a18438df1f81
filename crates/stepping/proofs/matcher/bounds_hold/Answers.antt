-- A turn looks at one bound.
use Rattle.std.proofs.Common.{sym, ◌∙◌, arith}
use Rattle.stepping.proofs.RuleLaws.{hold_turn, hold_end}
use Rattle.stepping.proofs.matcher.bounds_hold.Goals as goal

pub loop-i-preserved : goal.loop-i-preserved
loop-i-preserved c =
    let turn = hold_turn c.args.rules.now c.args.at c.args.clocks c.args.values c.loop-i.i _ _ c.if-clocks-i.false (omega arith) c.pair_within-low.ensures.0 c.pair_within-high.ensures.0 in
    (omega arith, c.loop-i.invariant.1 ∙ turn ∙ rw (sym c.is_within.ensures ∙ c.if-not-is_within.false))

pub returns-then-clocks-i : goal.returns-then-clocks-i
returns-then-clocks-i c = sym (c.loop-i.invariant.1 ∙ hold_end _ _ _ _ _ c.if-clocks-i.true)

pub returns-then-not-is_within : goal.returns-then-not-is_within
returns-then-not-is_within c =
    let turn = hold_turn c.args.rules.now c.args.at c.args.clocks c.args.values c.loop-i.i _ _ c.if-clocks-i.false (omega arith) c.pair_within-low.ensures.0 c.pair_within-high.ensures.0 in
    sym (c.loop-i.invariant.1 ∙ turn ∙ rw (sym c.is_within.ensures ∙ c.if-not-is_within.true))

pub returns : goal.returns
returns c = sym (c.loop-i.invariant.1 ∙ hold_end _ _ _ _ _ (omega arith))
