use Rattle.std.proofs.Common.{◌+◌, ◌≤◌, arith, length}
use Rattle.texts.specs.Under.{under_start, under_room, under_more, under_all}
use Rattle.asks.specs.Words.{bound}
use Rattle.asks.specs.Turns.{bounds_on, bounds_start, bounds_turn, bounds_end}
use Rattle.asks.proofs.bounds.put_bounds.Goals as goal

pub loop-clock-init : goal.loop-clock-init
loop-clock-init c = under_start _ _ _

pub put_bound-next-requires : goal.put_bound-next-requires
put_bound-next-requires c =
    let rule = c.args.rule.now in
    let clock = c.loop-clock.clock in
    let room : c.args.at + length (bounds_on rule c.args.clocks 0) ≤ length c.args.text.now = rw (bounds_start rule c.args.clocks) c.requires.2 in
    let low = c.pair_within-low in
    let high = c.pair_within-high in
    under_room room c.loop-clock.invariant (bound clock low.result high.result) (bounds_on rule c.args.clocks (clock + 1))
    (bounds_turn rule c.args.clocks clock (omega arith) low.ensures.0 high.ensures.0)

pub loop-clock-preserved : goal.loop-clock-preserved
loop-clock-preserved c =
    let rule = c.args.rule.now in
    let room : c.args.at + length (bounds_on rule c.args.clocks 0) ≤ length c.args.text.now = rw (bounds_start rule c.args.clocks) c.requires.2 in
    let turn = bounds_turn rule c.args.clocks c.loop-clock.clock (omega arith) c.pair_within-low.ensures.0 c.pair_within-high.ensures.0 in
    under_more room c.loop-clock.invariant turn c.put_bound-next.ensures c.put_bound-next.auto.text

pub returns : goal.returns
returns c =
    let a = c.args in
    let l = c.loop-clock in
    rw (← bounds_start a.rule.now a.clocks) (under_all l.invariant (bounds_end a.rule.now a.clocks l.clock (omega arith)))
