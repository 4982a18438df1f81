-- `explaining::tell::reason_of` meets its contract: the rule that decides, where it leads, and what the tables say of the state there.
use Rattle.std.proofs.Common.{◌≤◌, ◌+◌, ◌*◌, refl, arith}
use Rattle.std.proofs.Math.Nat.{mul-le-mul}
use Rattle.stepping.specs.Code.{event_xy}
use Rattle.stepping.specs.Laid.{laid_well, laid_limits, own_fits}
use Rattle.stepping.specs.RuleAhead.{laid_short}
use Rattle.explaining.specs.Said.{told_none, told_rule, told_counted, led_dead}
use Rattle.explaining.proofs.RuleLaws.{found_rule, found_none, rule_there, rule_number, rule_few}
use Rattle.explaining.proofs.tell.reason_of.Goals as goal

pub returns-in_default : goal.returns-in_default
returns-in_default c =
    let k = c.requires.laid in
    told_none _ (laid_well k.0) _ k.2 _ (found_none k.0 k.1 (event_xy c.args.x c.args.y) c.in_default.ensures)

pub overflow_mul-size : goal.overflow_mul-size
overflow_mul-size c = omega (arith, laid_limits c.requires.laid.0)

pub overflow_add-size : goal.overflow_add-size
overflow_add-size c = omega (arith, laid_limits c.requires.laid.0)

pub overflow_add-at : goal.overflow_add-at
overflow_add-at c =
    let k = c.requires.laid in
    omega (arith, own_fits k.0 c.args.here.state.location k.1.own, laid_short k.0)

pub overflow_mul-at : goal.overflow_mul-at
overflow_mul-at c =
    let k = c.requires.laid in
    let n = (own_fits k.0 c.args.here.state.location k.1.own).1 in
    let l = laid_limits k.0 in
    let few : c.in-Some.i ≤ 256 = omega (arith, (found_rule k.0 k.1 (event_xy c.args.x c.args.y) c.in-Some.ensures).0) in
    let small : 7 + 4 * c.args.layout.clocks ≤ 23 = omega arith in
    let most : c.in-Some.i * (7 + 4 * c.args.layout.clocks) ≤ 5888 = mul-le-mul few small in
    omega (arith, most)

pub overflow_add-at-2 : goal.overflow_add-at-2
overflow_add-at-2 c =
    let k = c.requires.laid in
    let n = (own_fits k.0 c.args.here.state.location k.1.own).1 in
    let l = laid_limits k.0 in
    let few : c.in-Some.i ≤ 256 = omega (arith, (found_rule k.0 k.1 (event_xy c.args.x c.args.y) c.in-Some.ensures).0) in
    let small : 7 + 4 * c.args.layout.clocks ≤ 23 = omega arith in
    let most : c.in-Some.i * (7 + 4 * c.args.layout.clocks) ≤ 5888 = mul-le-mul few small in
    omega (arith, most, own_fits k.0 c.args.here.state.location k.1.own, laid_short k.0)

pub next_of-requires : goal.next_of-requires
next_of-requires c =
    let k = c.requires.laid in
    let e = event_xy c.args.x c.args.y in
    (k.0, k.2, rule_there k.0 k.1 e (found_rule k.0 k.1 e c.in-Some.ensures).0)

pub overflow_add-result : goal.overflow_add-result
overflow_add-result c =
    let k = c.requires.laid in
    let e = event_xy c.args.x c.args.y in
    omega (arith, rule_few k.0 k.1 e (found_rule k.0 k.1 e c.in-Some.ensures).0)

pub returns-in_default-next_of : goal.returns-in_default-next_of
returns-in_default-next_of c =
    let k = c.requires.laid in
    let e = event_xy c.args.x c.args.y in
    let d = found_rule k.0 k.1 e c.in-Some.ensures in
    told_rule _ (laid_well k.0) _ k.2 e d.2 d.1 c.in_default-next_of.ensures (rule_number k.0 k.1 e _) (rule_few k.0 k.1 e d.0)

pub left_at-requires : goal.left_at-requires
left_at-requires c =
    let k = c.requires.laid in
    let e = event_xy c.args.x c.args.y in
    let d = found_rule k.0 k.1 e c.in-Some.ensures in
    let w = c.in-Some-next_of.ensures in
    (k.0, c.requires.counts_of.0, w.below refl, led_dead _ (laid_well k.0) _ k.2 e d.2 w c.requires.counts_of.1)

pub returns : goal.returns
returns c =
    let k = c.requires.laid in
    let e = event_xy c.args.x c.args.y in
    let d = found_rule k.0 k.1 e c.in-Some.ensures in
    told_counted _ (laid_well k.0) _ k.2 e d.2 c.in-Some-next_of.ensures c.left_at.ensures
