-- `explaining::tell::left_at` meets its contract, by the two tables.
use Rattle.std.proofs.Common.{sym, ap, ◌∙◌, arith}
use Rattle.stepping.specs.Laid.{laid_well}
use Rattle.resting.specs.Table.{bit}
use Rattle.planning.specs.Along.{location_below, rest_there}
use Rattle.explaining.specs.Said.{counted_ticks, counted_rests, rests_some}
use Rattle.explaining.proofs.tell.left_at.Goals as goal

pub returns-then-k-lt-ENDLESS : goal.returns-then-k-lt-ENDLESS
returns-then-k-lt-ENDLESS c = (counted_ticks (laid_well c.requires.0) c.requires.1 c.requires.2 c.if-k-lt-ENDLESS.true).0

pub numbered-state-requires : goal.numbered-state-requires
numbered-state-requires c = omega (arith, c.requires.2, (laid_well c.requires.0).states)

pub may_rest-requires : goal.may_rest-requires
may_rest-requires c = let k = c.requires.0 in (k.locations, k.start, location_below k c.args.number c.numbered-state.ensures c.requires.2)

pub overflow_sub-result-then-may_rest : goal.overflow_sub-result-then-may_rest
overflow_sub-result-then-may_rest c =
    let rests = sym (rest_there c.requires.0 c.args.number c.numbered-state.ensures c.may_rest.ensures) ∙ c.if-may_rest.true in
    omega (arith, rests_some (laid_well c.requires.0) c.requires.1 c.requires.2 c.requires.3 rests)

pub returns-then-may_rest : goal.returns-then-may_rest
returns-then-may_rest c =
    let k = laid_well c.requires.0 in
    let rests = sym (rest_there c.requires.0 c.args.number c.numbered-state.ensures c.may_rest.ensures) ∙ c.if-may_rest.true in
    counted_rests k c.requires.1 c.requires.2 c.if-k-lt-ENDLESS.false c.requires.3
    (omega (arith, rests_some k c.requires.1 c.requires.2 c.requires.3 rests, ap bit rests))

pub returns-else-may_rest : goal.returns-else-may_rest
returns-else-may_rest c =
    let rests = sym (rest_there c.requires.0 c.args.number c.numbered-state.ensures c.may_rest.ensures) ∙ c.if-may_rest.false in
    counted_rests (laid_well c.requires.0) c.requires.1 c.requires.2 c.if-k-lt-ENDLESS.false c.requires.3 (omega (arith, ap bit rests))
