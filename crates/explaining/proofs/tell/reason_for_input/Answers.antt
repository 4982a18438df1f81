-- `explaining::tell::reason_for_input` meets its contract: the best goes on from output to output.
use Rattle.std.proofs.Common.{◌≡◌, arith, pow_pos, add-one}
use Rattle.policy.specs.Rules.{output_values}
use Rattle.policy.specs.File.{policy_of}
use Rattle.stepping.specs.Laid.{laid_limits, laid_outputs}
use Rattle.explaining.specs.Said.{told_first, told_more}
use Rattle.explaining.proofs.tell.reason_for_input.Goals as goal

pub values-outputs-requires : goal.values-outputs-requires
values-outputs-requires c = omega (arith, laid_limits c.requires.laid.0)

pub overflow_cast-y-end : goal.overflow_cast-y-end
overflow_cast-y-end c = omega (arith, c.values-outputs.ensures, laid_outputs c.requires.laid.0)

pub loop-y-init : goal.loop-y-init
loop-y-init c = told_first c.reason_of-best.ensures

pub reason_of-one-requires-clause-counts_of : goal.reason_of-one-requires-clause-counts_of
reason_of-one-requires-clause-counts_of c =
    let k = c.requires.counts_of in
    (k.0, k.1 c.loop-y.y (omega (arith, c.values-outputs.ensures, laid_outputs c.requires.laid.0, c.loop-y-test.true)))

pub loop-y-preserved : goal.loop-y-preserved
loop-y-preserved c = rw (add-one, c.better-best.ensures) (told_more (omega arith) c.loop-y.invariant c.reason_of-one.ensures)

pub returns : goal.returns
returns c =
    let k = laid_outputs c.requires.laid.0 in
    let all : c.loop-y.y ≡ output_values (policy_of c.args.layout.reading c.args.file.now) =
    omega (arith, c.values-outputs.ensures, k, pow_pos c.args.layout.outputs, c.loop-y-test.false)
    in
    rw all at c.loop-y.invariant
