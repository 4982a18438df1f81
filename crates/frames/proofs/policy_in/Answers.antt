-- What the count counts is all there.
use Rattle.std.proofs.Common.{ap, arith, refl, ℕ, ◌+◌}
use Rattle.policy.specs.File.{pair_at}
use Rattle.frames.specs.Framed.{count_fits, part_between}
use Rattle.frames.proofs.policy_in.Goals as goal

pub slice_bounds-result-end : goal.slice_bounds-result-end
slice_bounds-result-end c =
    omega (arith, c.pair_at-end.ensures.0, count_fits c.args.input.now 0 5974 c.requires)

pub returns : goal.returns
returns c =
    let input = c.args.input.now in
    part_between input 2 (pair_at input 0) {start = 2} {end = 2 + c.pair_at-end.result} refl (ap (λ (n : ℕ). 2 + n) c.pair_at-end.ensures.0)
