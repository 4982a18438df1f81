-- The events end with the input.
use Rattle.std.proofs.Common.{ap, arith, length, sym, ℕ, ◌+◌}
use Rattle.policy.specs.File.{pair_at}
use Rattle.frames.specs.Frame.{policy_end, events_start}
use Rattle.frames.specs.Framed.{events_fit, part_between}
use Rattle.frames.proofs.events_in.Goals as goal

pub slice_bounds-result-count : goal.slice_bounds-result-count
slice_bounds-result-count c = omega (arith, c.pair_at.ensures.0, (events_fit c.args.input.now c.requires).1)

pub slice_bounds-result-start : goal.slice_bounds-result-start
slice_bounds-result-start c = omega (arith, c.pair_at.ensures.0, (events_fit c.args.input.now c.requires).1)

pub returns : goal.returns
returns c =
    let input = c.args.input.now in
    part_between input (events_start input) (pair_at input (policy_end input)) {start = 2 + c.pair_at.result + 2} {end = length input}
    (ap (λ (n : ℕ). 2 + n + 2) c.pair_at.ensures.0) (sym ((events_fit c.args.input.now c.requires).1))
