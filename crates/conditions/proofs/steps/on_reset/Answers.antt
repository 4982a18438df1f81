-- By whether the clock is reset already.
use Rattle.std.proofs.Common.{ℕ, ◌/◌, ◌%◌, ap, sym, ◌∙◌, arith}
use Rattle.conditions.specs.Steps.{begun_of, low_room, reset_twice, reset_once}
use Rattle.conditions.proofs.steps.on_reset.Goals as goal

pub returns-then-parsed-bit-ne0-clause-said : goal.returns-then-parsed-bit-ne0-clause-said
returns-then-parsed-bit-ne0-clause-said c =
    let p = c.args.parsed in
    λ n. reset_twice (begun_of n p) c.args.i (λ e. c.if-parsed-bit-ne0.true (ap (λ (z : ℕ). p.reset / z % 2) c.power-bit.ensures.0 ∙ e))

pub returns-clause-said : goal.returns-clause-said
returns-clause-said c =
    let p = c.args.parsed in
    let q = c.power-bit in
    let free = ap (λ (z : ℕ). p.reset / z % 2) (sym q.ensures.0) ∙ c.if-parsed-bit-ne0.false in
    λ n. rw q.ensures.0 (reset_once (begun_of n p) c.args.i free)

pub returns-clause-masked : goal.returns-clause-masked
returns-clause-masked c =
    let p = c.args.parsed in
    let q = c.power-bit in
    let free = ap (λ (z : ℕ). p.reset / z % 2) (sym q.ensures.0) ∙ c.if-parsed-bit-ne0.false in
    record {
      care = c.requires.1.care;
      value = c.requires.1.value;
      clock = c.requires.1.clock;
      target = c.requires.1.target;
      reset = omega (arith, q.ensures.0, low_room p.reset c.args.i c.requires.1.reset c.requires.0 free);
    }
