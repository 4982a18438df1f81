-- By whether the signal has a condition already.
use Rattle.std.proofs.Common.{◌≡◌, refl, ℕ, Bool, true, false, cond, ◌/◌, ◌%◌, ◌≤◌, ap, sym, ◌∙◌, arith}
use mir.Val.{bool_byte}
use Rattle.conditions.specs.Steps.{begun_of, once, bit_room, signal_twice, signal_once}
use Rattle.conditions.proofs.steps.on_signal.Goals as goal

as_number : (b : Bool) → bool_byte b ≡ cond b 1 0
as_number true = refl
as_number false = refl

at_most_one : (b : Bool) → cond b 1 0 ≤ 1
at_most_one true = omega arith
at_most_one false = omega arith

pub returns-then-parsed-bit-ne0-clause-said : goal.returns-then-parsed-bit-ne0-clause-said
returns-then-parsed-bit-ne0-clause-said c =
    let p = c.args.parsed in
    λ n. signal_twice (begun_of n p) (cond c.args.on 1 0) c.args.i (λ e. c.if-parsed-bit-ne0.true (ap (λ (z : ℕ). p.care / z % 2) c.power-bit.ensures.0 ∙ e))

pub returns-clause-said : goal.returns-clause-said
returns-clause-said c =
    let p = c.args.parsed in
    let q = c.power-bit in
    let free = ap (λ (z : ℕ). p.care / z % 2) (sym q.ensures.0) ∙ c.if-parsed-bit-ne0.false in
    λ n. rw (q.ensures.0, c.from.ensures, as_number) (signal_once (begun_of n p) (cond c.args.on 1 0) c.args.i free)

pub returns-clause-masked : goal.returns-clause-masked
returns-clause-masked c =
    let p = c.args.parsed in
    let q = c.power-bit in
    let free = ap (λ (z : ℕ). p.care / z % 2) (sym q.ensures.0) ∙ c.if-parsed-bit-ne0.false in
    let small : c.from.result ≤ 1 = omega (arith, c.from.ensures, as_number c.args.on, at_most_one c.args.on) in
    record {
      care = omega (arith, q.ensures.0, bit_room p.care c.args.i c.requires.1.care c.requires.0 free);
      value = omega (arith, c.requires.1.value, once c.from.result q.result small);
      reset = c.requires.1.reset;
      clock = c.requires.1.clock;
      target = c.requires.1.target;
    }
