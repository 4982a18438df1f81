-- Laws of the policy that permits all.
use Rattle.std.specs.Prelude.{◌≡◌, ◌⊎◌, ℕ, ◌^◌, length}
use Rattle.std.proofs.Math.Path.{refl}
use Rattle.std.proofs.Common.{ap, sym, ◌∙◌, arith, pow_pos, lt-ltb}
use mathlib.Core.List.{List, [], ◌∷◌}
use Rattle.std.proofs.Math.Option.{some, bind}
use Rattle.std.specs.Int.Bits.{and_zero_r}
use Rattle.streams.specs.Stream.{Event, Stream}
use Rattle.policy.specs.Rules.{Policy, start, hold, fires, decides, unlimited, advance, taken, step, steps, Fits, rests, Runs, Rests, Permits}
use Rattle.policy.specs.File.{policy_of}
use Rattle.policy.specs.Check.{all_pass, mask_good, head_good, bounds_good, rule_refusal, rules_refusal}
use Rattle.policy.specs.Number.{states_of}
use Rattle.policy.specs.Sound.{WellFormed, each_none, each_more, Formed, Sound}
use Rattle.policy.specs.ReadBack.{read_back}
use Rattle.join.specs.Free.{always, free, free_bytes, free_file}

module _ (reading : ℕ) (ins outs : List ℕ) where
  abbrev p : Policy
  p = free reading ins outs

  -- The policy that permits all has a location, and its rule is well formed.
  pub free_sound : Sound p
  free_sound = record { start = omega arith; rules = each_more one each_none }
    where
      one : Formed 0 1 always
      one = record { inputs = refl; outputs = refl; reset = omega arith; bounds = refl; target = ◌⊎◌.inl (omega arith) }

  free_step : (e : Event) → step unlimited p (start p) e ≡ some (start p)
  unfolding step bind decides fires hold taken advance
  free_step e = rw (and_zero_r e.x, and_zero_r e.y)

  free_steps : (w : Stream) → steps unlimited p (start p) w ≡ some (start p)
  unfolding steps bind
  free_steps [] = refl
  free_steps (e ∷ es) = rw (free_step e) (free_steps es)

  -- The policy that permits all permits every stream of events within the signals.
  pub free_permits : (w : Stream) → Fits p w → (Permits p).permits w
  unfolding Runs
  free_permits w f = (f, (start p, free_steps w))

  -- The policy that permits all rests after every stream.
  pub free_rests : (w : Stream) → (Permits p).rests w
  unfolding Rests rests
  free_rests w = (start p, free_steps w, refl)

-- Over the signals of a well-formed policy, the policy that permits all is well formed.
pub free_well : (reading : ℕ) (p : Policy) → WellFormed p → WellFormed (free reading p.inputs p.outputs)
unfolding all_pass mask_good head_good bounds_good rule_refusal rules_refusal states_of
free_well reading p w =
    record {
      inputs = w.inputs;
      outputs = w.outputs;
      clocks = omega arith;
      input_tags = w.input_tags;
      output_tags = w.output_tags;
      ceilings = refl;
      start = omega arith;
      locations = omega arith;
      bytes = refl;
      left = refl;
      rule_count = omega arith;
      rules = rw (lt-ltb 0 (2 ^ length p.inputs) (pow_pos _), lt-ltb 0 (2 ^ length p.outputs) (pow_pos _));
      states = omega arith;
    }

-- Its file, under each reading, is that policy.
pub free_read : (reading : ℕ) (p : Policy) → WellFormed p → policy_of reading (free_file p.inputs p.outputs) ≡ free reading p.inputs p.outputs
free_read reading p w =
    ap (policy_of reading) (sym (free_bytes p.inputs p.outputs reading))
    ∙ read_back (free reading p.inputs p.outputs) (free_well reading p w)
