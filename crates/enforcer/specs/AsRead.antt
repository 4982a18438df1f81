-- What the halves answer past 16 by what is asked before any choice: whether x and y are within their values, and whether the event stands as it was read.
use Rattle.std.specs.Prelude.{◌≡◌, true, List, ℕ, ◌≤◌, ◌<◌, Some}
use Rattle.std.proofs.Common.{sym, ap, pow_pos, lt-ltb, le-ltb}
use Rattle.streams.specs.Answer.{refused, gives}
use Rattle.streams.specs.ChooseLaws.{some_has, nearest_kept}
use Rattle.policy.specs.Rules.{Place, input_values, output_values}
use Rattle.policy.specs.File.{policy_of}
use Rattle.stepping.specs.Tick.{reaches, may_stand, input_choice}
use Rattle.stepping.specs.Code.{step_from}
use Rattle.correcting.specs.Arrived.{arrival, arrival_reaches, arrival_some, output_kept}
use Rattle.enforcer.specs.Entries.{input_past, output_past}
use Rattle.stepping.specs.declared.state.State.{State}

module _ (reading : ℕ) (file marks : List ℕ) (t : Place) (x : ℕ) where
  -- The input half refuses an x beyond the signals by 15.
  pub input_past_15 : input_values (policy_of reading file) ≤ x → input_past reading file marks t x ≡ refused 15
  input_past_15 h = rw (le-ltb _ _ h)

  -- An input in range is kept if with the output 0 it leads to a marked place.
  pub input_as_read : x < input_values (policy_of reading file) → reaches (policy_of reading file) marks t x 0 ≡ true → input_past reading file marks t x ≡ gives x
  unfolding input_choice may_stand
  input_as_read h r =
      rw (lt-ltb _ _ h, nearest_kept (may_stand (policy_of reading file) marks t) x (input_values (policy_of reading file)) h (some_has (reaches (policy_of reading file) marks t x) (output_values (policy_of reading file)) 0 (pow_pos _) r))

  module _ (given : State) (y : ℕ) where
    -- The output half refuses an x beyond the signals by 15, and hands the state back.
    pub output_past_15_x : input_values (policy_of reading file) ≤ x → output_past reading file marks given t x y ≡ record { answer = refused 15; state = given }
    output_past_15_x h = rw (le-ltb _ _ h)

    -- It refuses a y beyond the signals by 15 too, and hands the state back.
    pub output_past_15_y : x < input_values (policy_of reading file) → output_values (policy_of reading file) ≤ y →
        output_past reading file marks given t x y ≡ record { answer = refused 15; state = given }
    output_past_15_y h g = rw (lt-ltb _ _ h, le-ltb _ _ g)

    -- The output is kept if the event leads to a marked place, and that is the next one.
    pub output_half_as_read : x < input_values (policy_of reading file) → y < output_values (policy_of reading file) → {next : State} →
        Some next ≡ step_from (arrival (policy_of reading file) marks t x y) →
        output_past reading file marks given t x y ≡ record { answer = gives y; state = next }
    output_half_as_read h g e =
        let u = arrival_some (policy_of reading file) marks t x y e in
        let q = output_kept (policy_of reading file) marks t x y g (arrival_reaches (policy_of reading file) marks t x y e) u.1 in
        rw (lt-ltb _ _ h, lt-ltb _ _ g, q) (ap (λ (z : State). record { answer = gives y; state = z }) (sym u.2))
