-- The signals are there or not, and the slices are as long as they are to be or not: what the entries answer then.
use Rattle.std.specs.Prelude.{◌≡◌, ℕ, zero, suc, Bool, true, false, ◌&&◌, List, ◌≢◌}
use Rattle.std.proofs.Math.Path.{refl}
use Rattle.std.proofs.Common.{ap, ◌∙◌, arith}
use Rattle.streams.specs.Answer.{Answer, refused, ◌or_else◌}
use Rattle.policy.specs.Check.{refusal_under}
use Rattle.policy.specs.Signals.{input_weight, output_weight, own_input, own_output}
use Rattle.enforcer.specs.Entries.{OutputAnswer, input_of, output_of}
use Rattle.enforcer.specs.Refusals.{input_first, output_first}
use Rattle.bays.specs.Odd.{odd_refusal, odd_first}
use Rattle.meter.specs.Meter.{is_station, are_totals, station_state, last_reading, pulses_of, with_pulse}
use Rattle.meter.specs.Entries.{kept, metered, past, tag_p, tag_d, meter_refusal, weight_p, weight_d, meter_input_of, meter_output_of}
use Rattle.meter.specs.Signals.{Lacks, lacks, has}

past_some : {A : Type 0} (n m : ℕ) (refusal : ℕ → A) (a : A) → n ≡ (m or_else 26) → past n refusal a ≡ refusal (m or_else 26)
past_some zero zero refusal a e = absurd (omega arith)
past_some zero (suc m) refusal a e = absurd (omega arith)
past_some (suc n) m refusal a e = ap refusal e

module _ (reading : ℕ) (file marks station : List ℕ) where
  -- Without P or D the first half gives the refusal of the file, or else 26.
  pub input_lacks : (register x : ℕ) → Lacks file → meter_input_of reading file marks station register x ≡ refused (refusal_under reading file or_else 26)
  unfolding meter_input_of
  input_lacks register x h = past_some (meter_refusal reading file) (refusal_under reading file) refused _ (lacks reading file h)

  -- Without P or D the second half gives the same refusal, and nothing changes.
  pub output_lacks : (totals : List ℕ) (register x y : ℕ) → Lacks file →
      meter_output_of reading file marks station totals register x y ≡ kept station totals (refusal_under reading file or_else 26)
  unfolding meter_output_of
  output_lacks totals register x y h = past_some (meter_refusal reading file) (refusal_under reading file) (kept station totals) _ (lacks reading file h)

  module _ (p : input_weight file tag_p ≡ 0 → ⊥) (d : output_weight file tag_d ≡ 0 → ⊥) where
    some_bad : (n : ℕ) → refusal_under reading file ≡ suc n → refusal_under reading file ≢ 0
    some_bad n e z = omega arith

    odd_bad : (two : Bool) (n : ℕ) → refusal_under reading file ≡ suc n → odd_refusal reading file marks two ≡ suc n
    odd_bad two n e = odd_first reading file marks two (some_bad n e) ∙ e

    -- With fewer than six numbers the first half refuses: by the file or the marks, or else by 16.
    pub input_odd : (register x : ℕ) → is_station station ≡ false →
        meter_input_of reading file marks station register x ≡ refused (odd_refusal reading file marks true)
    unfolding meter_input_of
    input_odd register x s = rw (has reading file p d, s) (go (refusal_under reading file) refl)
      where
        go : (n : ℕ) → refusal_under reading file ≡ n →
            past {A = Answer ℕ} n refused (refused (odd_refusal reading file marks true)) ≡ refused (odd_refusal reading file marks true)
        go zero e = refl
        go (suc n) e = rw (odd_bad true n e)

    -- With a station the first half is the input half, with P set or cleared in x.
    pub input_there : (register x : ℕ) → is_station station ≡ true →
        meter_input_of reading file marks station register x
        ≡ input_of reading file marks (station_state station) (with_pulse (input_weight file tag_p) (pulses_of register (last_reading station)) x)
    unfolding meter_input_of
    input_there register x s = rw (has reading file p d, s) (go (refusal_under reading file) refl)
      where
        given : ℕ → ℕ
        given w = with_pulse w (pulses_of register (last_reading station)) x

        go : (n : ℕ) → refusal_under reading file ≡ n →
            past n refused (input_of reading file marks (station_state station) (given (weight_p reading file)))
            ≡ input_of reading file marks (station_state station) (given (input_weight file tag_p))
        go zero e = rw (own_input reading file e tag_p)
        go (suc n) e = rw (input_first reading file marks (some_bad n e) (station_state station) (given (input_weight file tag_p)), e)

    module _ (totals : List ℕ) (register x y : ℕ) where
      -- With a slice too short the second half refuses: by the file or the marks, or else by 14. Nothing changes.
      pub output_odd : (is_station station && are_totals totals) ≡ false →
          meter_output_of reading file marks station totals register x y ≡ kept station totals (odd_refusal reading file marks false)
      unfolding meter_output_of
      output_odd s = rw (has reading file p d, s) (go (refusal_under reading file) refl)
        where
          go : (n : ℕ) → refusal_under reading file ≡ n →
              past n (kept station totals) (kept station totals (odd_refusal reading file marks false))
              ≡ kept station totals (odd_refusal reading file marks false)
          go zero e = refl
          go (suc n) e = rw (odd_bad false n e)

      -- With both slices long enough the second half is the output half, and what follows from its answer.
      pub output_there : (is_station station && are_totals totals) ≡ true →
          let o = output_of reading file marks (station_state station) x y in
          meter_output_of reading file marks station totals register x y
          ≡ metered station totals register (output_weight file tag_d) o.state o.answer
      unfolding meter_output_of
      output_there s = rw (has reading file p d, s) (go (refusal_under reading file) refl)
        where
          o : OutputAnswer
          o = output_of reading file marks (station_state station) x y

          go : (n : ℕ) → refusal_under reading file ≡ n →
              past n (kept station totals) (metered station totals register (weight_d reading file) o.state o.answer)
              ≡ metered station totals register (output_weight file tag_d) o.state o.answer
          go zero e = rw (own_output reading file e tag_d)
          go (suc n) e = rw (output_first reading file marks (some_bad n e) (station_state station) x y, e)
