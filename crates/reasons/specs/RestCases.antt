-- Cases by hand of rests: beside ticks, and rests that never come again, on both halves.
use Rattle.std.specs.Prelude.{◌≡◌, refl, [], ◌∷◌, ℕ, zero, suc}
use Rattle.std.proofs.Common.{ap, inl, ⊎_elim, arith}
use Rattle.std.proofs.Math.Option.{none, some, bind}
use Rattle.std.specs.Int.Bits.{and_zero_r}
use Rattle.streams.specs.Stream.{Event, Stream, Rested}
use Rattle.policy.specs.Rules.{Policy, Place, unlimited, step, steps, FitsOne, fits_none, Runs, Rests, rests as at_rest}
use Rattle.policy.specs.Number.{states_of}
use Rattle.stepping.specs.Code.{event_xy}
use Rattle.explaining.specs.Reasons.{kept, ticks, rests, Lasting, RestsLeft, by_ticks, by_rests, forwarded, edited, rested_less}
use Rattle.prepare.specs.Computing.{a_step, the_marks, the_run}
use Rattle.reasons.specs.Cases.{Tells, judged, here, ended, on, past, one_more, rests_past, rested_past, unrested, circles, never, circling}

-- With the input 1 the output 0 leads to a location without rules, and the output 1 to one from which the stream goes on for ever, over one location at rest into
-- one that must be left. With the input 0 it is the output 1 that leads to the end, after one more tick.
abbrev pub held : Policy
held =
    record {
      reading = 1;
      inputs = 0x41 ∷ [];
      outputs = 0x42 ∷ [];
      ceilings = [];
      locations = 6;
      left = 0 ∷ 0 ∷ 0 ∷ 1 ∷ 0 ∷ 0 ∷ [];
      rules =
          record { source = 0; in_care = 1; in_value = 1; out_care = 1; out_value = 1; reset = 0; target = 1; bounds = [] }
          ∷ record { source = 0; in_care = 1; in_value = 1; out_care = 0; out_value = 0; reset = 0; target = 5; bounds = [] }
          ∷ record { source = 0; in_care = 0; in_value = 0; out_care = 1; out_value = 1; reset = 0; target = 4; bounds = [] }
          ∷ record { source = 0; in_care = 0; in_value = 0; out_care = 0; out_value = 0; reset = 0; target = 0; bounds = [] }
          ∷ record { source = 1; in_care = 0; in_value = 0; out_care = 0; out_value = 0; reset = 0; target = 2; bounds = [] }
          ∷ record { source = 2; in_care = 0; in_value = 0; out_care = 0; out_value = 0; reset = 0; target = 3; bounds = [] }
          ∷ record { source = 3; in_care = 0; in_value = 0; out_care = 0; out_value = 0; reset = 0; target = 3; bounds = [] }
          ∷ record { source = 4; in_care = 0; in_value = 0; out_care = 0; out_value = 0; reset = 0; target = 5; bounds = [] } ∷ [];
    }

abbrev at : ℕ → Place
at l = record { location = l; clocks = [] }

held_quiet : FitsOne held (event_xy 0 0)
held_quiet = record { x = omega arith; y = omega arith }

held_one : (e : Event) → step unlimited held (at 1) e ≡ some (at 2)
unfolding a_step
held_one e = simp (and_zero_r e.x, and_zero_r e.y) refl

held_two : (e : Event) → step unlimited held (at 2) e ≡ some (at 3)
unfolding a_step
held_two e = simp (and_zero_r e.x, and_zero_r e.y) refl

held_three : (e : Event) → step unlimited held (at 3) e ≡ some (at 3)
unfolding a_step
held_three e = simp (and_zero_r e.x, and_zero_r e.y) refl

held_four : (e : Event) → step unlimited held (at 4) e ≡ some (at 5)
unfolding a_step
held_four e = simp (and_zero_r e.x, and_zero_r e.y) refl

held_five : (e : Event) → step unlimited held (at 5) e ≡ none
unfolding a_step
held_five e = refl

never_two : (v : Stream) → Runs held (at 2) v → Rested (Rests held (at 2)) 1 v → ⊥
unfolding Rested at_rest
never_two [] r q = q
never_two (e ∷ v) r q =
    ⊎_elim (λ a. unrested held (at 3) refl ((rests_past held held_quiet (at 2) (at 3) held_two e []).0 a.0))
    (λ a. never held held_quiet (at 3) held_three refl v (past held held_quiet (at 2) (at 3) held_two e v r) ((rested_past held held_quiet (at 2) (at 3) held_two e 1 v).0 a)) q

-- From the location 1 it comes to rest once, in the location 2.
held_left : RestsLeft held (at 1) 1
unfolding Rested Runs Rests steps bind at_rest
held_left = record { lasts = lasting; some = once; most = most }
  where
    lasting : Lasting held (at 1)
    lasting zero = ([], (fits_none, (at 1, refl)), refl)
    lasting (suc zero) = (event_xy 0 0 ∷ [], on held held_quiet (at 1) (at 2) held_one [] (fits_none, (at 2, refl)), refl)
    lasting (suc (suc n)) =
        let v = circles held held_quiet (at 3) held_three refl n in (
          event_xy 0 0 ∷ event_xy 0 0 ∷ v.0,
          on held held_quiet (at 1) (at 2) held_one (event_xy 0 0 ∷ v.0) (on held held_quiet (at 2) (at 3) held_two v.0 v.1),
          ap (λ (m : ℕ). suc (suc m)) v.2,
        )

    once : (v : Stream) × Runs held (at 1) v × Rested (Rests held (at 1)) 1 v
    once = (
      event_xy 0 0 ∷ [],
      on held held_quiet (at 1) (at 2) held_one [] (fits_none, (at 2, refl)),
      inl ((rests_past held held_quiet (at 1) (at 2) held_one (event_xy 0 0) []).1 (at 2, refl, refl), tt),
    )

    most : (v : Stream) → Runs held (at 1) v → Rested (Rests held (at 1)) 2 v → ⊥
    most [] r q = q
    most (e ∷ v) r q =
        ⊎_elim (λ a. never_two v (past held held_quiet (at 1) (at 2) held_one e v r) ((rested_past held held_quiet (at 1) (at 2) held_one e 1 v).0 a.1))
        (λ a. never_two v (past held held_quiet (at 1) (at 2) held_one e v r)
        (rested_less (Rests held (at 2)) v 1 ((rested_past held held_quiet (at 1) (at 2) held_one e 2 v).0 a))) q

-- Rests go before the ticks of the output beside it, and the event's own rest is not counted. The output is judged with the input 0, as passed on: one more tick.
pub held_cases : Tells held here 1 0 (rests 1) kept × Tells held here 0 1 kept (ticks 1) × Tells held here 1 1 (rests 1) (ticks 1)
unfolding a_step the_marks the_run at_rest states_of
held_cases =
    let end = ended held (at 5) held_five in
    let one = one_more held held_quiet (at 4) (at 5) held_four end in (
      record { x' = 0; y' = 0; passed = refl; released = refl; for_input = judged (λ e. omega arith) (by_ticks refl end) (by_rests refl held_left); for_output = forwarded refl },
      record { x' = 0; y' = 0; passed = refl; released = refl; for_input = forwarded refl; for_output = edited (λ e. omega arith) (by_ticks refl one) },
      record { x' = 0; y' = 0; passed = refl; released = refl; for_input = judged (λ e. omega arith) (by_ticks refl end) (by_rests refl held_left); for_output = edited (λ e. omega arith) (by_ticks refl one) },
    )

-- The output 1 leads to a location that must be left and cannot be.
abbrev pub parked : Policy
parked =
    record {
      reading = 1;
      inputs = 0x41 ∷ [];
      outputs = 0x42 ∷ [];
      ceilings = [];
      locations = 2;
      left = 0 ∷ 1 ∷ [];
      rules =
          record { source = 0; in_care = 0; in_value = 0; out_care = 1; out_value = 1; reset = 0; target = 1; bounds = [] }
          ∷ record { source = 0; in_care = 0; in_value = 0; out_care = 0; out_value = 0; reset = 0; target = 0; bounds = [] }
          ∷ record { source = 1; in_care = 0; in_value = 0; out_care = 0; out_value = 0; reset = 0; target = 1; bounds = [] } ∷ [];
    }

parked_one : (e : Event) → step unlimited parked (at 1) e ≡ some (at 1)
unfolding a_step
parked_one e = simp (and_zero_r e.x, and_zero_r e.y) refl

-- It never comes to rest again.
pub parked_case : Tells parked here 0 1 kept (rests 0)
unfolding a_step the_marks the_run at_rest states_of
parked_case =
    record {
      x' = 0;
      y' = 0;
      passed = refl;
      released = refl;
      for_input = forwarded refl;
      for_output = edited (λ e. omega arith) (by_rests refl (circling parked (record { x = omega arith; y = omega arith }) (at 1) parked_one refl));
    }
