-- Cases by hand of ticks that count down, under either reading.
use Rattle.std.specs.Prelude.{◌≡◌, refl, [], ◌∷◌, ℕ}
use Rattle.std.proofs.Math.Option.{none, some}
use Rattle.std.proofs.Common.{arith}
use Rattle.std.specs.Int.Bits.{and_zero_r}
use Rattle.streams.specs.Stream.{Event}
use Rattle.policy.specs.Rules.{Policy, Place, unlimited, step, FitsOne, rests as at_rest}
use Rattle.policy.specs.Number.{states_of}
use Rattle.stepping.specs.Code.{event_xy}
use Rattle.explaining.specs.Reasons.{kept, ticks, TicksLeft, by_ticks, forwarded}
use Rattle.prepare.specs.Computing.{a_step, the_marks, the_run}
use Rattle.reasons.specs.Cases.{free, Tells, judged, waits, ended, one_more}

-- The input 1 leads to a location that is left for good once the clock is past 2: what can still come counts down.
abbrev pub down : ℕ → Policy
down reading =
    record {
      reading = reading;
      inputs = 0x52 ∷ [];
      outputs = 0x43 ∷ [];
      ceilings = 3 ∷ [];
      locations = 2;
      left = 0 ∷ 0 ∷ [];
      rules =
          record { source = 0; in_care = 1; in_value = 1; out_care = 0; out_value = 0; reset = 0; target = 1; bounds = free ∷ [] }
          ∷ record { source = 0; in_care = 0; in_value = 0; out_care = 0; out_value = 0; reset = 0; target = 0; bounds = free ∷ [] }
          ∷ record { source = 1; in_care = 0; in_value = 0; out_care = 0; out_value = 0; reset = 0; target = 1; bounds = record { low = 0; high = 2 } ∷ [] } ∷ [];
    }

abbrev idle : ℕ → Place
idle v = record { location = 0; clocks = v ∷ [] }

down_quiet : (reading : ℕ) → FitsOne (down reading) (event_xy 0 0)
down_quiet reading = record { x = omega arith; y = omega arith }

-- Where the clock lets it go on, and where not.
on_one : (e : Event) → step unlimited (down 1) (waits 1) e ≡ some (waits 2)
unfolding a_step
on_one e = simp (and_zero_r e.x, and_zero_r e.y) refl

on_two : (e : Event) → step unlimited (down 1) (waits 2) e ≡ some (waits 3)
unfolding a_step
on_two e = simp (and_zero_r e.x, and_zero_r e.y) refl

none_three : (e : Event) → step unlimited (down 1) (waits 3) e ≡ none
unfolding a_step
none_three e = simp (and_zero_r e.x, and_zero_r e.y) refl

none_four : (e : Event) → step unlimited (down 1) (waits 4) e ≡ none
unfolding a_step
none_four e = simp (and_zero_r e.x, and_zero_r e.y) refl

left_three : TicksLeft (down 1) (waits 3) 0
left_three = ended (down 1) (waits 3) none_three

left_two : TicksLeft (down 1) (waits 2) 1
left_two = one_more (down 1) (down_quiet 1) (waits 2) (waits 3) on_two left_three

left_one : TicksLeft (down 1) (waits 1) 2
left_one = one_more (down 1) (down_quiet 1) (waits 1) (waits 2) on_one left_two

left_four : TicksLeft (down 1) (waits 4) 0
left_four = ended (down 1) (waits 4) none_four

-- At the clock values 0, 1, 2 and 3 the count is 2, 1, 0 and 0, with either output.
pub down_cases : Tells (down 1) (idle 0) 1 0 (ticks 2) kept × Tells (down 1) (idle 1) 1 0 (ticks 1) kept × Tells (down 1) (idle 2) 1 0 (ticks 0) kept × Tells (down 1) (idle 3) 1 0 (ticks 0) kept
unfolding a_step the_marks the_run at_rest states_of
down_cases = (
  record { x' = 0; y' = 0; passed = refl; released = refl; for_input = judged (λ e. omega arith) (by_ticks refl left_one) (by_ticks refl left_one); for_output = forwarded refl },
  record { x' = 0; y' = 0; passed = refl; released = refl; for_input = judged (λ e. omega arith) (by_ticks refl left_two) (by_ticks refl left_two); for_output = forwarded refl },
  record { x' = 0; y' = 0; passed = refl; released = refl; for_input = judged (λ e. omega arith) (by_ticks refl left_three) (by_ticks refl left_three); for_output = forwarded refl },
  record { x' = 0; y' = 0; passed = refl; released = refl; for_input = judged (λ e. omega arith) (by_ticks refl left_four) (by_ticks refl left_four); for_output = forwarded refl },
)

-- Under reading 2 each bound is tested one tick earlier: 1, 0, 0 and 0.
later_one : (e : Event) → step unlimited (down 2) (waits 1) e ≡ some (waits 2)
unfolding a_step
later_one e = simp (and_zero_r e.x, and_zero_r e.y) refl

later_two : (e : Event) → step unlimited (down 2) (waits 2) e ≡ none
unfolding a_step
later_two e = simp (and_zero_r e.x, and_zero_r e.y) refl

later_three : (e : Event) → step unlimited (down 2) (waits 3) e ≡ none
unfolding a_step
later_three e = simp (and_zero_r e.x, and_zero_r e.y) refl

later_four : (e : Event) → step unlimited (down 2) (waits 4) e ≡ none
unfolding a_step
later_four e = simp (and_zero_r e.x, and_zero_r e.y) refl

later_end : TicksLeft (down 2) (waits 2) 0
later_end = ended (down 2) (waits 2) later_two

later_left : TicksLeft (down 2) (waits 1) 1
later_left = one_more (down 2) (down_quiet 2) (waits 1) (waits 2) later_one later_end

-- Under reading 2, at the clock values 0, 1, 2 and 3, the count is 1, 0, 0 and 0.
pub later_cases : Tells (down 2) (idle 0) 1 0 (ticks 1) kept × Tells (down 2) (idle 1) 1 0 (ticks 0) kept × Tells (down 2) (idle 2) 1 0 (ticks 0) kept × Tells (down 2) (idle 3) 1 0 (ticks 0) kept
unfolding a_step the_marks the_run at_rest states_of
later_cases =
    let three = ended (down 2) (waits 3) later_three in
    let four = ended (down 2) (waits 4) later_four in (
      record { x' = 0; y' = 0; passed = refl; released = refl; for_input = judged (λ e. omega arith) (by_ticks refl later_left) (by_ticks refl later_left); for_output = forwarded refl },
      record { x' = 0; y' = 0; passed = refl; released = refl; for_input = judged (λ e. omega arith) (by_ticks refl later_end) (by_ticks refl later_end); for_output = forwarded refl },
      record { x' = 0; y' = 0; passed = refl; released = refl; for_input = judged (λ e. omega arith) (by_ticks refl three) (by_ticks refl three); for_output = forwarded refl },
      record { x' = 0; y' = 0; passed = refl; released = refl; for_input = judged (λ e. omega arith) (by_ticks refl four) (by_ticks refl four); for_output = forwarded refl },
    )
