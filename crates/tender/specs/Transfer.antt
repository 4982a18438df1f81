-- The policy of a transfer with a meter: "credit K only while the clock is at most 2", where a pulse of the meter starts the clock anew; and the ticks of
-- a station with it.
-- In order: the policy and its four states; its ticks by where the clock is; the ticks of a station, quiet or with pulses.
use Rattle.std.specs.Prelude.{◌≡◌, List, [], ◌∷◌, ◌++◌, ℕ, ◌+◌, ◌%◌, ◌≤◌, ◌<◌, length}
use Rattle.std.proofs.Math.Path.{refl, ap, ap₂}
use Rattle.std.proofs.Common.{sym, subst, ◌∙◌}
use Rattle.std.proofs.Math.Bool.{true, false}
use Rattle.std.proofs.Math.Option.{some}
use native.Mathlib.Omega.{arith}
use borrow.Author.Tests.{le-leb, ne_eqb}
use Rattle.streams.specs.Answer.{gives}
use Rattle.streams.specs.Stream.{Event, Stream}
use Rattle.policy.specs.Number.{states, number_of, states_of}
use Rattle.policy.specs.File.{policy_of}
use Rattle.policy.specs.Check.{reading_refusal, refusal_under, refusal_of, all_pass}
use Rattle.policy.specs.CheckLaws.{under_none}
use Rattle.policy.specs.Signals.{weight_of, input_weight, output_weight, own_input}
use Rattle.stepping.specs.State.{place_in, state_of, state_good, is_marked}
use Rattle.enforcer.specs.States.{marks_granted, state_granted}
use Rattle.stepping.specs.Tick.{output_tick, input_choice}
use Rattle.enforcer.specs.Entries.{OutputAnswer, marks_refusal, x_good, y_good, input_of, output_of}
use Rattle.trimming.specs.Table.{marks_of}
use Rattle.stepping.specs.Five.{state_words}
use Rattle.meter.specs.Meter.{pulses_of, with_pulse, is_on, risen, fits}
use Rattle.meter.specs.Entries.{tag_p, tag_d, settled, metered, meter_input_of, meter_output_of}
use Rattle.meter.specs.There.{input_there, output_there}
use Rattle.meter.specs.Sums.{advance as pulses_advance}
use Rattle.tender.specs.Granted.{each_reading, entry_refusal, input_answer, output_answer}
use Rattle.tender.specs.Incident.{clock_at}
use Rattle.tender.specs.Bays.{}
use Rattle.tender.specs.Metered.{Read, MeterTicks, meter_more, event_read}
use Rattle.prepare.specs.Computing.{the_file, the_check, a_step, the_marks, the_run}

-- "credit K only while the clock is at most 2", where a pulse of the meter starts the clock anew; D bills.
abbrev pub Transfer : List ℕ
Transfer =
    0x01 ∷ 0x50 ∷ 0x02 ∷ 0x44 ∷ 0x4B ∷ 0x01 ∷ 0x00 ∷ 0x03 ∷ 0x01 ∷ 0x00 ∷ 0x00 ∷ 0x03
    ∷ 0x00 ∷ 0x00 ∷ 0x00 ∷ 0x02 ∷ 0x02 ∷ 0x00 ∷ 0xFF ∷ 0x00 ∷ 0x03 ∷ 0xFF ∷ 0xFF
    ∷ 0x00 ∷ 0x01 ∷ 0x01 ∷ 0x00 ∷ 0x00 ∷ 0x01 ∷ 0x00 ∷ 0x00 ∷ 0x00 ∷ 0xFF ∷ 0xFF
    ∷ 0x00 ∷ 0x00 ∷ 0x00 ∷ 0x00 ∷ 0x00 ∷ 0x00 ∷ 0x00 ∷ 0x00 ∷ 0x00 ∷ 0xFF ∷ 0xFF ∷ []

Transfer-passes : refusal_of Transfer ≡ 0
unfolding the_file the_check
Transfer-passes = refl

-- Its marks, and `rest` after them. The clock's values are 0 to its ceiling 3, so there are four states, and all of them are live.
abbrev pub live : List ℕ → List ℕ
live rest = 1 ∷ 1 ∷ 1 ∷ 1 ∷ rest

-- A tick from the clock v with the input x and the controller's y: the input stands, y' is released, and the clock is at v'.
abbrev Chosen : (reading v x y y' v' : ℕ) → Type 0
Chosen reading v x y y' v' =
    (rest : List ℕ) →
    let p = policy_of reading Transfer in
    (state_good p (state_of (clock_at v)) ≡ true) × (is_marked (live rest) (number_of p (place_in p (state_of (clock_at v)))) ≡ true)
    × (x_good reading Transfer x ≡ true) × (y_good reading Transfer y ≡ true)
    × (input_choice p (live rest) (place_in p (state_of (clock_at v))) x ≡ some x)
    × (output_tick p (live rest) (place_in p (state_of (clock_at v))) x y ≡ some (record { event = record { x = x; y = y' }; place = clock_at v' }))

-- What the two halves answer in such a tick, with all four states marked: x, then y', and the clock at v'.
pub record StoryGoes (reading v x y y' v' : ℕ) : Type 0 where
  input : (rest : List ℕ) → input_of reading Transfer (live rest) (state_of (clock_at v)) x ≡ gives x
  output : (rest : List ℕ) →
      output_of reading Transfer (live rest) (state_of (clock_at v)) x y ≡ record { answer = gives y'; state = state_of (clock_at v') }

-- All that a tick goes through is unfolded here.
marks-of : (reading : ℕ) → List ℕ
unfolding the_file a_step the_marks the_run states_of all_pass
marks-of reading = marks_of (policy_of reading Transfer)

module _ (reading : ℕ) (named : reading_refusal reading ≡ 0) where
  passed : refusal_under reading Transfer ≡ 0
  passed = (under_none reading Transfer).1 (named, Transfer-passes)

  -- The marks of the policy are four ones: all its states are live.
  pub all_live : marks_of (policy_of reading Transfer) ≡ live []
  unfolding marks-of
  all_live = each_reading (λ r. marks_of (policy_of r Transfer) ≡ live []) refl refl reading named

  -- There are four states.
  pub four : states (policy_of reading Transfer) ≡ 4
  unfolding marks-of
  four = refl

  granted : (rest : List ℕ) → marks_refusal reading Transfer (live rest) ≡ 0
  granted rest = (marks_granted reading Transfer (live rest)).1 (passed, rw four (omega arith))

  module _ (v x y y' v' : ℕ) (f : Chosen reading v x y y' v') where
    none_here : (rest : List ℕ) → entry_refusal reading Transfer (live rest) (state_of (clock_at v)) ≡ 0
    none_here rest = rw (granted rest, (state_granted reading Transfer (live rest) (state_of (clock_at v))).1 ((f rest).0, (f rest).1))

    goes : StoryGoes reading v x y y' v'
    goes =
        record {
          input = λ rest. input_answer reading Transfer (live rest) (state_of (clock_at v)) x (f rest).2 ∙ rw (none_here rest, (f rest).4);
          output = λ rest. output_answer reading Transfer (live rest) (state_of (clock_at v)) x y (f rest).2 (f rest).3 ∙ rw (none_here rest, (f rest).5);
        }

  -- A pulse with D on, from the clock at 0: D passes, and the clock is at 0 again.
  transfers : StoryGoes reading 0 1 1 1 0
  unfolding marks-of
  transfers = goes 0 1 1 1 0 (each_reading (λ r. Chosen r 0 1 1 1 0) (λ rest. (refl, refl, refl, refl, refl, refl)) (λ rest. (refl, refl, refl, refl, refl, refl)) reading named)

  -- A quiet tick takes the clock from 0 to 1.
  pub quiet_0 : StoryGoes reading 0 0 0 0 1
  unfolding marks-of
  quiet_0 = goes 0 0 0 0 1 (each_reading (λ r. Chosen r 0 0 0 0 1) (λ rest. (refl, refl, refl, refl, refl, refl)) (λ rest. (refl, refl, refl, refl, refl, refl)) reading named)

  -- A quiet tick takes the clock from 1 to 2.
  pub quiet_1 : StoryGoes reading 1 0 0 0 2
  unfolding marks-of
  quiet_1 = goes 1 0 0 0 2 (each_reading (λ r. Chosen r 1 0 0 0 2) (λ rest. (refl, refl, refl, refl, refl, refl)) (λ rest. (refl, refl, refl, refl, refl, refl)) reading named)

  -- A quiet tick takes the clock from 2 to 3.
  pub quiet_2 : StoryGoes reading 2 0 0 0 3
  unfolding marks-of
  quiet_2 = goes 2 0 0 0 3 (each_reading (λ r. Chosen r 2 0 0 0 3) (λ rest. (refl, refl, refl, refl, refl, refl)) (λ rest. (refl, refl, refl, refl, refl, refl)) reading named)

  -- A quiet tick leaves the clock at 3, its ceiling.
  pub quiet_3 : StoryGoes reading 3 0 0 0 3
  unfolding marks-of
  quiet_3 = goes 3 0 0 0 3 (each_reading (λ r. Chosen r 3 0 0 0 3) (λ rest. (refl, refl, refl, refl, refl, refl)) (λ rest. (refl, refl, refl, refl, refl, refl)) reading named)

  -- The stale credit with the clock at 3 does not pass.
  pub stale : StoryGoes reading 3 0 2 0 3
  unfolding marks-of
  stale = goes 3 0 2 0 3 (each_reading (λ r. Chosen r 3 0 2 0 3) (λ rest. (refl, refl, refl, refl, refl, refl)) (λ rest. (refl, refl, refl, refl, refl, refl)) reading named)

-- One tick more, with the event that is read written out.
more_by : {reading : ℕ} {file marks station totals next sums last ends : List ℕ} {t : Read} {ts : List Read} {e r : Event} {es rs : Stream} →
    event_read reading file station t ≡ e →
    meter_input_of reading file marks station t.register t.x ≡ gives r.x →
    meter_output_of reading file marks station totals t.register r.x t.y ≡ record { answer = gives r.y; station = next; totals = sums } →
    MeterTicks reading file marks next sums ts es rs last ends →
    MeterTicks reading file marks station totals (t ∷ ts) (e ∷ es) (r ∷ rs) last ends
more_by {reading} {file} {marks} {station} {totals} {last = last} {ends = ends} {t = t} {ts = ts} {r = r} {es = es} {rs = rs} k i o h =
    subst (λ (e : Event). MeterTicks reading file marks station totals (t ∷ ts) (e ∷ es) (r ∷ rs) last ends) k
    (meter_more (record { said = sym i }) (record { said = sym o }) h)

-- The weights of P and D in this policy, and the signals that are there.
weight_P : input_weight Transfer tag_p ≡ 1
unfolding weight_of input_weight
weight_P = refl

weight_D : output_weight Transfer tag_d ≡ 1
unfolding weight_of output_weight the_file
weight_D = refl

has_P : input_weight Transfer tag_p ≡ 0 → ⊥
has_P z = let w = weight_P in omega arith

has_D : output_weight Transfer tag_d ≡ 0 → ⊥
has_D z = let w = weight_D in omega arith

-- The event with input x and output y.
abbrev pub event : ℕ → ℕ → Event
event x y = record { x = x; y = y }

-- The numbers of a station with the clock at v and the last reading. The slice may be longer: `past` stands after them.
abbrev pub stands : List ℕ → ℕ → ℕ → List ℕ
stands past v last = state_words (state_of (clock_at v)) ++ (last ∷ past)

-- What the two halves of a tick answer. `more` stands after the totals.
module _ (reading : ℕ) (named : reading_refusal reading ≡ 0) (rest past more : List ℕ) where
  -- The first half, with P set or cleared as x says.
  first_half : {v x y y' v' : ℕ} → StoryGoes reading v x y y' v' → (register last : ℕ) → with_pulse 1 (pulses_of register last) 0 ≡ x →
      meter_input_of reading Transfer (live rest) (stands past v last) register 0 ≡ gives x
  first_half {v} {x} g register last e =
      input_there reading Transfer (live rest) (stands past v last) has_P has_D register 0 (le-leb 6 (length (stands past v last)) (omega arith))
      ∙ ap (input_of reading Transfer (live rest) (state_of (clock_at v)))
      (ap (λ (w : ℕ). with_pulse w (pulses_of register last) 0) weight_P ∙ e)
      ∙ g.input rest

  -- The second half, where the total has room.
  second_half : {v x y y' v' : ℕ} → StoryGoes reading v x y y' v' → (register last b u : ℕ) →
      fits (b ∷ u ∷ more) (is_on 1 y') (pulses_of register last) ≡ true →
      meter_output_of reading Transfer (live rest) (stands past v last) (b ∷ u ∷ more) register x y
      ≡ record { answer = gives y'; station = stands past v' register; totals = risen (b ∷ u ∷ more) (is_on 1 y') (pulses_of register last) }
  unfolding settled
  second_half {v} {x} {y} {y'} {v'} g register last b u f =
      output_there reading Transfer (live rest) (stands past v last) has_P has_D (b ∷ u ∷ more) register x y
      (rw (le-leb 6 (length (stands past v last)) (omega arith), le-leb 2 (length (b ∷ u ∷ more)) (omega arith)))
      ∙ ap₂ (λ (w : ℕ) (o : OutputAnswer). metered (stands past v last) (b ∷ u ∷ more) register w o.state o.answer) weight_D (g.output rest)
      ∙ rw f

  event_P : (v register last y : ℕ) {x : ℕ} → with_pulse 1 (pulses_of register last) 0 ≡ x →
      event_read reading Transfer (stands past v last) (record { register = register; x = 0; y = y }) ≡ record { x = x; y = y }
  event_P v register last y e =
      ap (λ (w : ℕ). record { x = with_pulse w (pulses_of register last) 0; y = y }) (sym (own_input reading Transfer (passed reading named) tag_p) ∙ weight_P)
      ∙ ap (λ (x : ℕ). record { x = x; y = y }) e

  still : (c : ℕ) → pulses_of (c % 65536) (c % 65536) ≡ 0
  still c = let h = pulses_advance c c (omega arith) (omega arith) in omega arith

  -- A quiet tick: no pulses, and the totals stay.
  pub quiet_tick : {v v' y : ℕ} → StoryGoes reading v 0 y 0 v' → (c b u : ℕ) → u ≤ 4294967295 →
      {ts : List Read} {es rs : Stream} {last ends : List ℕ} →
      MeterTicks reading Transfer (live rest) (stands past v' (c % 65536)) (b ∷ u ∷ more) ts es rs last ends →
      MeterTicks reading Transfer (live rest) (stands past v (c % 65536)) (b ∷ u ∷ more) (record { register = c % 65536; x = 0; y = y } ∷ ts)
      (record { x = 0; y = y } ∷ es) (record { x = 0; y = 0 } ∷ rs) last ends
  unfolding with_pulse risen fits
  quiet_tick {v} {v'} {y} g c b u l h =
      let e : with_pulse 1 (pulses_of (c % 65536) (c % 65536)) 0 ≡ 0 = ap (λ (n : ℕ). with_pulse 1 n 0) (still c) in
      let f : fits (b ∷ u ∷ more) false (pulses_of (c % 65536) (c % 65536)) ≡ true =
      ap (λ (n : ℕ). fits (b ∷ u ∷ more) false n) (still c) ∙ le-leb (u + 0) 4294967295 (omega arith)
      in
      let z : u + pulses_of (c % 65536) (c % 65536) ≡ u = let q = still c in omega arith in
      more_by (event_P v (c % 65536) (c % 65536) y e) (first_half g (c % 65536) (c % 65536) e)
      (second_half g (c % 65536) (c % 65536) b u f
      ∙ ap (λ (n : ℕ). record { answer = gives 0; station = stands past v' (c % 65536); totals = b ∷ n ∷ more }) z) h

  -- A tick of the transfer: d pulses, billed.
  pub transfer_tick : (c d b u : ℕ) → 0 < d → d < 65536 → b + d ≤ 4294967295 →
      {ts : List Read} {es rs : Stream} {last ends : List ℕ} →
      MeterTicks reading Transfer (live rest) (stands past 0 ((c + d) % 65536)) ((b + d) ∷ u ∷ more) ts es rs last ends →
      MeterTicks reading Transfer (live rest) (stands past 0 (c % 65536)) (b ∷ u ∷ more) (record { register = (c + d) % 65536; x = 0; y = 1 } ∷ ts)
      (record { x = 1; y = 1 } ∷ es) (record { x = 1; y = 1 } ∷ rs) last ends
  unfolding with_pulse risen fits
  transfer_tick c d b u p k l h =
      let q : pulses_of ((c + d) % 65536) (c % 65536) ≡ d = let a = pulses_advance c (c + d) (omega arith) (omega arith) in omega arith in
      let e : with_pulse 1 (pulses_of ((c + d) % 65536) (c % 65536)) 0 ≡ 1 = rw (q, ne_eqb d 0 (λ z. omega arith)) in
      let f : fits (b ∷ u ∷ more) true (pulses_of ((c + d) % 65536) (c % 65536)) ≡ true =
      ap (λ (n : ℕ). fits (b ∷ u ∷ more) true n) q ∙ le-leb (b + d) 4294967295 l
      in
      more_by (event_P 0 ((c + d) % 65536) (c % 65536) 1 e) (first_half (transfers reading named) ((c + d) % 65536) (c % 65536) e)
      (second_half (transfers reading named) ((c + d) % 65536) (c % 65536) b u f
      ∙ ap (λ (n : ℕ). record { answer = gives 1; station = stands past 0 ((c + d) % 65536); totals = (b + n) ∷ u ∷ more }) q) h
