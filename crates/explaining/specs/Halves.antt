-- What is said of each half, with the bound on its number.
use Rattle.std.specs.Prelude.{◌≡◌, true, false, List, ℕ, ◌<◌}
use Rattle.std.proofs.Math.Option.{some, bind}
use Rattle.std.proofs.Common.{arith}
use Rattle.streams.specs.Answer.{Answer, refused, gives}
use Rattle.policy.specs.Rules.{Policy, Place, input_values, output_values, stopped, step}
use Rattle.policy.specs.Number.{number_of}
use Rattle.policy.specs.Sound.{WellFormed, Inside}
use Rattle.stepping.specs.State.{is_marked, state_of}
use Rattle.stepping.specs.Tick.{ReleasedTick, reaches, input_choice, output_choice, output_tick, tick}
use Rattle.stepping.specs.Ticks.{input_stands}
use Rattle.stepping.specs.Code.{event_xy}
use Rattle.correcting.specs.Chosen.{output_chosen}
use Rattle.stepping.specs.declared.state.State.{State}
use Rattle.trimming.specs.Table.{marks_of}
use Rattle.prepare.specs.Enforces.{input_found}
use Rattle.prepare.specs.Enforcing.{AsPrepared, MarkedPlace}
use Rattle.explaining.specs.Reasons.{Reason, kept, count_of, SaysWhy, SaysIn, Given, forwarded, edited, Explained}
use Rattle.explaining.specs.Said.{ToldWhy, ToldIn}
use Rattle.explaining.specs.EachHalf.{Reasons}
use Rattle.explaining.specs.Edited.{edited_output, edited_input, reaches_prepared, output_there}

-- What an answer gives, or another value.
abbrev pub value_or : Answer ℕ → ℕ → ℕ
value_or (gives z) other = z
value_or (refused n) other = other

-- What is said of the input: kept if x' is x, else a true reason; the number is below 65,536.
pub record GivenIn (p : Policy) (s : Place) (x x' : ℕ) (r : Reason) : Type 0 where
  pub given : Given (SaysIn p s (output_values p) x) x x' r
  pub few : count_of r < 65536

-- What is said of the output after the input x: kept if y' is y, else a true reason; the number is below 65,536.
pub record GivenOut (p : Policy) (s : Place) (x y y' : ℕ) (r : Reason) : Type 0 where
  pub given : Given (SaysWhy p s (event_xy x y)) y y' r
  pub few : count_of r < 65536

-- Two reasons that explain the tick, with numbers below 65,536.
pub record BothTold (p : Policy) (marks : List ℕ) (s : Place) (x y : ℕ) (r : Reasons) : Type 0 where
  pub explained : Explained p marks s x y r.input r.output
  pub few_input : count_of r.input < 65536
  pub few_output : count_of r.output < 65536

-- The tick of the event as read: it releases x' and y', and the state after it.
pub record Moves (p : Policy) (marks : List ℕ) (s : Place) (x y x' y' : ℕ) (after : State) : Type 0 where
  pub done : ReleasedTick
  pub is : tick p marks s (event_xy x y) ≡ some done
  pub is_x : x' ≡ done.event.x
  pub is_y : y' ≡ done.event.y
  pub state : after ≡ state_of done.place

module _ {p : Policy} {s : Place} {x : ℕ} where
  -- An input that is passed on as it was read is kept.
  pub input_kept : {x' : ℕ} → x ≡ x' → GivenIn p s x x' kept
  input_kept e = record { given = forwarded e; few = omega arith }

  -- An edited input is given the reason that holds over all outputs.
  pub input_edited : {x' : ℕ} {r : Reason} → (x ≡ x' → ⊥) → ToldIn p s (output_values p) x r → GivenIn p s x x' r
  input_edited n t = record { given = edited n t.says; few = t.few }

  -- An output that is released as it was read is kept.
  pub output_kept : {y y' : ℕ} → y ≡ y' → GivenOut p s x y y' kept
  output_kept e = record { given = forwarded e; few = omega arith }

  -- An edited output is given the reason for its event.
  pub output_edited : {y y' : ℕ} {r : Reason} → (y ≡ y' → ⊥) → ToldWhy p s (event_xy x y) r → GivenOut p s x y y' r
  output_edited n t = record { given = edited n t.says; few = t.few }

-- What the halves release, where 17 cannot come.
module _ (p : Policy) (ok : WellFormed p) (marks : List ℕ) (by : AsPrepared p marks) (s : Place) (i : Inside p s) (m : is_marked marks (number_of p s) ≡ true) (x y : ℕ) where
  ready : MarkedPlace p marks s
  ready = record { inside = i; marked = m }

  -- The input half passes some input on.
  pub passed : (z : ℕ) × (input_choice p marks s x ≡ some z)
  passed = input_found p ok marks by ready x

  -- The input that is passed on has no bit beyond its signals.
  pub passed_in : passed.0 < input_values p
  passed_in = (input_stands p marks s x passed.0 passed.1).0

  -- With that input the output half releases some output.
  pub released : (z : ℕ) × (output_choice p marks s passed.0 y ≡ some z)
  released = output_there p marks s passed.0 y (input_stands p marks s x passed.0 passed.1).1

  -- Where the event that is released takes the place, and that this is the tick.
  abbrev pub moved_to :
      (t : Place) × (step stopped p s (event_xy passed.0 released.0) ≡ some t)
      × (output_tick p marks s passed.0 y ≡ some (record { event = event_xy passed.0 released.0; place = t }))
  moved_to = output_chosen p marks s passed.0 y released.1

  -- The event that is released, and the place after it.
  abbrev pub moved_tick : ReleasedTick
  moved_tick = record { event = event_xy passed.0 released.0; place = moved_to.0 }

  -- The tick of the event as read releases that event and leads there.
  pub moves_on : tick p marks s (event_xy x y) ≡ some moved_tick
  unfolding tick bind
  moves_on = rw (passed.1, moved_to.2)

  -- An edited input reaches no live state, whatever the output.
  pub input_dead : x < input_values p → (x ≡ passed.0 → ⊥) → (z : ℕ) → z < output_values p → reaches p (marks_of p) s x z ≡ false
  input_dead l n z u = reaches_prepared p marks s ok by i x z (edited_input p marks s x l passed.1 n z u)

  -- An edited output reaches no live state with the input that is passed on.
  pub output_dead : y < output_values p → (y ≡ released.0 → ⊥) → reaches p (marks_of p) s passed.0 y ≡ false
  output_dead l n = reaches_prepared p marks s ok by i passed.0 y (edited_output p marks s passed.0 y l released.1 n)

  -- The reasons for the two halves together explain the tick.
  pub both_told : {r : Reasons} → GivenIn p s x passed.0 r.input → GivenOut p s passed.0 y released.0 r.output → BothTold p marks s x y r
  both_told g h =
      record {
        explained =
            record { x' = passed.0; y' = released.0; passed = passed.1; released = released.1; for_input = g.given; for_output = h.given };
        few_input = g.few;
        few_output = h.few;
      }
