-- Correcting one tick, and a stream of them, from a place of the policy and marks that are read as given.
use Rattle.std.specs.Prelude.{Bool, true, false, List, [], ◌∷◌, ℕ}
use Rattle.std.proofs.Math.Option.{Option, none, some, bind}
use Rattle.streams.specs.Stream.{Event, Stream}
use Rattle.streams.specs.Choose.{some_below, nearest}
use Rattle.policy.specs.Rules.{Policy, Place, input_values, output_values, stopped, step}
use Rattle.policy.specs.Number.{number_of}
use Rattle.stepping.specs.State.{is_marked}

-- A tick that was released: the event, and the place after it.
pub record ReleasedTick : Type 0 where
  pub event : Event
  pub place : Place

-- What was released of a stream, the place after it, and whether no input could stand there.
pub record Progress : Type 0 where
  pub released : Stream
  pub place : Place
  pub stuck : Bool

module _ (p : Policy) (marks : List ℕ) where
  -- The place is there, and it is marked.
  abbrev pub arrives : Option Place → Bool
  arrives none = false
  arrives (some t) = is_marked marks (number_of p t)

  module _ (s : Place) where
    -- The event x, y "takes the state to a live one".
    unfoldable pub reaches : ℕ → ℕ → Bool
    reaches x y = arrives (step stopped p s (record { x = x; y = y }))

    -- "some y takes the state to a live one"
    unfoldable pub may_stand : ℕ → Bool
    may_stand x = some_below (reaches x) (output_values p)

    -- "x is kept if some y takes the state to a live one. Otherwise the x' of this kind that differs from x in the fewest bits is taken"; among equals
    -- the one that spares the first signals.
    unfoldable pub input_choice : ℕ → Option ℕ
    input_choice x = nearest may_stand x (input_values p)

    -- "Output half, given the x' passed to the controller and its answer y: the same among outputs that with x' reach a live state."
    unfoldable pub output_choice : ℕ → ℕ → Option ℕ
    output_choice x y = nearest (reaches x) y (output_values p)

    -- "Then the state moves."
    unfoldable pub moved : ℕ → ℕ → Option ReleasedTick
    moved x y = bind (step stopped p s (record { x = x; y = y })) (λ t. some (record { event = record { x = x; y = y }; place = t }))

    -- The output half with its move.
    unfoldable pub output_tick : ℕ → ℕ → Option ReleasedTick
    output_tick x y = bind (output_choice x y) (λ z. moved x z)

    -- The two halves one after the other: the input first, without a look at y. The output half gets the input that was chosen.
    unfoldable pub tick : Event → Option ReleasedTick
    tick e = bind (input_choice e.x) (λ x. output_tick x e.y)

  -- A tick in front of what the run has released after it.
  abbrev pub put : ReleasedTick → Progress → Progress
  put t r = record { released = t.event ∷ r.released; place = r.place; stuck = r.stuck }

  -- "A run takes a state and a slice of events and writes the released ones".
  unfoldable pub ran : Place → Stream → Progress
  ran s [] = record { released = []; place = s; stuck = false }
  ran s (e ∷ es) =
      elim (tick s e) [
        | none ↦ record { released = []; place = s; stuck = true }
        | some t ↦ put t (ran t.place es)
      ]
