-- A next state that counts only if it is marked; and that an event that leads to one is kept by both halves.
use Rattle.std.specs.Prelude as Code
use Rattle.std.specs.Prelude.{◌≡◌, Bool, cond, List, ℕ, ◌<◌}
use Rattle.std.proofs.Math.Path.{refl, ap}
use Rattle.std.proofs.Common.{sym, ◌∙◌}
use Rattle.std.proofs.Math.Bool.{true, false}
use Rattle.std.proofs.Math.Option.{Option, none, some, bind}
use Rattle.streams.specs.ChooseLaws.{nearest_kept}
use Rattle.policy.specs.Rules.{Policy, Place, input_values, output_values, stopped, step}
use Rattle.policy.specs.Number.{number_from}
use Rattle.policy.specs.declared.Layout.{Layout}
use Rattle.stepping.specs.Tick.{arrives, reaches, output_choice, output_tick, tick}
use Rattle.stepping.specs.Code.{event_xy, step_from}
use Rattle.stepping.specs.State.{state_of, is_marked}
use Rattle.correcting.specs.Chosen.{tick_from, output_chosen}
use Rattle.correcting.specs.Choice.{input_stands}
use Rattle.stepping.specs.declared.state.State.{State}

-- A state's number with all four clocks taken in, the unused ones among them.
abbrev pub four_number : Layout → State → ℕ
four_number l s = number_from l.ceilings 4 s.location s.clocks

-- A next state that is not marked counts as none.
abbrev pub if_marked : Layout → List ℕ → Code.Option State → Code.Option State
if_marked l marks Code.None = Code.None
if_marked l marks (Code.Some t) = cond (is_marked marks (four_number l t)) (Code.Some t) Code.None

module _ (p : Policy) (marks : List ℕ) (s : Place) (x y : ℕ) where
  -- The place after the event, if it is there and marked.
  unfoldable pub arrival : Option Place
  arrival = cond (reaches p marks s x y) (step stopped p s (event_xy x y)) none

  -- Without a next place there is none to arrive at.
  pub arrival_never : Code.None ≡ step_from (step stopped p s (event_xy x y)) → Code.None ≡ step_from arrival
  unfolding arrival reaches
  arrival_never e = go (step stopped p s (event_xy x y)) e
    where
      go : (d : Option Place) → Code.None ≡ step_from d → Code.None ≡ step_from (cond (arrives p marks d) d none)
      go none q = q
      go (some u) q = cc

  -- There is a next state exactly if the event reaches a marked place.
  pub arrival_says : (r : Code.Option State) → r ≡ step_from arrival → Code.is_some r ≡ reaches p marks s x y
  unfolding arrival reaches
  arrival_says r e = ap Code.is_some e ∙ go (step stopped p s (event_xy x y))
    where
      marked : (u : Place) (b : Bool) → Code.is_some (step_from (cond b (some u) none)) ≡ b
      marked u true = refl
      marked u false = refl

      go : (d : Option Place) → Code.is_some (step_from (cond (arrives p marks d) d none)) ≡ arrives p marks d
      go none = refl
      go (some u) = marked u (arrives p marks (some u))

  -- By the state that the event arrives at, whether it reaches a marked place, and which.
  module _ {next : State} (e : Code.Some next ≡ step_from arrival) where
    -- The event reaches a marked place.
    pub arrival_reaches : reaches p marks s x y ≡ true
    arrival_reaches = sym (arrival_says (Code.Some next) e)

    -- It leads where the policy's step does.
    pub arrival_some : (u : Place) × (step stopped p s (event_xy x y) ≡ some u) × (next ≡ state_of u)
    unfolding arrival
    arrival_some = go (step stopped p s (event_xy x y)) (rw arrival_reaches at e)
      where
        go : (d : Option Place) → Code.Some next ≡ step_from d → (u : Place) × (d ≡ some u) × (next ≡ state_of u)
        go none q = cc
        go (some u) q = (u, refl, cc)

  -- An output that with x reaches a marked place is kept, and so is x.
  module _ (l : y < output_values p) (r : reaches p marks s x y ≡ true) where
    -- The output half releases y as it was read.
    pub output_kept : {u : Place} → step stopped p s (event_xy x y) ≡ some u → output_tick p marks s x y ≡ some (record { event = event_xy x y; place = u })
    unfolding output_choice
    output_kept e = let o = output_chosen p marks s x y (nearest_kept (reaches p marks s x) y (output_values p) l r) in o.2 ∙ cc o.1

    -- The input half keeps x, so the tick is that of the output half.
    pub input_kept : x < input_values p → tick p marks s (event_xy x y) ≡ output_tick p marks s x y
    unfolding tick bind
    input_kept h = rw (input_stands p marks s x y h l r)

  -- So an event that arrives is released as it was read, by the output half alone and by both.
  module _ {next : State} (e : Code.Some next ≡ step_from arrival) (l : y < output_values p) where
    -- The output half answers with the event as it was read.
    pub output_as_read : Code.Some (record { state = next; x = x; y = y }) ≡ tick_from (output_tick p marks s x y)
    output_as_read =
        let u = arrival_some e in
        rw (output_kept l (arrival_reaches e) u.1) (ap (λ (z : State). Code.Some (record { state = z; x = x; y = y })) u.2)

    -- Both halves together answer with the event as it was read.
    pub tick_as_read : x < input_values p → Code.Some (record { state = next; x = x; y = y }) ≡ tick_from (tick p marks s (event_xy x y))
    tick_as_read k = rw (input_kept l (arrival_reaches e) k) output_as_read
