-- What the code's answer for a tick stands for, and what a chosen output does.
use Rattle.std.specs.Prelude as Code
use Rattle.std.specs.Prelude.{◌≡◌, refl, true, false, List, ℕ}
use Rattle.std.proofs.lemmas.Bool.{false≢true}
use Rattle.std.proofs.Math.Option.{Option, none, some, bind}
use Rattle.streams.specs.ChooseLaws.{nearest_is}
use Rattle.policy.specs.Rules.{Policy, Place, stopped, step}
use Rattle.stepping.specs.Tick as Spec
use Rattle.stepping.specs.Code.{event_xy}
use Rattle.stepping.specs.State.{state_of}
use Rattle.correcting.specs.declared.tick.Ticked.{Ticked}

-- The code's answer for a tick.
abbrev pub tick_from : Option Spec.ReleasedTick → Code.Option Ticked
tick_from none = Code.None
tick_from (some t) = Code.Some (record { state = state_of t.place; x = t.event.x; y = t.event.y })

-- The chosen output's event takes the state on, and that is the tick.
pub output_chosen : (p : Policy) (marks : List ℕ) (s : Place) (x y : ℕ) {z : ℕ} → Spec.output_choice p marks s x y ≡ some z →
    (t : Place) × (step stopped p s (event_xy x z) ≡ some t) × (Spec.output_tick p marks s x y ≡ some (record { event = event_xy x z; place = t }))
unfolding Spec.output_choice Spec.reaches Spec.output_tick Spec.moved bind
output_chosen p marks s x y {z} e = rw e (go (step stopped p s (event_xy x z)) (nearest_is _ _ _ e).may.1)
  where
    go : (d : Option Place) → Spec.arrives p marks d ≡ true →
        (t : Place) × (d ≡ some t)
        × (bind {B = Spec.ReleasedTick} d (λ t. some (record { event = event_xy x z; place = t })) ≡ some (record { event = event_xy x z; place = t }))
    go none h = absurd (false≢true h)
    go (some t) h = (t, refl, refl)

-- By the answer r of a tick, whether there is one, and which.
module _ (o : Option Spec.ReleasedTick) where
  -- Nothing is released: there is no tick.
  pub tick_none : Code.None ≡ tick_from o → o ≡ none
  tick_none e = go o e
    where
      go : (d : Option Spec.ReleasedTick) → Code.None ≡ tick_from d → d ≡ none
      go none q = refl
      go (some t) q = cc

  -- Something is released: there is a tick, and the answer says it.
  pub tick_some : {r : Ticked} → Code.Some r ≡ tick_from o → (t : Spec.ReleasedTick) × (o ≡ some t) × (r ≡ record { state = state_of t.place; x = t.event.x; y = t.event.y })
  tick_some {r} e = go o e
    where
      go : (d : Option Spec.ReleasedTick) → Code.Some r ≡ tick_from d → (t : Spec.ReleasedTick) × (d ≡ some t) × (r ≡ record { state = state_of t.place; x = t.event.x; y = t.event.y })
      go none q = cc
      go (some t) q = (t, refl, cc)
