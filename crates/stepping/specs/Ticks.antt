-- The parts of a tick and of a run, whatever the marks are.
use Rattle.std.specs.Prelude.{◌≡◌, refl, true, List, [], ◌∷◌, ℕ, suc, ◌≤◌, length}
use Rattle.std.proofs.Math.Path.{subst}
use Rattle.std.proofs.Math.Option.{Option, none, some, bind-eq-some_iff, some-injective}
use Rattle.std.proofs.Common.{zero-le, arith}
use Rattle.streams.specs.Stream.{Event, Stream}
use Rattle.streams.specs.Choose.{Among}
use Rattle.streams.specs.ChooseLaws.{nearest_is}
use Rattle.policy.specs.Rules.{Policy, Place, input_values, output_values, stopped, step, FitsOne}
use Rattle.stepping.specs.Tick.{ReleasedTick, reaches, may_stand, input_choice, output_choice, moved, output_tick, tick, put, ran}

-- The parts of a tick: the input chosen, the output chosen for it, and where the two lead.
pub record TickedBy (p : Policy) (marks : List ℕ) (s : Place) (e : Event) (r : ReleasedTick) : Type 0 where
  pub input : input_choice p marks s e.x ≡ some r.event.x
  pub output : output_choice p marks s r.event.x e.y ≡ some r.event.y
  pub moves : step stopped p s r.event ≡ some r.place

module _ (p : Policy) (marks : List ℕ) (s : Place) where
  -- A tick that releases r has these parts.
  pub ticked : (e : Event) (r : ReleasedTick) → tick p marks s e ≡ some r → TickedBy p marks s e r
  unfolding tick output_tick moved
  ticked e r h =
      let i = (bind-eq-some_iff (input_choice p marks s e.x) _).0 h in
      let o = (bind-eq-some_iff (output_choice p marks s i.0 e.y) _).0 i.2 in
      let m = (bind-eq-some_iff (step stopped p s (record { x = i.0; y = o.0 })) _).0 o.2 in
      subst (TickedBy p marks s e) (some-injective _ r m.2) (record { input = i.1; output = o.1; moves = m.1 })

  -- The input that is chosen is one of the values, and may stand.
  pub input_stands : (x z : ℕ) → input_choice p marks s x ≡ some z → Among (may_stand p marks s) (input_values p) z
  unfolding input_choice
  input_stands x z h = (nearest_is (may_stand p marks s) x (input_values p) h).may

  -- The output that is chosen is one of the values, and with the input leads to a marked place.
  pub output_stands : (x y z : ℕ) → output_choice p marks s x y ≡ some z → Among (reaches p marks s x) (output_values p) z
  unfolding output_choice
  output_stands x y z h = (nearest_is (reaches p marks s x) y (output_values p) h).may

  -- An event that is released has no bit beyond the signals.
  pub ticked_fits : {e : Event} {r : ReleasedTick} → TickedBy p marks s e r → FitsOne p r.event
  ticked_fits t = record { x = (input_stands _ _ t.input).0; y = (output_stands _ _ _ t.output).0 }

  -- A run goes on after a tick.
  pub ran_on : (e : Event) (es : Stream) (r : ReleasedTick) → tick p marks s e ≡ some r → ran p marks s (e ∷ es) ≡ put p marks r (ran p marks r.place es)
  unfolding ran
  ran_on e es r h = rw (h, ran)

  -- Where there is no tick the run ends at that place and is stuck.
  pub ran_none : (e : Event) (es : Stream) → tick p marks s e ≡ none → ran p marks s (e ∷ es) ≡ record { released = []; place = s; stuck = true }
  unfolding ran
  ran_none e es h = rw (h, ran)

-- A run releases no more events than it reads.
pub ran_few : (p : Policy) (marks : List ℕ) (s : Place) (es : Stream) → length (ran p marks s es).released ≤ length es
unfolding ran
ran_few p marks s [] = zero-le
ran_few p marks s (e ∷ es) = go (λ t. ran_few p marks t.place es) (tick p marks s e) refl
  where
    go : ((t : ReleasedTick) → length (ran p marks t.place es).released ≤ length es) → (o : Option ReleasedTick) → tick p marks s e ≡ o →
        length (ran p marks s (e ∷ es)).released ≤ suc (length es)
    go more none k = rw (ran_none p marks s e es k) zero-le
    go more (some t) k = rw (ran_on p marks s e es t k) (omega (arith, more t))
