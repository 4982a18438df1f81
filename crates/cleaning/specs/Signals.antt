-- A checked policy looks at the bits of its signals alone: what it does with a stream, it does with the stream that has no other bit.
use Rattle.std.specs.Prelude.{◌≡◌, ℕ, ◌%◌, ◌^◌, ◌<◌, length}
use Rattle.std.proofs.Math.Path.{refl, ap}
use Rattle.std.proofs.Common.{sym, ◌∙◌, mod-lt, mod-eq_of_lt, arith, pow_pos}
use mathlib.Core.List.{List, [], ◌∷◌, map}
use Rattle.std.proofs.Math.Option.{Option, none, some, bind}
use Rattle.std.specs.Int.Bits.{bit_and}
use Rattle.std.proofs.lemmas.Nat.{and_mod, and_le_r}
use Rattle.streams.specs.Stream.{Event, Stream}
use Rattle.policy.specs.Rules.{Rule, Policy, Place, input_values, output_values, fires, decides, looked, taken, step, steps, Fits, fits_none, fits_more}
use Rattle.policy.specs.Sound.{WellFormed, Each, each_none, each_more}
use Rattle.policy.specs.Checked.{Ruled, well_ruled}

-- The event without the bits beyond the signals.
abbrev pub within : Policy → Event → Event
within p e = record { x = e.x % input_values p; y = e.y % output_values p }

and_within : (n a care : ℕ) → care < 2 ^ n → bit_and (a % 2 ^ n) care ≡ bit_and a care
and_within n a care h =
    let l : bit_and a care < 2 ^ n = omega (arith, and_le_r a care) in
    ap (bit_and (a % 2 ^ n)) (sym (mod-eq_of_lt h)) ∙ sym (and_mod a care n) ∙ mod-eq_of_lt l

module _ (p : Policy) where
  -- Without the bits beyond the signals every stream fits.
  pub fits_within : (w : Stream) → Fits p (map (within p) w)
  fits_within [] = fits_none
  fits_within (e ∷ w) = fits_more (record { x = mod-lt e.x (pow_pos _); y = mod-lt e.y (pow_pos _) }) (fits_within w)

  decides_within :
      {cs : List ℕ} {l : ℕ} {rs : List Rule} → Each (Ruled (length p.inputs) (length p.outputs) cs l) rs → (s : Place) (e : Event) →
      decides rs s (within p e) ≡ decides rs s e
  unfolding decides fires
  decides_within each_none s e = refl
  decides_within (each_more {r = r} g h) s e =
      rw (
        and_within (length p.inputs) e.x r.in_care g.in_care,
        and_within (length p.outputs) e.y r.out_care g.out_care,
        decides_within h s e,
      )

  -- Without the bits beyond the signals a stream leads where it led with them.
  pub steps_within : WellFormed p → (on : ℕ → ℕ → ℕ) (w : Stream) (s : Place) → steps on p s (map (within p) w) ≡ steps on p s w
  unfolding steps step bind
  steps_within ok on [] s = refl
  steps_within ok on (e ∷ w) s =
      ap (λ (o : Option Rule). bind (bind o (taken on p s)) (λ t. steps on p t (map (within p) w))) (decides_within (well_ruled p ok) (looked on p s) e)
      ∙ go (steps_within ok on w) (bind (decides p.rules (looked on p s) e) (taken on p s))
    where
      go : ((t : Place) → steps on p t (map (within p) w) ≡ steps on p t w) → (o : Option Place) →
          bind o (λ t. steps on p t (map (within p) w)) ≡ bind o (λ t. steps on p t w)
      go h none = refl
      go h (some t) = h t
