-- What the conversion gives, and what it refuses.
use Rattle.std.specs.Prelude.{ℕ, suc, ◌+◌, ◌*◌, ◌/◌, ◌%◌, ◌≤◌, ◌<◌, ◌≡◌, Bool, cond, ◌↔◌, ◌⊎◌, eqb}
use Rattle.std.proofs.Math.Path.{refl}
use Rattle.std.proofs.Common.{ap, sym, subst, ◌∙◌, ⊎_elim, div-add-mod', mod-lt, le-mul_of_pos_right, lt_of_mul-lt-mul_right, suc-mul, add-mul, arith}
use Rattle.std.proofs.Math.Bool.{true, false}
use Rattle.std.proofs.Math.Dec.{ltb, leb}
use borrow.Author.Tests.{ltb-true, ltb-false, leb-true, leb-false, eqb-true, eqb-false, lt-ltb, le-ltb, le-leb, lt-leb}
use Rattle.streams.specs.Answer.{Answer, gives, refused, ◌or_else◌, unless, answer, UpTo}
use Rattle.streams.specs.AnswerLaws.{unless_le, else_le, answer_up_to}
use Rattle.ticks.specs.declared.Milliseconds.{Milliseconds}
use Rattle.ticks.specs.declared.Ticks.{Ticks}
use Rattle.ticks.specs.declared.Rounding.{Rounding}
use Rattle.ticks.specs.Conversion.{rounded, ticks_of, upwards, Converted}

-- ticks × tick length differs from the time by less than one tick length, on the side asked for.
abbrev pub Within : ℕ → ℕ → Bool → ℕ → Type 0
Within time tick false n = (n * tick ≤ time) × (time < n * tick + tick)
Within time tick true n = (time ≤ n * tick) × (n * tick < time + tick)

module _ (time tick : ℕ) where
  -- Where something is left over, one tick more is no more than the time itself.
  pub one_more : 0 < tick → (time % tick ≡ 0 → ⊥) → time / tick + 1 ≤ time
  one_more h l = omega (arith, div-add-mod' time tick, le-mul_of_pos_right (time / tick) h)

  -- What is rounded is within a tick length of the time, on the side asked for.
  pub rounded_within : (up : Bool) → 0 < tick → Within time tick up (rounded time tick up)
  rounded_within false h = (omega (arith, div-add-mod' time tick), omega (arith, div-add-mod' time tick, mod-lt time h))
  rounded_within true h = go (eqb (time % tick) 0) refl
    where
      go : (t : Bool) → eqb (time % tick) 0 ≡ t → Within time tick true (time / tick + cond t 0 1)
      go true e =
          let l : time % tick ≡ 0 = eqb-true _ _ e in
          let s = add-mul (time / tick) 0 tick in
          (omega (arith, div-add-mod' time tick), omega (arith, div-add-mod' time tick))
      go false e =
          let l : time % tick ≡ 0 → ⊥ = eqb-false _ _ e in
          let s = add-mul (time / tick) 1 tick in
          (omega (arith, div-add-mod' time tick, mod-lt time h), omega (arith, div-add-mod' time tick))

  no_more : (m n : ℕ) → m * tick < n * tick + tick → m ≤ n
  no_more m n h = omega (arith, lt_of_mul-lt-mul_right tick {m = m} {n = suc n} (rw suc-mul h))

  -- One number of ticks alone is within a tick length.
  pub within_one : (up : Bool) (m n : ℕ) → Within time tick up m → Within time tick up n → m ≡ n
  within_one false m n p q = omega (arith, no_more m n (omega arith), no_more n m (omega arith))
  within_one true m n p q = omega (arith, no_more m n (omega arith), no_more n m (omega arith))

  within_length : (up : Bool) (n : ℕ) → Within time tick up n → 0 < tick
  within_length false n p = omega arith
  within_length true n p = omega arith

module _ (time tick : ℕ) (up : Bool) where
  -- A tick length of 0 is refused by 18.
  pub no_length : tick ≡ 0 → ticks_of time tick up ≡ refused 18
  unfolding ticks_of
  no_length e = simp (le-ltb 0 tick (omega arith))

  -- More than 1,000 ticks are refused by 19.
  pub too_many : 0 < tick → 1000 < rounded time tick up → ticks_of time tick up ≡ refused 19
  unfolding ticks_of
  too_many h l = simp (lt-ltb 0 tick h, lt-leb (rounded time tick up) 1000 l)

  -- Up to 1,000 ticks are given.
  pub given : 0 < tick → rounded time tick up ≤ 1000 → ticks_of time tick up ≡ gives (rounded time tick up)
  unfolding ticks_of
  given h l = simp (lt-ltb 0 tick h, le-leb (rounded time tick up) 1000 l)

  -- What each answer stands for.
  abbrev Means : Answer ℕ → Type 0
  Means (gives n) = Within time tick up n × (n ≤ 1000)
  Means (refused n) = ((n ≡ 18) × (tick ≡ 0)) ⊎ ((n ≡ 19) × ((0 < tick) × (1000 < rounded time tick up)))

  means : Means (ticks_of time tick up)
  unfolding ticks_of
  means = go (ltb 0 tick) refl (leb (rounded time tick up) 1000) refl
    where
      go : (s : Bool) → ltb 0 tick ≡ s → (t : Bool) → leb (rounded time tick up) 1000 ≡ t →
          Means (answer (unless s 18 or_else unless t 19) (rounded time tick up))
      go false e t f = ◌⊎◌.inl (refl, omega (arith, ltb-false 0 tick e))
      go true e false f = ◌⊎◌.inr (refl, (ltb-true _ _ e, leb-false _ _ f))
      go true e true f = (rounded_within time tick up (ltb-true _ _ e), leb-true _ _ f)

  -- The conversion refuses by no number above 19.
  pub ticks_up_to : UpTo 19 (ticks_of time tick up)
  unfolding ticks_of
  ticks_up_to =
      answer_up_to (unless (ltb 0 tick) 18 or_else unless (leb (rounded time tick up) 1000) 19) (rounded time tick up) (search (else_le, unless_le))

  -- 18 is given exactly when the tick length is 0.
  pub exactly_18 : (ticks_of time tick up ≡ refused 18) ↔ (tick ≡ 0)
  exactly_18 = (λ e. ⊎_elim (λ p. p.1) (λ p. absurd (omega arith)) (subst Means e means), no_length)

  -- 19 is given exactly when there is a tick count and it is above 1,000.
  pub exactly_19 : (ticks_of time tick up ≡ refused 19) ↔ ((0 < tick) × (1000 < rounded time tick up))
  exactly_19 = (λ e. ⊎_elim (λ p. absurd (omega arith)) (λ p. p.1) (subst Means e means), λ h. too_many h.0 h.1)

  -- Ticks are given exactly when they are within a tick length of the time and not above 1,000.
  pub exactly_given : (n : ℕ) → (ticks_of time tick up ≡ gives n) ↔ (Within time tick up n × (n ≤ 1000))
  exactly_given n = (λ e. subst Means e means, λ w. back w.0 w.1)
    where
      back : Within time tick up n → n ≤ 1000 → ticks_of time tick up ≡ gives n
      back w l =
          let h = within_length time tick up n w in
          let s = within_one time tick up (rounded time tick up) n (rounded_within time tick up h) w in
          given h (omega arith) ∙ ap gives s

-- Of the entry: the ticks that it gives are within a tick length of the time, and not above 1,000.
pub converted_within :
    {time tick : Milliseconds} {rounding : Rounding} {t : Ticks} →
    Converted time tick rounding (gives t) → Within time.0 tick.0 (upwards rounding) t.0 × (t.0 ≤ 1000)
converted_within {time} {tick} {rounding} {t} p = (exactly_given time.0 tick.0 (upwards rounding) t.0).0 (sym p.said)
