-- The letter of a signal that is declared, by what was found of it.
use Rattle.std.specs.Prelude.{◌≡◌, refl, Bool, true, false, ◌||◌, List, [], ◌∷◌, ℕ, eqb, length, get_or}
use native.Mathlib.Omega.{arith}
use Rattle.std.specs.List.{list_any}
use Rattle.std.proofs.Common.{ap}
use Rattle.streams.specs.Answer.{refused, gives}
use Rattle.policy.specs.Check.{is_capital, among}
use Rattle.wording.specs.Words.{Word}
use Rattle.wording.specs.Reader.{letter}

-- Whether the tags contain c.
pub among_any : (c : ℕ) (tags : List ℕ) → list_any (λ t. eqb t c) tags ≡ among c tags
unfolding among
among_any c [] = refl
among_any c (t ∷ ts) = ap (λ (b : Bool). eqb t c || b) (among_any c ts)

module _ (before : List ℕ) where
  -- A word that is not a single byte is refused by 30.
  pub letter_form : (w : Word) → (length w ≡ 1 → ⊥) → refused 30 ≡ letter before w
  letter_form [] h = refl
  letter_form (t ∷ []) h = absurd (h refl)
  letter_form (t ∷ u ∷ us) h = refl

  -- A single byte that is not a capital letter is refused by 30.
  pub letter_small : (w : Word) → length w ≡ 1 → is_capital (get_or w 0 0) ≡ false → refused 30 ≡ letter before w
  letter_small [] h e = absurd (omega arith)
  letter_small (t ∷ []) h e = rw e
  letter_small (t ∷ u ∷ us) h e = absurd (omega arith)

  -- A capital letter that a signal has already is refused by 31.
  pub letter_taken : (w : Word) → length w ≡ 1 → is_capital (get_or w 0 0) ≡ true → among (get_or w 0 0) before ≡ true → refused 31 ≡ letter before w
  letter_taken [] h e f = absurd (omega arith)
  letter_taken (t ∷ []) h e f = rw (e, f)
  letter_taken (t ∷ u ∷ us) h e f = absurd (omega arith)

  -- A capital letter that no signal has is given.
  pub letter_given : (w : Word) → length w ≡ 1 → is_capital (get_or w 0 0) ≡ true → among (get_or w 0 0) before ≡ false → gives (get_or w 0 0) ≡ letter before w
  letter_given [] h e f = absurd (omega arith)
  letter_given (t ∷ []) h e f = rw (e, f)
  letter_given (t ∷ u ∷ us) h e f = absurd (omega arith)
