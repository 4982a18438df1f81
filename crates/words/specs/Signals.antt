-- A signal found by its letter.
use Rattle.std.specs.Prelude.{◌≡◌, refl, Bool, true, false, cond, Some, ℕ, suc, ◌+◌, eqb, length, get_or}
use Rattle.std.proofs.Math.Bool.{and-false, and-true}
use mathlib.Core.List.{List, [], ◌∷◌}
use Rattle.std.proofs.Math.Option.{none, some}
use Rattle.std.specs.List.{position, position_from}
use Rattle.std.proofs.lemmas.Iterator.Adapters.{position_from-zero}
use Rattle.std.proofs.Common.{ap, ◌∙◌, arith}
use Rattle.wording.specs.Words.{Word}
use Rattle.wording.specs.Names.{same, find, letters_of}
use Rattle.words.specs.Spans.{found_said}

-- A word of another length is no letter.
pub letter_none : (i : ℕ) (w : Word) (ts : List ℕ) → (length w ≡ 1 → ⊥) → find i w (letters_of ts) ≡ none
unfolding find letters_of same
letter_none i w [] h = refl
letter_none i [] (t ∷ ts) h = letter_none (suc i) [] ts h
letter_none i (a ∷ []) (t ∷ ts) h = absurd (h refl)
letter_none i (a ∷ b ∷ w) (t ∷ ts) h = rw (and-false (eqb t a)) (letter_none (suc i) (a ∷ b ∷ w) ts h)

letter_same : (v : Word) → length v ≡ 1 → (t : ℕ) → same (t ∷ []) v ≡ eqb t (get_or v 0 0)
unfolding same
letter_same [] h t = absurd (omega arith)
letter_same (a ∷ []) h t = and-true (eqb t a)
letter_same (a ∷ b ∷ v) h t = absurd (omega arith)

letter_from : (w : Word) → length w ≡ 1 → (i : ℕ) (tags : List ℕ) → found_said (position_from (λ t. eqb t (get_or w 0 0)) i tags) ≡ find i w (letters_of tags)
unfolding find letters_of
letter_from w one i [] = refl
letter_from w one i (t ∷ ts) =
    let next : i + 1 ≡ suc i = omega arith in
    rw (letter_same w one t) (go (eqb t (get_or w 0 0)) (letter_from w one (i + 1) ts ∙ ap (λ (n : ℕ). find n w (letters_of ts)) next))
  where
    go : (b : Bool) → found_said (position_from (λ t. eqb t (get_or w 0 0)) (i + 1) ts) ≡ find (suc i) w (letters_of ts) →
        found_said (cond b (Some i) (position_from (λ t. eqb t (get_or w 0 0)) (i + 1) ts)) ≡ cond b (some i) (find (suc i) w (letters_of ts))
    go true h = refl
    go false h = h

-- The letter of a word of one byte, looked for among the tags.
pub letter_found : (w : Word) → length w ≡ 1 → (tags : List ℕ) → found_said (position (λ t. eqb t (get_or w 0 0)) tags) ≡ find 0 w (letters_of tags)
letter_found w one tags = ap found_said (position_from-zero (λ t. eqb t (get_or w 0 0)) tags) ∙ letter_from w one 0 tags
