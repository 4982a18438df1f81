-- Two names for one another; with one of them unused, the other is renamed.
use Rattle.std.specs.Prelude.{◌≡◌, Bool, cond, ℕ}
use Rattle.std.proofs.Math.Path.{refl, ap, sym}
use Rattle.std.proofs.Common.{◌∙◌, arith, eqb-true, ne_eqb}
use Rattle.std.proofs.Math.Bool.{true, false}
use Rattle.std.proofs.lemmas.Bool.{false≢true}
use mathlib.Core.List.{List, [], ◌∷◌}
use Rattle.std.proofs.Math.Dec.{eqb}
use Rattle.wording.specs.Words.{Word, lines_of}
use Rattle.wording.specs.Names.{same, is_name}
use Rattle.wording.specs.NamesBack.{same_self, same_true}
use Rattle.wording.specs.OtherWords.{name_low, no_name}
use Rattle.wording.specs.Reader.{file_from_text}
use Rattle.wording.specs.Renamed.{Renaming, each_line}
use Rattle.wording.specs.RenamedReads.{renamed_alike}

abbrev swap : Word → Word → Word → Word
swap a b w = cond (same w a) b (cond (same w b) a w)

-- The name b for a and a for b, also behind an `!`; any other word as it is.
unfoldable pub swapped : Word → Word → Word → Word
swapped a b [] = []
swapped a b (c ∷ cs) = cond (eqb c 33) (33 ∷ swapped a b cs) (swap a b (c ∷ cs))

swap_first : (a b : Word) → swap a b a ≡ b
swap_first a b = rw (same_self a)

swap_second : (a b : Word) → swap a b b ≡ a
swap_second a b = go (same b a) refl
  where
    go : (t : Bool) → same b a ≡ t → cond t b (cond (same b b) a b) ≡ a
    go true e = same_true b a e
    go false e = rw (same_self b)

-- A word is the first, or the second, or is left as it is.
data Swap (a b w : Word) : Type 0 where
  to_second : w ≡ a → swap a b w ≡ b → Swap a b w
  to_first : w ≡ b → swap a b w ≡ a → Swap a b w
  left_so : swap a b w ≡ w → Swap a b w

swap_cases : (a b w : Word) → Swap a b w
swap_cases a b w = go (same w a) refl (same w b) refl
  where
    go : (s : Bool) → same w a ≡ s → (t : Bool) → same w b ≡ t → Swap a b w
    go true e t f = to_second (same_true w a e) (rw e)
    go false e true f = to_first (same_true w b f) (rw (e, f))
    go false e false f = left_so (rw (e, f))

module _ (a b : Word) (na : is_name a ≡ true) (nb : is_name b ≡ true) where
  swap_back : (w : Word) → swap a b (swap a b w) ≡ w
  swap_back w = go (swap_cases a b w)
    where
      go : Swap a b w → swap a b (swap a b w) ≡ w
      go (to_second e f) = ap (swap a b) f ∙ swap_second a b ∙ sym e
      go (to_first e f) = ap (swap a b) f ∙ swap_first a b ∙ sym e
      go (left_so f) = ap (swap a b) f ∙ f

  swap_named : (w : Word) → is_name (swap a b w) ≡ is_name w
  swap_named w = go (swap_cases a b w)
    where
      go : Swap a b w → is_name (swap a b w) ≡ is_name w
      go (to_second e f) = ap is_name f ∙ nb ∙ sym (ap is_name e ∙ na)
      go (to_first e f) = ap is_name f ∙ na ∙ sym (ap is_name e ∙ nb)
      go (left_so f) = ap is_name f

  swap_other : (w : Word) → is_name w ≡ false → swap a b w ≡ w
  swap_other w h = go (swap_cases a b w)
    where
      go : Swap a b w → swap a b w ≡ w
      go (to_second e f) = absurd (false≢true (sym h ∙ ap is_name e ∙ na))
      go (to_first e f) = absurd (false≢true (sym h ∙ ap is_name e ∙ nb))
      go (left_so f) = f

  swapped_name : (w : Word) → is_name w ≡ true → swapped a b w ≡ swap a b w
  unfolding swapped
  swapped_name [] h = absurd (no_name h)
  swapped_name (c ∷ cs) h = let low = name_low c cs h in rw (ne_eqb c 33 (λ e. omega arith))

  swapped_other : (c : ℕ) (cs : Word) → is_name (c ∷ cs) ≡ false → eqb c 33 ≡ false → swapped a b (c ∷ cs) ≡ c ∷ cs
  unfolding swapped
  swapped_other c cs h e = rw e (swap_other (c ∷ cs) h)

  swapped_named : (w : Word) → is_name (swapped a b w) ≡ is_name w
  unfolding swapped is_name
  swapped_named [] = refl
  swapped_named (c ∷ cs) = go (eqb c 33) refl
    where
      go : (t : Bool) → eqb c 33 ≡ t → is_name (cond t (33 ∷ swapped a b cs) (swap a b (c ∷ cs))) ≡ is_name (c ∷ cs)
      go true e = rw (eqb-true c 33 e)
      go false e = swap_named (c ∷ cs)

  swapped_back : (w : Word) → swapped a b (swapped a b w) ≡ w
  unfolding swapped
  swapped_back [] = refl
  swapped_back (c ∷ cs) = go (eqb c 33) refl (is_name (c ∷ cs)) refl (swapped_back cs)
    where
      go : (t : Bool) → eqb c 33 ≡ t → (u : Bool) → is_name (c ∷ cs) ≡ u → swapped a b (swapped a b cs) ≡ cs →
          swapped a b (cond t (33 ∷ swapped a b cs) (swap a b (c ∷ cs))) ≡ c ∷ cs
      go true e u f rest = let z : 33 ≡ c = sym (eqb-true c 33 e) in λ i. z i ∷ rest i
      go false e true f rest = swapped_name (swap a b (c ∷ cs)) (swap_named (c ∷ cs) ∙ f) ∙ swap_back (c ∷ cs)
      go false e false f rest = ap (swapped a b) (swap_other (c ∷ cs) f) ∙ swapped_other c cs f e

  unfoldable swapping : Renaming
  unfolding swapped
  swapping =
      record {
        to = swapped a b;
        named = swapped_named;
        apart = λ v w e. sym (swapped_back v) ∙ ap (swapped a b) e ∙ swapped_back w;
        off = λ w. refl;
        other = swapped_other;
        nothing = refl;
      }

  -- A text with two names swapped gives the same file, or the same refusal in the same line.
  pub names_swapped : (text other : List ℕ) → lines_of other ≡ each_line (swapped a b) (lines_of text) → file_from_text other ≡ file_from_text text
  unfolding swapping
  names_swapped text other e = renamed_alike swapping text other e
