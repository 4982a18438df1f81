-- "Callers name reading 1 or 2": a program is told its reading by a word.
use Rattle.std.specs.Prelude.{◌≡◌, refl, List, [], ◌∷◌, ℕ, zero, suc, ◌-◌, ◌<◌, length, get_or}
use Prim.Native.Char.{code}
use Rattle.std.proofs.Common.{arith}

-- By its digit. Any other word names no reading.
abbrev pub reading_of : List ℕ → ℕ
reading_of [] = 0
reading_of (b ∷ []) = b - code "0"
reading_of (b ∷ c ∷ bs) = 0

-- By how many words the program has, its own name among them: with none more "the program uses reading 1", with one more that names it, and more name none.
abbrev pub reading_told : (words : ℕ) (word : List ℕ) → ℕ
reading_told zero word = 1
reading_told (suc zero) word = 1
reading_told (suc (suc zero)) word = reading_of word
reading_told (suc (suc (suc n))) word = 0

-- The reading that a word names, by how long the word is.
pub none_named : (word : List ℕ) → (length word ≡ 1 → ⊥) → reading_of word ≡ 0
none_named [] h = refl
none_named (b ∷ []) h = absurd (h refl)
none_named (b ∷ c ∷ bytes) h = refl

-- A word of one byte names the number that its digit says.
pub one_named : (word : List ℕ) → length word ≡ 1 → reading_of word ≡ get_or word 0 0 - code "0"
one_named [] h = absurd (omega arith)
one_named (b ∷ []) h = refl
one_named (b ∷ c ∷ bytes) h = absurd (omega arith)

-- The reading that is told, by how many words there are.
module _ (words : ℕ) (word : List ℕ) where
  -- With no word after its name a program uses reading 1.
  pub told_first : words < 2 → reading_told words word ≡ 1
  told_first h = go words h
    where
      go : (n : ℕ) → n < 2 → reading_told n word ≡ 1
      go zero h = refl
      go (suc zero) h = refl
      go (suc (suc n)) h = absurd (omega arith)

  -- With two words or more after its name no reading is told.
  pub told_none : 2 < words → reading_told words word ≡ 0
  told_none h = go words h
    where
      go : (n : ℕ) → 2 < n → reading_told n word ≡ 0
      go zero h = absurd (omega arith)
      go (suc zero) h = absurd (omega arith)
      go (suc (suc zero)) h = absurd (omega arith)
      go (suc (suc (suc n))) h = refl

  -- With one word after its name, that word tells the reading.
  pub told_one : words ≡ 2 → reading_told words word ≡ reading_of word
  told_one e = rw e
