-- Words that mean something: those of the language, names, numbers.
use Rattle.std.specs.Prelude.{Bool, true, false, cond, not, ◌&&◌, ◌||◌, List, [], ◌∷◌, ℕ, zero, suc, leb, eqb, length}
use Rattle.std.proofs.Math.Option.{Option, none, some}
use Prim.Native.String.{String}
use Rattle.streams.specs.Answer.{Answer, refused, gives}
use Rattle.texts.specs.Text.{ascii, decimal}
use Rattle.texts.specs.Decimal.{value_from}
use Rattle.wording.specs.Words.{Word, Line}

-- Both words have the same bytes.
unfoldable pub same : Word → Word → Bool
same [] [] = true
same [] (b ∷ bs) = false
same (a ∷ as') [] = false
same (a ∷ as') (b ∷ bs) = eqb a b && same as' bs

-- Where a word first stands among others, counted from i.
unfoldable pub find : ℕ → Word → List Word → Option ℕ
find i w [] = none
find i w (v ∷ vs) = cond (same v w) (some i) (find (suc i) w vs)

-- The word is this one of the language.
abbrev pub is : String → Word → Bool
is k w = same w (ascii k)

-- It is none of these twelve. The other two of the language, `>=` and `<=`, are no names by their bytes.
unfoldable pub is_plain : Word → Bool
is_plain w =
    not (is "input" w || (is "output" w || (is "clock" w || (is "location" w || (is "at" w || (is "any" w || (is "->" w
    || (is "violation" w || (is "reset" w || (is "must" w || (is "be" w || is "left" w)))))))))))

-- A lower-case letter, a to z.
abbrev pub is_lower : ℕ → Bool
is_lower c = leb 97 c && leb c 122

-- A digit, 0 to 9.
unfoldable pub is_digit : ℕ → Bool
is_digit c = leb 48 c && leb c 57

-- All bytes pass the test.
unfoldable pub every : (ℕ → Bool) → List ℕ → Bool
every test [] = true
every test (c ∷ cs) = test c && every test cs

-- "lower-case letters, digits and underscore, beginning with a letter, at most 16 bytes, no word of the language"
unfoldable pub is_name : Word → Bool
is_name [] = false
is_name (c ∷ cs) =
    is_lower c && (every (λ d. is_lower d || (is_digit d || eqb d 95)) cs && (leb (length cs) 15 && is_plain (c ∷ cs)))

-- One digit or more, and nothing else.
unfoldable pub is_number : Word → Bool
is_number [] = false
is_number (c ∷ cs) = is_digit c && every is_digit cs

module _ {A : Type 0} where
  infixl 10 ◌and_then◌
  -- What is given goes on, and a refusal stays.
  abbrev pub ◌and_then◌ : {B : Type 0} → Answer B → (B → Answer A) → Answer A
  (refused n) and_then go = refused n
  (gives b) and_then go = go b

  -- The refusal n, unless the test passes.
  abbrev pub must : Bool → ℕ → Answer A → Answer A
  must true n a = a
  must false n a = refused n

  -- 31: a name that is unknown.
  abbrev pub known : Option ℕ → (ℕ → Answer A) → Answer A
  known none go = refused 31
  known (some i) go = go i

  -- 31: a name that is taken.
  abbrev pub free : Option ℕ → Answer A → Answer A
  free none a = a
  free (some i) a = refused 31

  -- 30, 32: no number, or one above 65,535.
  unfoldable pub numbered : Word → (ℕ → Answer A) → Answer A
  numbered w go = must (is_number w) 30 (must (leb (value_from 0 w) 65535) 32 (go (value_from 0 w)))

-- One thing after another, as far as none is refused.
module _ {S X : Type 0} (next : S → X → Answer S) where
  -- From s, with each of xs in turn.
  unfoldable pub through : S → List X → Answer S
  through s [] = gives s
  through s (x ∷ xs) = next s x and_then λ t. through t xs

-- The names that are written: a letter and a number.
unfoldable pub name_of : ℕ → ℕ → Word
name_of letter k = letter ∷ decimal k

-- n names from the k-th on.
unfoldable pub names_from : ℕ → ℕ → ℕ → List Word
names_from letter k zero = []
names_from letter k (suc n) = name_of letter k ∷ names_from letter (suc k) n

-- A word for each tag.
unfoldable pub letters_of : List ℕ → Line
letters_of [] = []
letters_of (t ∷ ts) = (t ∷ []) ∷ letters_of ts
