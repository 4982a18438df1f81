-- Names as parts of the text: where each begins and how long it is; and a word looked for among them.
use Rattle.std.specs.Prelude.{◌≡◌, true, false, cond, List, [], ◌∷◌, ltb, length, get_or}
use Rattle.std.proofs.Common.{ap}
use Rattle.std.specs.Prelude.{Some, None}
use Rattle.std.specs.Prelude.{Option as Found}
use Rattle.std.proofs.Math.Option.{Option, none, some}
use Prim.Native.Nat.{ℕ, zero, suc, ◌+◌, ◌-◌, ◌≤◌, ◌<◌}
use native.Mathlib.Omega.{arith}
use Rattle.policy.specs.File.{part}
use Rattle.wording.specs.Words.{Word}
use Rattle.wording.specs.Names.{same, find}

-- The n names from k on.
unfoldable pub spans : (text starts lengths : List ℕ) → ℕ → ℕ → List Word
spans text starts lengths k zero = []
spans text starts lengths k (suc n) = part text (get_or starts k 0) (get_or lengths k 0) ∷ spans text starts lengths (suc k) n

-- There are the places of n names, and each is within the text.
pub record NamesIn (n : ℕ) (text starts lengths : List ℕ) : Type 0 where
  pub starts_long : n ≤ length starts
  pub lengths_long : n ≤ length lengths
  pub within : (k : ℕ) → k < n → get_or starts k 0 + get_or lengths k 0 ≤ length text

-- So there are those of fewer names.
pub names_fewer : {n : ℕ} {text starts lengths : List ℕ} → NamesIn n text starts lengths → (m : ℕ) → m ≤ n → NamesIn m text starts lengths
names_fewer p m h =
    record {
      starts_long = omega (arith, p.starts_long);
      lengths_long = omega (arith, p.lengths_long);
      within = λ k l. p.within k (omega arith);
    }

-- A number below n as a place, and n as none.
abbrev pub place_below : ℕ → ℕ → Option ℕ
place_below n r = cond (ltb r n) (some r) none

-- What a search found, as the place or none.
abbrev pub found_said : Found ℕ → Option ℕ
found_said (Some i) = some i
found_said None = none

-- A word looked for among the n names from `first` on, as far as the i-th of them.
module _ (text starts lengths : List ℕ) (w : Word) (first i n : ℕ) where
  -- The name at i.
  abbrev pub name_at : Word
  name_at = part text (get_or starts (first + i) 0) (get_or lengths (first + i) 0)

  left_one : i < n → spans text starts lengths (first + i) (n - i) ≡ name_at ∷ spans text starts lengths (first + (i + 1)) (n - (i + 1))
  unfolding spans
  left_one h =
      let e : n - i ≡ suc (n - (i + 1)) = omega arith in
      let s : suc (first + i) ≡ first + (i + 1) = omega arith in
      rw e (ap (λ (k : ℕ). name_at ∷ spans text starts lengths k (n - (i + 1))) s)

  -- The name at i is another: the search goes on from i + 1.
  pub find_on : i < n → same name_at w ≡ false →
      find i w (spans text starts lengths (first + i) (n - i)) ≡ find (i + 1) w (spans text starts lengths (first + (i + 1)) (n - (i + 1)))
  unfolding find
  find_on h e =
      let s : suc i ≡ i + 1 = omega arith in
      rw (left_one h, e) (ap (λ (k : ℕ). find k w (spans text starts lengths (first + (i + 1)) (n - (i + 1)))) s)

  -- The name at i is the word: i is found.
  pub found_here : i < n → same name_at w ≡ true → find i w (spans text starts lengths (first + i) (n - i)) ≡ some i
  unfolding find
  found_here h e = rw (left_one h, e)

  -- No name is left: none is found.
  pub found_nowhere : n ≤ i → find i w (spans text starts lengths (first + i) (n - i)) ≡ none
  unfolding find spans
  found_nowhere h = let e : n - i ≡ 0 = omega arith in rw e
