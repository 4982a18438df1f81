-- New names and what is kept of them.
-- In order: whether a word may be a new name; one name more in the slices of the names.
use Rattle.std.specs.Prelude.{◌≡◌, Bool, true, false, List, [], ◌∷◌, ◌++◌, eqb, length, get_or, take, set}
use Rattle.std.proofs.Math.Path.{refl, ap, sym}
use Rattle.std.proofs.Common.{◌∙◌, length-set, get_or-set_same, take-suc-set, eqb-true}
use Rattle.std.proofs.Math.Option.{Option, none, some}
use Prim.Native.Nat.{ℕ, zero, suc, ◌+◌, ◌≤◌, ◌<◌}
use native.Mathlib.Omega.{arith}
use Rattle.std.proofs.Math.Seq.{get_or-set_other}
use Rattle.std.proofs.lemmas.Bool.{eqb-false, false≢true}
use Rattle.std.specs.Prelude.{Some, None, is_some}
use Rattle.std.specs.Prelude.{Option as Found}
use Rattle.streams.specs.Answer.{Answer, refused}
use Rattle.policy.specs.File.{part}
use Rattle.wording.specs.Words.{Word, Line}
use Rattle.wording.specs.Names.{must, free, find, is_name}
use Rattle.words.specs.Spans.{spans, NamesIn, found_said}
use Rattle.wording.specs.Reader.{Draft}
use Rattle.declarations.specs.declared.table.Table.{Table}

-- 30: no name. 31: it is taken.
abbrev pub name_refusal : Bool → Option ℕ → Option ℕ → ℕ
name_refusal false o p = 30
name_refusal true (some i) p = 31
name_refusal true none (some i) = 31
name_refusal true none none = 0

-- As a new name of a signal or of a clock.
abbrev pub name_found : (text starts lengths : List ℕ) → Table → Word → ℕ
name_found text starts lengths t w = name_refusal (is_name w) (find 0 w (spans text starts lengths 0 t.signals)) (find 0 w (spans text starts lengths 8 t.clocks))

-- A search that found something.
pub found_some : (r : Found ℕ) {o : Option ℕ} → found_said r ≡ o → is_some r ≡ true → (i : ℕ) × (o ≡ some i)
found_some (Some i) e h = (i, sym e)
found_some None e h = absurd (false≢true h)

-- A search that found nothing.
pub found_none : (r : Found ℕ) {o : Option ℕ} → found_said r ≡ o → is_some r ≡ false → o ≡ none
found_none (Some i) e h = absurd (false≢true (sym h))
found_none None e h = sym e

-- The refusal n, unless it is 0.
abbrev pub refuse : {A : Type 0} → ℕ → Answer A → Answer A
refuse zero a = a
refuse (suc n) a = refused (suc n)

-- Where the refusal is not 0, it is the answer, whatever would follow.
pub refusing : {A : Type 0} (n : ℕ) (a : Answer A) → (n ≡ 0 → ⊥) → refused n ≡ refuse n a
refusing zero a z = absurd (z refl)
refusing (suc n) a z = refl

-- A clock's name, looked up among the clocks first; a signal's among the signals first.
pub clock_new : (t : Bool) (o p : Option ℕ) (a : Answer Draft) → must t 30 (free p (free o a)) ≡ refuse (name_refusal t o p) a
clock_new false o p a = refl
clock_new true (some i) none a = refl
clock_new true (some i) (some j) a = refl
clock_new true none (some j) a = refl
clock_new true none none a = refl

-- A signal's new name, looked up among the signals and then among the clocks, is refused in the same way.
pub signal_new : (t : Bool) (o p : Option ℕ) (a : Answer Draft) → must t 30 (free o (free p a)) ≡ refuse (name_refusal t o p) a
signal_new false o p a = refl
signal_new true (some i) p a = refl
signal_new true none (some j) a = refl
signal_new true none none a = refl

-- How many names there are, and what a store of one more leaves and adds.
module _ (text : List ℕ) where
  -- There are as many names as are asked for.
  pub spans_long : (s l : List ℕ) (k n : ℕ) → length (spans text s l k n) ≡ n
  unfolding spans
  spans_long s l k zero = refl
  spans_long s l k (suc n) = ap suc (spans_long s l (suc k) n)

  module _ (s l : List ℕ) (n a b : ℕ) where
    -- A store changes no name that stands elsewhere.
    pub spans_other : (k m : ℕ) → ((i : ℕ) → k ≤ i → i < k + m → i ≡ n → ⊥) → spans text (set s n a) (set l n b) k m ≡ spans text s l k m
    unfolding spans
    spans_other k zero h = refl
    spans_other k (suc m) h =
        let z : k ≡ n → ⊥ = h k (omega arith) (omega arith) in
        rw (get_or-set_other s n k a 0 z, get_or-set_other l n k b 0 z, spans_other (suc k) m (λ i x y. h i (omega arith) (omega arith)))

  snoc : (s l : List ℕ) (k n m : ℕ) → k + n ≡ m → spans text s l k (suc n) ≡ spans text s l k n ++ (part text (get_or s m 0) (get_or l m 0) ∷ [])
  unfolding spans
  snoc s l k zero m h = let q : k ≡ m = omega arith in ap (λ (j : ℕ). part text (get_or s j 0) (get_or l j 0) ∷ []) q
  snoc s l k (suc n) m h = ap (λ (z : Line). part text (get_or s k 0) (get_or l k 0) ∷ z) (snoc s l (suc k) n m (omega arith))

  -- A name stored directly after n others makes them n + 1, with this one as the last.
  pub spans_more : (s l : List ℕ) (k n m a b : ℕ) → k + n ≡ m → m < length s → m < length l → spans text (set s m a) (set l m b) k (n + 1) ≡ spans text s l k n ++ (part text a b ∷ [])
  spans_more s l k n m a b at h g =
      let q : n + 1 ≡ suc n = omega arith in
      let ka = get_or-set_same s m a 0 h in
      let kb = get_or-set_same l m b 0 g in
      ap (spans text (set s m a) (set l m b) k) q
      ∙ snoc (set s m a) (set l m b) k n m at
      ∙ (λ i. spans_other s l m a b k n (λ j x y z. omega arith) i ++ (part text (ka i) (kb i) ∷ []))

-- All names are still within the text when one more that is within it is stored.
pub names_more : {text s l : List ℕ} → NamesIn 76 text s l → (n a b : ℕ) → n < 76 → a + b ≤ length text → NamesIn 76 text (set s n a) (set l n b)
names_more {text} {s} {l} p n a b h m =
    record {
      starts_long = rw (length-set s n a) p.starts_long;
      lengths_long = rw (length-set l n b) p.lengths_long;
      within = λ k j. go k j (eqb k n) refl;
    }
  where
    go : (k : ℕ) → k < 76 → (t : Bool) → eqb k n ≡ t → get_or (set s n a) k 0 + get_or (set l n b) k 0 ≤ length text
    go k j true t =
        let q : k ≡ n = eqb-true k n t in
        rw (q, get_or-set_same s n a 0 (omega (arith, p.starts_long)), get_or-set_same l n b 0 (omega (arith, p.lengths_long))) m
    go k j false t =
        let z = eqb-false k n t in
        rw (get_or-set_other s n k a 0 z, get_or-set_other l n k b 0 z) (p.within k j)

-- A number stored at n makes the first n numbers n + 1, with this one as the last.
pub take_more : (l : List ℕ) (n a : ℕ) → n < length l → take (n + 1) (set l n a) ≡ take n l ++ (a ∷ [])
take_more l n a h = let q : n + 1 ≡ suc n = omega arith in ap (λ (j : ℕ). take j (set l n a)) q ∙ take-suc-set l n a h
