-- What the functions' proofs cite: a turn of the loop that writes an index, and of the loop that compares one.
use mathlib.Core.Path.{◌≡◌, refl, sym, ap, ap₂, ◌∙◌}
use mathlib.Core.Bool.{Bool, true, false, ◌&&◌, and-eq-true_iff, false≢true}
use mathlib.Core.List.{List, [], ◌∷◌, ◌++◌, append_assoc}
use Prim.Native.Nat.{ℕ, zero, suc, ◌+◌, ◌*◌, ◌≤◌, ◌<◌}
use native.Mathlib.Numerals.{add-one}
use native.Mathlib.Omega.{arith}
use lib.Dec.{eqb}
use lib.ListN.{length, get_or, take, drop, set, length-append, length-drop}
use lib.Seq.{take-suc, drop-cons, append_snoc, set_at, take_all}
use borrow.Author.Tests.{le-ltb, le-leb, lt-leb, eq-eqb, ne_eqb}
use Rattle.streams.specs.AnswerLaws.{first_refused}
use Rattle.policy.specs.Check.{refusal_of}
use Rattle.policy.specs.Layout.{layout_of, CheckPromise}
use Rattle.policy.specs.LayoutLaws.{checked_says}
use Rattle.policy.specs.File.{rules_of}
use Rattle.policy.specs.declared.Layout.{Layout}
use Rattle.policy.specs.Layout.{Checked}
use Rattle.index.specs.declared.entry.Entry.{Entry}
use Rattle.index.specs.Index.{lower, number, entry_of, entries, index_of, same, same_exactly, is_index}
use Rattle.index.specs.Names.{entries_length, entries_at, index_length, entry_within}
use Rattle.index.specs.Sections.{Sections}
use Rattle.index.specs.Entry.{build_refusal, written_over, built_index, BuildPromise}

module _ (f xs : List ℕ) where
  -- One entry more is written.
  pub entry_laid : (a : ℕ) → 2 * a + 2 ≤ length xs →
      set (set (entries f a ++ drop (2 * a) xs) (2 * a) (entry_of f a).first) (2 * a + 1) (entry_of f a).number ≡ entries f (a + 1) ++ drop (2 * (a + 1)) xs
  unfolding entries
  entry_laid a h =
      let v = (entry_of f a).first in
      let w = (entry_of f a).number in
      let rest = drop (suc (suc (2 * a))) xs in
      let k = entries_length f a in
      let n : length (entries f a ++ (v ∷ [])) ≡ 2 * a + 1 = simp length-append (omega arith) in
      let z : suc (suc (2 * a)) ≡ 2 * (a + 1) = omega arith in
      rw (
        drop-cons xs (2 * a) 0 (omega arith),
        drop-cons xs (suc (2 * a)) 0 (omega arith),
        set_at (entries f a) _ _ v (2 * a) k,
        ← append_snoc (entries f a) v (get_or xs (suc (2 * a)) 0 ∷ rest),
        set_at (entries f a ++ (v ∷ [])) _ rest w (2 * a + 1) n,
      )
      (one a v w rest ∙ ap₂ (λ (i j : ℕ). entries f i ++ drop j xs) (sym (add-one a)) z)
    where
      one : (b v w : ℕ) (rest : List ℕ) → (entries f b ++ (v ∷ [])) ++ (w ∷ rest) ≡ (entries f b ++ (v ∷ w ∷ [])) ++ rest
      one b v w rest = simp append_assoc

  pub laid_length : (a : ℕ) → 2 * a ≤ length xs → length (entries f a ++ drop (2 * a) xs) ≡ length xs
  laid_length a h = let k = entries_length f a in simp (length-append, length-drop) (omega arith)

  -- One entry more is the index's.
  pub entry_same : (a : ℕ) → 2 * a + 2 ≤ length xs → take (2 * a) xs ≡ entries f a → get_or xs (2 * a) 0 ≡ (entry_of f a).first →
      get_or xs (2 * a + 1) 0 ≡ (entry_of f a).number → take (2 * (a + 1)) xs ≡ entries f (a + 1)
  unfolding entries
  entry_same a h e p q =
      let g : 2 * (a + 1) ≡ suc (suc (2 * a)) = omega arith in
      let o : suc (2 * a) ≡ 2 * a + 1 = omega arith in
      rw (g, take-suc xs (suc (2 * a)) 0 (omega arith), take-suc xs (2 * a) 0 (omega arith), e, p, o, q, add-one a) (simp append_assoc)

  not_same : (xs ≡ index_of f → ⊥) → is_index f xs ≡ false
  not_same h = go (same xs (index_of f)) refl
    where
      go : (t : Bool) → same xs (index_of f) ≡ t → t ≡ false
      go true e = absurd (h ((same_exactly xs (index_of f)).0 e))
      go false e = refl

  pub other_length : (length xs ≡ 128 → ⊥) → is_index f xs ≡ false
  other_length h = not_same (λ e. h (ap length e ∙ index_length f))

  -- One entry that is another makes another index.
  pub other_entry : (a : ℕ) → a < 64 → (eqb (get_or xs (2 * a) 0) (entry_of f a).first && eqb (get_or xs (2 * a + 1) 0) (entry_of f a).number) ≡ false → is_index f xs ≡ false
  unfolding index_of
  other_entry a l h =
      not_same (λ e. let k = entries_at f 64 a l in
      let p : get_or xs (2 * a) 0 ≡ (entry_of f a).first = ap (λ (ys : List ℕ). get_or ys (2 * a) 0) e ∙ k.0 in
      let q : get_or xs (2 * a + 1) 0 ≡ (entry_of f a).number = ap (λ (ys : List ℕ). get_or ys (2 * a + 1) 0) e ∙ k.1 in
      false≢true (sym h ∙ (and-eq-true_iff _ _).1 (eq-eqb _ _ p, eq-eqb _ _ q)))

  pub all_same : length xs ≡ 128 → (a : ℕ) → a ≡ 64 → take (2 * a) xs ≡ entries f a → is_index f xs ≡ true
  unfolding index_of
  all_same n a g e = (same_exactly xs (index_of f)).1 (sym (take_all 128 xs (omega arith)) ∙ rw g at e)

-- Whether the numbers given are the entry of a location, past the locations and within them.
module _ {f : List ℕ} {l : Layout} (k : Sections f l) (a : ℕ) (given : Entry) where
  abbrev is_entry : Bool
  is_entry = eqb given.first (entry_of f a).first && eqb given.number (entry_of f a).number

  module _ (h : l.locations ≤ a) where
    pub past_first : (given.first ≡ 0 → ⊥) → is_entry ≡ false
    unfolding entry_of
    past_first n = rw (le-ltb a _ (rw k.locations at h), ne_eqb _ _ n)

    pub past_number : given.first ≡ 0 → is_entry ≡ eqb given.number 0
    unfolding entry_of
    past_number z = rw (le-ltb a _ (rw k.locations at h), eq-eqb _ _ z)

  module _ (h : a < l.locations) {first : ℕ} (e : first ≡ lower a (rules_of f)) where
    pub within_first : (given.first ≡ first → ⊥) → is_entry ≡ false
    within_first n = rw (entry_within f k.passes a (rw k.locations at h), ← e, ne_eqb _ _ n)

    pub within_number : given.first ≡ first → is_entry ≡ eqb given.number (number a (rules_of f))
    within_number q = rw (entry_within f k.passes a (rw k.locations at h), ← e, eq-eqb _ _ q)

-- What the check answers without a refusal is the layout.
pub sections_of : {f : List ℕ} {r : Checked} → CheckPromise f r → r.refusal ≡ 0 → Sections f r.layout
sections_of {f} {r} p z =
    let n : refusal_of f ≡ 0 = sym (checked_says f).0 ∙ sym (ap (λ (c : Checked). c.refusal) p.said) ∙ z in
    let l : r.layout ≡ layout_of 1 f = ap (λ (c : Checked). c.layout) p.said ∙ (checked_says f).1 n in
    rw l (record { passes = n; clocks = refl; locations = refl; rules = refl; start = refl; end = refl })

-- What is left to say at each return of `write_index`.
stays : (f before : List ℕ) (n : ℕ) → (n ≡ 0 → ⊥) → written_over f before n ≡ before
stays f before zero h = absurd (h refl)
stays f before (suc n) h = refl

module _ {f before : List ℕ} where
  refused_by : {n : ℕ} → build_refusal f before ≡ n → (n ≡ 0 → ⊥) → BuildPromise f before n before
  unfolding built_index
  refused_by {n} e h = record { refuses = sym e; writes = sym (ap (written_over f before) e ∙ stays f before n h) }

  pub build_refused : {r : Checked} → CheckPromise f r → (r.refusal ≡ 0 → ⊥) → BuildPromise f before r.refusal before
  unfolding build_refusal
  build_refused {r} p h =
      let e : r.refusal ≡ refusal_of f = ap (λ (c : Checked). c.refusal) p.said ∙ (checked_says f).0 in
      refused_by (rw (← e) (first_refused _ _ h)) h

  pub build_short : refusal_of f ≡ 0 → length before < 128 → BuildPromise f before 14 before
  unfolding build_refusal
  build_short e l = refused_by (rw (e, lt-leb 128 (length before) l)) (λ z. absurd (omega arith))

  pub build_done : {after : List ℕ} → refusal_of f ≡ 0 → 128 ≤ length before → after ≡ index_of f ++ drop 128 before → BuildPromise f before 0 after
  unfolding build_refusal built_index
  build_done e l w = record { refuses = rw (e, le-leb 128 (length before) l); writes = rw (e, le-leb 128 (length before) l) w }
