-- The values in the order of corrections, written down in rows: the first of a row that may stand is the nearest.
-- In order: the tests of a row and of a table; k different values below k are all of them; a row that passes is in order and within k; its first
-- value that may stand is the nearest (`first_nearest`).
use Rattle.std.proofs.Math.Path.{◌≡◌, refl, subst}
use Rattle.std.proofs.Common.{sym, ◌∙◌, inl, inr, true≢false, not-suc-le-zero, suc-mul, add_comm, drop-drop}
use Rattle.std.specs.Prelude.{◌⊎◌, Bool, ◌&&◌, ltb, get_or, take, drop}
use Rattle.std.proofs.Math.Logic.{⊎_elim, dite}
use Rattle.std.proofs.Math.Bool.{true, false, cond, and-eq-true_iff}
use mathlib.Core.List.Memᴰ
use mathlib.Core.List.{List, [], ◌∷◌, Memᴰ}
use Rattle.std.proofs.Math.Option.{Option, none, some}
use Prim.Native.Nat.{ℕ, zero, suc, ◌+◌, ◌*◌, ◌≤◌, ◌<◌}
use Rattle.std.proofs.Math.Decide.{ℕ_discrete}
use native.Mathlib.Omega.{arith}
use Rattle.std.proofs.Math.Dec.{eqb}
use Rattle.std.proofs.Math.ListN.{length}
use borrow.Author.Tests.{ltb-true, eqb-true, eqb-false, lt-ltb}
use Rattle.streams.specs.Corrections.{corrections}
use Rattle.streams.specs.CorrectionsLaws.{nearer_true, nearer_apart, corrections_reflexive, corrections_transitive}
use Rattle.streams.specs.Nearness.{nearer}
use Rattle.streams.specs.Choose.{nearest, Among}
use Rattle.streams.specs.ChooseLaws.{nearest_found, nearest_nothing}

-- "take the first that may stand. With fewer signals, entries out of range are passed over."
unfoldable pub first_of : (ℕ → Bool) → ℕ → List ℕ → Option ℕ
first_of may n [] = none
first_of may n (a ∷ row) = cond (ltb a n && may a) (some a) (first_of may n row)

-- A value and the row after it: it is nearer to the wanted one than the next, if there is a next.
abbrev pub leads : ℕ → ℕ → List ℕ → Bool
leads wanted a [] = true
leads wanted a (b ∷ row) = nearer wanted a b

-- The test of a row for a wanted value: each value is below k, and nearer to the wanted one than the next.
unfoldable pub rising : ℕ → ℕ → List ℕ → Bool
rising k wanted [] = true
rising k wanted (a ∷ row) = ltb a k && leads wanted a row && rising k wanted row

-- The test of a table: m rows of k values, for the wanted values w, w + 1, ..
unfoldable pub rows : ℕ → ℕ → ℕ → List ℕ → Bool
rows k zero w table = true
rows k (suc m) w table = rising k w (take k table) && rows k m (suc w) (drop k table)

rising_parts : (k w a : ℕ) (row : List ℕ) → rising k w (a ∷ row) ≡ true → (a < k) × (leads w a row ≡ true) × (rising k w row ≡ true)
unfolding rising
rising_parts k w a row e =
    let p = (and-eq-true_iff (ltb a k && leads w a row) (rising k w row)).0 e in
    let q = (and-eq-true_iff (ltb a k) (leads w a row)).0 p.0 in
    (ltb-true a k q.0, q.1, p.1)

-- In a table that passes, row i passes for the wanted value w + i.
pub row_at : (k m w : ℕ) (table : List ℕ) → rows k m w table ≡ true → (i : ℕ) → i < m → rising k (w + i) (take k (drop (i * k) table)) ≡ true
unfolding rows
row_at k zero w table e i h = absurd (not-suc-le-zero h)
row_at k (suc m) w table e zero h =
    let d : w + 0 ≡ w = omega arith in
    let z : 0 * k ≡ 0 = omega arith in
    rw (d, z) ((and-eq-true_iff (rising k w (take k table)) (rows k m (suc w) (drop k table))).0 e).0
row_at k (suc m) w table e (suc i) h =
    let d : w + suc i ≡ suc w + i = omega arith in
    let z : suc i * k ≡ k + i * k = suc-mul i k ∙ add_comm (i * k) k in
    rw (d, z, ← drop-drop (i * k) k table)
    (row_at k m (suc w) (drop k table) ((and-eq-true_iff (rising k w (take k table)) (rows k m (suc w) (drop k table))).0 e).1 i (omega arith))

-- No value stands twice.
pub data Different : List ℕ → Type 0 where
  none_left : Different []
  and_others : {a : ℕ} {row : List ℕ} → (Memᴰ a row → ⊥) → Different row → Different (a ∷ row)

-- The row without k.
without : ℕ → List ℕ → List ℕ
without k [] = []
without k (a ∷ row) = cond (eqb a k) row (a ∷ without k row)

module _ (k : ℕ) where
  without_mem : (row : List ℕ) {b : ℕ} → Memᴰ b (without k row) → Memᴰ b row
  unfolding without
  without_mem [] m = m
  without_mem (a ∷ row) {b} m = go (eqb a k) (without_mem row) m
    where
      go : (t : Bool) → (Memᴰ b (without k row) → Memᴰ b row) → Memᴰ b (cond t row (a ∷ without k row)) → Memᴰ b (a ∷ row)
      go true f m = Memᴰ.tail m
      go false f m = ⊎_elim (λ (e : b ≡ a). Memᴰ.head e) (λ r. Memᴰ.tail (f r)) (Memᴰ.cases_cons m)

  without_length : (row : List ℕ) → length row ≤ suc (length (without k row))
  unfolding without
  without_length [] = omega arith
  without_length (a ∷ row) = go (eqb a k) (without_length row)
    where
      go : (t : Bool) → length row ≤ suc (length (without k row)) → length (a ∷ row) ≤ suc (length (cond t row (a ∷ without k row)))
      go true h = omega arith
      go false h = omega arith

  without_different : {row : List ℕ} → Different row → Different (without k row)
  unfolding without
  without_different none_left = none_left
  without_different (and_others {a = a} {row = row} f d) = go (eqb a k) (without_different d)
    where
      go : (t : Bool) → Different (without k row) → Different (cond t row (a ∷ without k row))
      go true r = d
      go false r = and_others (λ m. f (without_mem row m)) r

  without_gone : {row : List ℕ} → Different row → Memᴰ k (without k row) → ⊥
  unfolding without
  without_gone none_left m = Memᴰ.not-nil m
  without_gone (and_others {a = a} {row = row} f d) m = go (eqb a k) refl (without_gone d) m
    where
      go : (t : Bool) → eqb a k ≡ t → (Memᴰ k (without k row) → ⊥) → Memᴰ k (cond t row (a ∷ without k row)) → ⊥
      go true e r m = f (subst (λ (z : ℕ). Memᴰ z row) (sym (eqb-true a k e)) m)
      go false e r m = ⊎_elim (λ (q : k ≡ a). eqb-false a k e (sym q)) r (Memᴰ.cases_cons m)

-- Different values below k are k at most.
fits : (k : ℕ) (row : List ℕ) → Different row → ((b : ℕ) → Memᴰ b row → b < k) → length row ≤ k
fits zero [] d h = omega arith
fits zero (a ∷ row) d h = absurd (not-suc-le-zero (h a (Memᴰ.head refl)))
fits (suc k) row d h = omega (arith, without_length k row, fits k (without k row) (without_different k d) below)
  where
    below : (b : ℕ) → Memᴰ b (without k row) → b < k
    below b m =
        let l = h b (without_mem k row m) in
        let n : b ≡ k → ⊥ = λ e. without_gone k d (subst (λ (z : ℕ). Memᴰ z (without k row)) e m) in
        omega arith

found : (z : ℕ) (row : List ℕ) → Memᴰ z row ⊎ (Memᴰ z row → ⊥)
found z [] = inr Memᴰ.not-nil
found z (a ∷ row) = go (found z row)
  where
    go : Memᴰ z row ⊎ (Memᴰ z row → ⊥) → Memᴰ z (a ∷ row) ⊎ (Memᴰ z (a ∷ row) → ⊥)
    go (inl m) = inl (Memᴰ.tail m)
    go (inr f) = dite (ℕ_discrete z a) (λ e. inl (Memᴰ.head e)) (λ n. inr (λ m. ⊎_elim n f (Memᴰ.cases_cons m)))

-- So k different values below k are all of them.
pub all_there : (k : ℕ) (row : List ℕ) → Different row → ((b : ℕ) → Memᴰ b row → b < k) → length row ≡ k → (z : ℕ) → z < k → Memᴰ z row
all_there k row d h e z l = ⊎_elim (λ m. m) (λ f. absurd (past f)) (found z row)
  where
    past : (Memᴰ z row → ⊥) → ⊥
    past f =
        let below : (b : ℕ) → Memᴰ b (z ∷ row) → b < k = λ b m. ⊎_elim (λ (q : b ≡ z). rw q l) (h b) (Memᴰ.cases_cons m) in
        omega (arith, fits k (z ∷ row) (and_others f d) below)

-- Every value of the row comes after a, and is not a.
abbrev After : ℕ → ℕ → List ℕ → Type 0
After w a row = (b : ℕ) → Memᴰ b row → corrections.NoFarther w a b × (a ≡ b → ⊥)

data Sorted (w : ℕ) : List ℕ → Type 0 where
  end : Sorted w []
  next : {a : ℕ} {row : List ℕ} → After w a row → Sorted w row → Sorted w (a ∷ row)

different : {w : ℕ} {row : List ℕ} → Sorted w row → Different row
different end = none_left
different (next {a = a} f s) = and_others (λ m. (f a m).1 refl) (different s)

module _ (w : ℕ) where
  first_after : (a b : ℕ) (row : List ℕ) → nearer w a b ≡ true → After w b row → After w a (b ∷ row)
  first_after a b row e f c m = ⊎_elim (λ (q : c ≡ b). subst (λ (z : ℕ). corrections.NoFarther w a z × (a ≡ z → ⊥)) (sym q) (p, nearer_apart w a b e)) on (Memᴰ.cases_cons m)
    where
      p : corrections.NoFarther w a b
      p = nearer_true w a b e

      on : Memᴰ c row → corrections.NoFarther w a c × (a ≡ c → ⊥)
      on r = (
        corrections_transitive w a b c p (f c r).0,
        λ q. nearer_apart w a b e (corrections.one w a b p (subst (λ (z : ℕ). corrections.NoFarther w b z) (sym q) (f c r).0)),
      )

  all_after : (a : ℕ) (row : List ℕ) → leads w a row ≡ true → Sorted w row → After w a row
  all_after a [] e s b m = absurd (Memᴰ.not-nil m)
  all_after a (b ∷ row) e (next f s) c m = first_after a b row e f c m

  module _ (k : ℕ) where
    sorted : (row : List ℕ) → rising k w row ≡ true → Sorted w row
    sorted [] e = end
    sorted (a ∷ row) e =
        let p = rising_parts k w a row e in
        let s = sorted row p.2 in
        next (all_after a row p.1 s) s

    in_range : (row : List ℕ) → rising k w row ≡ true → (b : ℕ) → Memᴰ b row → b < k
    in_range [] e b m = absurd (Memᴰ.not-nil m)
    in_range (a ∷ row) e b m =
        let p = rising_parts k w a row e in
        ⊎_elim (λ (q : b ≡ a). rw q p.0) (in_range row p.2 b) (Memᴰ.cases_cons m)

    -- Every value of a row that passes is below k.
    pub rising_below : (row : List ℕ) → rising k w row ≡ true → (i : ℕ) → i < length row → get_or row i 0 < k
    rising_below [] e i h = absurd (not-suc-le-zero h)
    rising_below (a ∷ row) e zero h = (rising_parts k w a row e).0
    rising_below (a ∷ row) e (suc i) h = rising_below row (rising_parts k w a row e).2 i (omega arith)

  module _ (may : ℕ → Bool) (n : ℕ) where
    -- A value below n that may stand is not passed over.
    not_passed : (a : ℕ) → Among may n a → (ltb a n && may a) ≡ false → ⊥
    not_passed a h e = true≢false (sym (rw (lt-ltb a n h.0, h.1)) ∙ e)

    first_is : {row : List ℕ} → Sorted w row → {a : ℕ} → first_of may n row ≡ some a →
        Among may n a × ((z : ℕ) → Memᴰ z row → Among may n z → corrections.NoFarther w a z)
    unfolding first_of
    first_is end e = absurd (let z : ◌≡◌ {A = ℕ} 0 1 = cc in omega arith)
    first_is (next {a = b} {row = row} f s) {a} e = go (ltb b n && may b) refl (first_is s) e
      where
        go : (t : Bool) → (ltb b n && may b) ≡ t →
            (first_of may n row ≡ some a → Among may n a × ((z : ℕ) → Memᴰ z row → Among may n z → corrections.NoFarther w a z)) →
            cond t (some b) (first_of may n row) ≡ some a →
            Among may n a × ((z : ℕ) → Memᴰ z (b ∷ row) → Among may n z → corrections.NoFarther w a z)
        go true d r e =
            let q : b ≡ a = cc in
            let t = (and-eq-true_iff (ltb b n) (may b)).0 d in (
              rw (← q) (ltb-true b n t.0, t.1),
              λ z m h.
                  rw (← q)
                  (⊎_elim (λ (u : z ≡ b). subst (λ (y : ℕ). corrections.NoFarther w b y) (sym u) (corrections_reflexive w b)) (λ m. (f z m).0)
                  (Memᴰ.cases_cons m)),
            )
        go false d r e =
            let i = r e in (
              i.0,
              λ z m h.
                  ⊎_elim (λ (u : z ≡ b). absurd (not_passed b (subst (λ (y : ℕ). Among may n y) u h) d)) (λ m. i.1 z m h) (Memᴰ.cases_cons m),
            )

    first_none : (row : List ℕ) → first_of may n row ≡ none → (z : ℕ) → Memᴰ z row → Among may n z → ⊥
    unfolding first_of
    first_none [] e z m h = Memᴰ.not-nil m
    first_none (b ∷ row) e z m h = go (ltb b n && may b) refl (first_none row) e
      where
        go : (t : Bool) → (ltb b n && may b) ≡ t → (first_of may n row ≡ none → (z : ℕ) → Memᴰ z row → Among may n z → ⊥) →
            cond t (some b) (first_of may n row) ≡ none → ⊥
        go true d r e = let q : ◌≡◌ {A = ℕ} 0 1 = cc in omega arith
        go false d r e =
            ⊎_elim (λ (u : z ≡ b). not_passed b (subst (λ (y : ℕ). Among may n y) u h) d) (λ m. r e z m h) (Memᴰ.cases_cons m)

    -- A row that passes the test and is as long as there are values gives the nearest.
    pub first_nearest : (k : ℕ) (row : List ℕ) → rising k w row ≡ true → length row ≡ k → n ≤ k → first_of may n row ≡ nearest may w n
    first_nearest k row e l h = go (first_of may n row) refl
      where
        order : Sorted w row
        order = sorted k row e

        there : (z : ℕ) → z < n → Memᴰ z row
        there z q = all_there k row (different order) (in_range k row e) l z (omega arith)

        untrue : (z : ℕ) → first_of may n row ≡ none → z < n → (t : Bool) → may z ≡ t → t ≡ false
        untrue z d q true m = absurd (first_none row d z (there z q) (q, m))
        untrue z d q false m = refl

        go : (o : Option ℕ) → first_of may n row ≡ o → o ≡ nearest may w n
        go none d = sym (nearest_nothing may w n (λ z q. untrue z d q (may z) refl))
        go (some a) d =
            let r = first_is order d in
            sym (nearest_found may w n (record { may = r.0; least = λ z q. r.1 z (there z q.0) q }))
