-- The first entries of a list, changed one after the other.
use Rattle.std.specs.Prelude.{◌≡◌, refl, Bool, true, false, cond, List, ℕ, zero, suc, ◌+◌, ◌≤◌, ◌<◌, ltb, eqb, length, get_or, set, replicate}
use Rattle.std.proofs.Common.{sym, ap, ◌∙◌, subst, arith, length-set, get_or-set_same, get_or-set_other, ext_get_or, lt-ltb, le-ltb, ltb-true, ltb-false, eqb-true}
use Rattle.std.proofs.lemmas.Bool.{eqb-false}

-- A list of zeros has 0 at every place, past its end too.
pub zeros : (n i : ℕ) → ◌≡◌ {A = ℕ} (get_or (replicate n 0) i 0) 0
zeros zero i = refl
zeros (suc n) zero = refl
zeros (suc n) (suc i) = zeros n i

-- Of the first n entries each is what f says, the others are as they were, and so is the length.
pub record Changed (f : ℕ → ℕ) (n : ℕ) (xs ys : List ℕ) : Type 0 where
  pub size : length ys ≡ length xs
  pub at : (z : ℕ) → get_or ys z 0 ≡ cond (ltb z n) (f z) (get_or xs z 0)

-- One list alone is so changed.
pub changed_one : {f : ℕ → ℕ} {n : ℕ} {xs ys zs : List ℕ} → Changed f n xs ys → Changed f n xs zs → ys ≡ zs
changed_one {ys = ys} {zs = zs} c d = ext_get_or 0 ys zs (c.size ∙ sym d.size) (λ z h. c.at z ∙ sym (d.at z))

-- No entry is changed yet.
pub changed_none : (f : ℕ → ℕ) (xs : List ℕ) → Changed f 0 xs xs
changed_none f xs = record { size = refl; at = λ z. rw (le-ltb z 0 (omega arith)) }

-- One entry more is stored, as f says.
pub changed_more : {f : ℕ → ℕ} {n v : ℕ} {xs ys : List ℕ} → n < length ys → v ≡ f n → Changed f n xs ys → Changed f (n + 1) xs (set ys n v)
changed_more {f} {n} {v} {xs} {ys} l e h = record { size = length-set ys n v ∙ h.size; at = λ z. go z (eqb z n) refl }
  where
    same : (z : ℕ) (t : Bool) → ltb z n ≡ t → (z ≡ n → ⊥) → ltb z n ≡ ltb z (n + 1)
    same z true k d = let m : z < n = ltb-true _ _ k in k ∙ sym (lt-ltb z (n + 1) (omega arith))
    same z false k d = let m : n ≤ z = ltb-false _ _ k in k ∙ sym (le-ltb z (n + 1) (omega arith))

    go : (z : ℕ) (t : Bool) → eqb z n ≡ t → get_or (set ys n v) z 0 ≡ cond (ltb z (n + 1)) (f z) (get_or xs z 0)
    go z true q =
        let s : z ≡ n = eqb-true _ _ q in
        rw (s, lt-ltb n (n + 1) (omega arith)) (get_or-set_same ys n v 0 l ∙ e)
    go z false q =
        let d : z ≡ n → ⊥ = eqb-false _ _ q in
        get_or-set_other ys n z v 0 d ∙ h.at z ∙ ap (λ (t : Bool). cond t (f z) (get_or xs z 0)) (same z (ltb z n) refl d)

-- Where f says what stood there, it may be said of fewer or of more entries.
span : (f : ℕ → ℕ) (n m : ℕ) (xs : List ℕ) → n ≤ m → ((z : ℕ) → n ≤ z → z < m → f z ≡ get_or xs z 0) → (z : ℕ) →
    cond (ltb z n) (f z) (get_or xs z 0) ≡ cond (ltb z m) (f z) (get_or xs z 0)
span f n m xs l same z = go (ltb z n) (ltb z m) refl refl
  where
    go : (a b : Bool) → ltb z n ≡ a → ltb z m ≡ b → cond a (f z) (get_or xs z 0) ≡ cond b (f z) (get_or xs z 0)
    go true true d e = refl
    go false false d e = refl
    go true false d e = absurd (omega (arith, ltb-true z n d, ltb-false z m e))
    go false true d e = sym (same z (ltb-false z n d) (ltb-true z m e))

module _ {f : ℕ → ℕ} {n m : ℕ} {xs ys : List ℕ} (l : n ≤ m) (same : (z : ℕ) → n ≤ z → z < m → f z ≡ get_or xs z 0) where
  -- What is changed up to n is changed up to m, if f keeps the entries from n to m.
  pub changed_on : Changed f n xs ys → Changed f m xs ys
  changed_on c = record { size = c.size; at = λ z. c.at z ∙ span f n m xs l same z }

  -- What is changed up to m is changed up to n, if f keeps the entries from n to m.
  pub changed_back : Changed f m xs ys → Changed f n xs ys
  changed_back c = record { size = c.size; at = λ z. c.at z ∙ sym (span f n m xs l same z) }

-- What is said in another way.
pub changed_as : {f : ℕ → ℕ} {n m : ℕ} {xs ys : List ℕ} → n ≡ m → Changed f n xs ys → Changed f m xs ys
changed_as {f} {xs = xs} {ys = ys} e c = subst (λ (k : ℕ). Changed f k xs ys) e c

-- Functions that agree on the first n entries change them alike.
pub changed_by : {f g : ℕ → ℕ} {n : ℕ} {xs ys : List ℕ} → ((z : ℕ) → z < n → f z ≡ g z) → Changed f n xs ys → Changed g n xs ys
changed_by {f} {g} {n} {xs} {ys} e c = record { size = c.size; at = λ z. c.at z ∙ go z (ltb z n) refl }
  where
    go : (z : ℕ) (t : Bool) → ltb z n ≡ t → cond t (f z) (get_or xs z 0) ≡ cond t (g z) (get_or xs z 0)
    go z true d = e z (ltb-true z n d)
    go z false d = refl

-- Nothing is changed if f says what stands there.
pub changed_not : {f : ℕ → ℕ} {n : ℕ} {xs : List ℕ} → ((z : ℕ) → z < n → f z ≡ get_or xs z 0) → Changed f n xs xs
changed_not {f} {n} {xs} e = changed_on (omega arith) (λ z l h. e z h) (changed_none f xs)
