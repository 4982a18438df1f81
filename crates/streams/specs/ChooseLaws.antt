-- The choice that is computed is the nearest.
-- In order: what `some_below` says; what `nearest` computes, and when nothing; the choice by another test, and with more bits in the wanted value.
use Rattle.std.specs.Prelude.{◌≡◌, ◌↔◌, Bool, cond, ◌||◌}
use Rattle.std.proofs.Math.Path.{refl}
use Rattle.std.proofs.Common.{sym, ap, ap₂, ◌∙◌, subst, ⊎_elim, true≢false, eq-or-lt_of_le, not-suc-le-zero, le_of_suc-le-suc, lt-suc_self, arith}
use Rattle.std.proofs.Math.Bool.{true, false}
use Rattle.std.proofs.lemmas.Bool.{false≢true}
use Rattle.std.proofs.Math.Option.{Option, none, some}
use Prim.Native.Nat.{ℕ, zero, suc, ◌+◌, ◌*◌, ◌^◌, ◌≤◌, ◌<◌}
use Rattle.streams.specs.Order.{Nearest, nearest_one, nearest_same, kept_nearest}
use Rattle.streams.specs.Corrections.{corrections}
use Rattle.streams.specs.CorrectionsLaws.{nearer_true, nearer_false, corrections_reflexive, corrections_transitive, nearer_high}
use Rattle.streams.specs.Nearness.{nearer}
use Rattle.streams.specs.Choose.{Among, some_below, better, nearest}

-- What holds of n and below n holds below suc n.
below : (P : ℕ → Type 0) (n : ℕ) → ((z : ℕ) → z < n → P z) → P n → (z : ℕ) → z < suc n → P z
below P n f p z h = ⊎_elim (λ (e : z ≡ n). rw e p) (f z) (eq-or-lt_of_le (le_of_suc-le-suc h))

-- If `some_below` says yes, some number below n passes.
pub some_from : (p : ℕ → Bool) (n : ℕ) → some_below p n ≡ true → (z : ℕ) × (z < n) × (p z ≡ true)
unfolding some_below
some_from p zero e = absurd (false≢true e)
some_from p (suc n) e = go (some_below p n) (some_from p n) e
  where
    go : (t : Bool) → (t ≡ true → (z : ℕ) × (z < n) × (p z ≡ true)) → (t || p n) ≡ true → (z : ℕ) × (z < suc n) × (p z ≡ true)
    go true f e = let r = f refl in (r.0, omega arith, r.2)
    go false f e = (n, lt-suc_self n, e)

-- If `some_below` says no, every number below n fails.
pub some_none : (p : ℕ → Bool) (n : ℕ) → some_below p n ≡ false → (z : ℕ) → z < n → p z ≡ false
unfolding some_below
some_none p zero e z h = absurd (not-suc-le-zero h)
some_none p (suc n) e z h = go (some_below p n) (some_none p n) e
  where
    go : (t : Bool) → (t ≡ false → (z : ℕ) → z < n → p z ≡ false) → (t || p n) ≡ false → p z ≡ false
    go true f e = absurd (true≢false e)
    go false f e = below (λ z. p z ≡ false) n (f refl) e z h

-- One number below n that passes is enough for `some_below` to say yes.
pub some_has : (p : ℕ → Bool) (n z : ℕ) → z < n → p z ≡ true → some_below p n ≡ true
some_has p n z h e = go (some_below p n) refl
  where
    go : (t : Bool) → some_below p n ≡ t → t ≡ true
    go true d = refl
    go false d = sym (some_none p n d z h) ∙ e

-- If every number below n fails, `some_below` says no.
pub some_fails : (p : ℕ → Bool) (n : ℕ) → ((z : ℕ) → z < n → p z ≡ false) → some_below p n ≡ false
some_fails p n f = go (some_below p n) refl
  where
    go : (t : Bool) → some_below p n ≡ t → t ≡ false
    go true d = let r = some_from p n d in sym r.2 ∙ f r.0 r.1
    go false d = refl

-- `some_below` says the same of two tests that agree below n.
pub some_ext : (p q : ℕ → Bool) (n : ℕ) → ((z : ℕ) → z < n → p z ≡ q z) → some_below p n ≡ some_below q n
unfolding some_below
some_ext p q zero f = refl
some_ext p q (suc n) f = ap₂ ◌||◌ (some_ext p q n (λ z h. f z (omega arith))) (f n (lt-suc_self n))

module _ (may : ℕ → Bool) (w : ℕ) where
  -- What is known of the best value so far.
  abbrev Best : ℕ → Option ℕ → Type 0
  Best n none = (z : ℕ) → z < n → may z ≡ false
  Best n (some a) = Nearest corrections (Among may n) w a

  widen :
      {a n : ℕ} → Among may (suc n) a → ((z : ℕ) → Among may n z → corrections.NoFarther w a z) → (may n ≡ true → corrections.NoFarther w a n) →
      Nearest corrections (Among may (suc n)) w a
  widen {a} {n} m f p =
      record {
        may = m;
        least = λ z h. below (λ z. may z ≡ true → corrections.NoFarther w a z) n (λ z k q. f z (k, q)) p z h.0 h.1;
      }

  best_more : (n : ℕ) (t : Bool) → may n ≡ t → (b : Option ℕ) → Best n b → Best (suc n) (better t w n b)
  unfolding better
  best_more n false m none h = below (λ z. may z ≡ false) n h m
  best_more n false m (some a) h = widen (omega (arith, h.may.0), h.may.1) h.least (λ q. absurd (true≢false (sym q ∙ m)))
  best_more n true m none h = widen (lt-suc_self n, m) (λ z k. absurd (true≢false (sym k.1 ∙ h z k.0))) (λ q. corrections_reflexive w n)
  best_more n true m (some a) h = go (nearer w n a) refl
    where
      go : (u : Bool) → nearer w n a ≡ u → Nearest corrections (Among may (suc n)) w (cond u n a)
      go true e = widen (lt-suc_self n, m) (λ z k. corrections_transitive w n a z (nearer_true w n a e) (h.least z k)) (λ q. corrections_reflexive w n)
      go false e = widen (omega (arith, h.may.0), h.may.1) h.least (λ q. nearer_false w n a e)

  best : (n : ℕ) → Best n (nearest may w n)
  unfolding nearest
  best zero = λ z h. absurd (not-suc-le-zero h)
  best (suc n) = best_more n (may n) refl (nearest may w n) (best n)

  -- The value computed is the nearest of those below n that may stand.
  pub nearest_is : (n : ℕ) {a : ℕ} → nearest may w n ≡ some a → Nearest corrections (Among may n) w a
  nearest_is n e = subst (Best n) e (best n)

  -- If no value is computed, none below n may stand.
  pub nearest_none : (n : ℕ) → nearest may w n ≡ none → (z : ℕ) → z < n → may z ≡ false
  nearest_none n e = subst (Best n) e (best n)

  -- If no value below n may stand, none is computed.
  pub nearest_nothing : (n : ℕ) → ((z : ℕ) → z < n → may z ≡ false) → nearest may w n ≡ none
  nearest_nothing n f = go (nearest may w n) refl
    where
      go : (b : Option ℕ) → nearest may w n ≡ b → b ≡ none
      go none d = refl
      go (some a) d = let r = nearest_is n d in absurd (true≢false (sym r.may.1 ∙ f a r.may.0))

  -- If some value below n may stand, one is computed.
  pub nearest_some : (n : ℕ) → some_below may n ≡ true → (a : ℕ) × (nearest may w n ≡ some a)
  nearest_some n e = go (nearest may w n) refl
    where
      go : (b : Option ℕ) → nearest may w n ≡ b → (a : ℕ) × (nearest may w n ≡ some a)
      go none d = absurd (false≢true (sym (some_fails may n (nearest_none n d)) ∙ e))
      go (some a) d = (a, d)

  -- The nearest value, whichever way it is known, is the one computed.
  pub nearest_found : (n : ℕ) {a : ℕ} → Nearest corrections (Among may n) w a → nearest may w n ≡ some a
  nearest_found n {a} p =
      let r = nearest_some n (some_has may n a p.may.0 p.may.1) in
      r.1 ∙ ap some (nearest_one corrections {May = Among may n} (nearest_is n r.1) p)

  -- A wanted value that may stand is the one computed.
  pub nearest_kept : (n : ℕ) → w < n → may w ≡ true → nearest may w n ≡ some w
  nearest_kept n h m = nearest_found n (kept_nearest corrections {May = Among may n} (h, m))

-- The choice among the values that may stand, whichever way that is said.
pub nearest_may :
    (may : ℕ → Bool) (n : ℕ) (May : ℕ → Type 0) → ((z : ℕ) → Among may n z ↔ May z) → (wanted a : ℕ) →
    (nearest may wanted n ≡ some a) ↔ Nearest corrections May wanted a
nearest_may may n May e wanted a = (
  λ h. nearest_same corrections {May = Among may n} {Also = May} (λ z. (e z).0) (λ z. (e z).1) (nearest_is may wanted n h),
  λ h. nearest_found may wanted n (nearest_same corrections {May = May} {Also = Among may n} (λ z. (e z).1) (λ z. (e z).0) h),
)

-- The value computed is the same for two tests that agree below n.
pub nearest_ext : (may also : ℕ → Bool) (w n : ℕ) → ((z : ℕ) → z < n → may z ≡ also z) → nearest may w n ≡ nearest also w n
unfolding nearest
nearest_ext may also w zero f = refl
nearest_ext may also w (suc n) f =
    ap₂ (λ (t : Bool) (b : Option ℕ). better t w n b) (f n (lt-suc_self n)) (nearest_ext may also w n (λ z h. f z (omega arith)))

-- Of values below 2 ^ k the nearest is the same, whatever bits the wanted value has above.
pub nearest_high : (may : ℕ → Bool) (k q r n : ℕ) → r < 2 ^ k → n ≤ 2 ^ k → nearest may (q * 2 ^ k + r) n ≡ nearest may r n
unfolding nearest better
nearest_high may k q r zero l h = refl
nearest_high may k q r (suc n) l h = rw (nearest_high may k q r n l (omega arith)) (go (may n) (nearest may r n) refl)
  where
    go : (t : Bool) (b : Option ℕ) → nearest may r n ≡ b → better t (q * 2 ^ k + r) n b ≡ better t r n b
    go false b e = refl
    go true none e = refl
    go true (some a) e = let m = nearest_is may r n e in rw (nearer_high k q r n a l (omega arith) (omega (arith, m.may.0))) refl
