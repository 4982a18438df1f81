-- Laws of the order of corrections, and of the test for it.
use Rattle.std.specs.Prelude.{◌≡◌, refl, ◌⊎◌, Bool, true, false, cond, ℕ, zero, suc, ◌+◌, ◌*◌, ◌/◌, ◌%◌, ◌^◌, ◌<◌, eqb, ltb}
use Rattle.std.proofs.Common.{sym, ap, ◌∙◌, subst, inl, inr, ⊎_elim, arith, ltb-true, ltb-false, eqb-true, eq-eqb, ne_eqb, lt-ltb, le-ltb}
use Rattle.std.proofs.lemmas.Bool.{false≢true, eqb-false}
use Rattle.std.specs.Int.Bits.{bit_xor, xor_zero_r, block_half, block_odd}
use Rattle.std.proofs.lemmas.Nat.{xor_block, xor_lt, ones_cat}
use Rattle.std.specs.Int.Count.{ones}
use Rattle.streams.specs.Nearness.{NoFarther, Spares, distance, nearer, signal, spares}
use Rattle.streams.specs.Ties.{here, later, spares_transitive}
use Rattle.streams.specs.Corrections.{corrections}

spares_true : (n w a b : ℕ) → spares n w a b ≡ true → Spares w a b
unfolding spares
spares_true zero w a b e = absurd (false≢true e)
spares_true (suc n) w a b e = go (spares n (w / 2) (a / 2) (b / 2)) (spares_true n (w / 2) (a / 2) (b / 2)) (eqb (a % 2) (b % 2)) refl e
  where
    go : (r : Bool) → (r ≡ true → Spares (w / 2) (a / 2) (b / 2)) → (t : Bool) → eqb (a % 2) (b % 2) ≡ t → cond t r (eqb (a % 2) (w % 2)) ≡ true → Spares w a b
    go r ih true d e = later (eqb-true (a % 2) (b % 2) d) (ih e)
    go r ih false d e = let h = eqb-true (a % 2) (w % 2) e in here h (λ k. eqb-false (a % 2) (b % 2) d (h ∙ sym k))

spares_false : (n w a b : ℕ) → a < 2 ^ n → b < 2 ^ n → spares n w a b ≡ false → (a ≡ b) ⊎ Spares w b a
unfolding spares
spares_false zero w a b h k e = inl (omega arith)
spares_false (suc n) w a b h k e =
    go (spares n (w / 2) (a / 2) (b / 2)) (spares_false n (w / 2) (a / 2) (b / 2) (omega arith) (omega arith)) (eqb (a % 2) (b % 2)) refl e
  where
    go : (r : Bool) → (r ≡ false → (a / 2 ≡ b / 2) ⊎ Spares (w / 2) (b / 2) (a / 2)) → (t : Bool) → eqb (a % 2) (b % 2) ≡ t →
        cond t r (eqb (a % 2) (w % 2)) ≡ false → (a ≡ b) ⊎ Spares w b a
    go r ih true d e =
        let f : a % 2 ≡ b % 2 = eqb-true (a % 2) (b % 2) d in
        ⊎_elim (λ (r : a / 2 ≡ b / 2). inl (omega arith)) (λ (p : Spares (w / 2) (b / 2) (a / 2)). inr (later (sym f) p)) (ih e)
    go r ih false d e =
        let f : a % 2 ≡ b % 2 → ⊥ = eqb-false (a % 2) (b % 2) d in
        let g : a % 2 ≡ w % 2 → ⊥ = eqb-false (a % 2) (w % 2) e in
        inr (here (omega arith) g)

below_power : (n : ℕ) → n < 2 ^ n
below_power zero = omega arith
below_power (suc n) = omega (arith, below_power n)

-- A value that is nearer than another is not that one.
pub nearer_apart : (w a b : ℕ) → nearer w a b ≡ true → a ≡ b → ⊥
unfolding nearer
nearer_apart w a b e d = go (eqb (distance w a) (distance w b)) refl e
  where
    same : distance w a ≡ distance w b
    same = ap (distance w) d

    go : (t : Bool) → eqb (distance w a) (distance w b) ≡ t → cond t (spares (a + b) w a b) (ltb (distance w a) (distance w b)) ≡ true → ⊥
    go true f e = let p = spares_true (a + b) w a b e in p.changed (subst (λ (z : ℕ). signal z p.at ≡ signal w p.at) d p.left)
    go false f e = eqb-false (distance w a) (distance w b) f same

-- If the test says that a is nearer than b, a is no farther than b in the order.
pub nearer_true : (w a b : ℕ) → nearer w a b ≡ true → corrections.NoFarther w a b
unfolding corrections nearer
nearer_true w a b e = go (eqb (distance w a) (distance w b)) refl e
  where
    go : (t : Bool) → eqb (distance w a) (distance w b) ≡ t → cond t (spares (a + b) w a b) (ltb (distance w a) (distance w b)) ≡ true → NoFarther w a b
    go true d e = inr (eqb-true (distance w a) (distance w b) d, inr (spares_true (a + b) w a b e))
    go false d e = inl (ltb-true (distance w a) (distance w b) e)

-- If it says that a is not nearer, b is no farther than a.
pub nearer_false : (w a b : ℕ) → nearer w a b ≡ false → corrections.NoFarther w b a
unfolding corrections nearer
nearer_false w a b e = go (eqb (distance w a) (distance w b)) refl e
  where
    go : (t : Bool) → eqb (distance w a) (distance w b) ≡ t → cond t (spares (a + b) w a b) (ltb (distance w a) (distance w b)) ≡ false → NoFarther w b a
    go true d e =
        let f : distance w a ≡ distance w b = eqb-true (distance w a) (distance w b) d in
        inr (
          sym f,
          ⊎_elim (λ (r : a ≡ b). inl (sym r)) (λ (p : Spares w b a). inr p)
              (spares_false (a + b) w a b (omega (arith, below_power (a + b))) (omega (arith, below_power (a + b))) e),
        )
    go false d e =
        let f : distance w a ≡ distance w b → ⊥ = eqb-false (distance w a) (distance w b) d in
        inl (omega (arith, ltb-false (distance w a) (distance w b) e))

-- Every value is no farther than itself.
pub corrections_reflexive : (w a : ℕ) → corrections.NoFarther w a a
unfolding corrections
corrections_reflexive w a = inr (refl, inl refl)

-- If a is no farther than b, and b no farther than c, a is no farther than c.
pub corrections_transitive : (w a b c : ℕ) → corrections.NoFarther w a b → corrections.NoFarther w b c → corrections.NoFarther w a c
unfolding corrections
corrections_transitive w a b c (inl p) (inl q) = inl (omega arith)
corrections_transitive w a b c (inl p) (inr q) = inl (omega arith)
corrections_transitive w a b c (inr p) (inl q) = inl (omega arith)
corrections_transitive w a b c (inr (d, inl e)) (inr q) = rw e (inr q)
corrections_transitive w a b c (inr (d, inr p)) (inr (f, inl e)) = rw (← e) (inr (d, inr p))
corrections_transitive w a b c (inr (d, inr p)) (inr (f, inr q)) = inr (d ∙ f, inr (spares_transitive p q))

-- Of any two values one is no farther than the other.
pub corrections_total : (w a b : ℕ) → corrections.NoFarther w a b ⊎ corrections.NoFarther w b a
corrections_total w a b = go (nearer w a b) refl
  where
    go : (t : Bool) → nearer w a b ≡ t → corrections.NoFarther w a b ⊎ corrections.NoFarther w b a
    go true e = inl (nearer_true w a b e)
    go false e = inr (nearer_false w a b e)

-- Bits of the wanted value above those that the values have decide nothing: they are as far from the one as from the other.
distance_high : (k q r a : ℕ) → r < 2 ^ k → a < 2 ^ k → distance (q * 2 ^ k + r) a ≡ ones q + distance r a
unfolding distance
distance_high k q r a l h =
    let e : 0 * 2 ^ k + a ≡ a = omega arith in
    ap ones (rw (e, xor_zero_r q) at (xor_block k q 0 r a l h)) ∙ ones_cat k q (bit_xor r a) (xor_lt k r a l h)

spares_same : (n w a : ℕ) → spares n w a a ≡ false
unfolding spares
spares_same zero w a = refl
spares_same (suc n) w a = rw (eq-eqb (a % 2) (a % 2) refl) (spares_same n (w / 2) (a / 2))

spares_high : (n k q r a b : ℕ) → a < 2 ^ k → b < 2 ^ k → spares n (q * 2 ^ k + r) a b ≡ spares n r a b
unfolding spares
spares_high zero k q r a b h l = refl
spares_high (suc n) zero q r a b h l =
    let e : a ≡ b = omega arith in
    rw (← e) (spares_same (suc n) (q * 1 + r) a ∙ sym (spares_same (suc n) r a))
spares_high (suc n) (suc k) q r a b h l =
    rw (block_half q k r, block_odd q k r, spares_high n k q (r / 2) (a / 2) (b / 2) (omega arith) (omega arith)) refl

eqb_plus : (c d e : ℕ) → eqb (c + d) (c + e) ≡ eqb d e
eqb_plus c d e = go (eqb d e) refl
  where
    go : (t : Bool) → eqb d e ≡ t → eqb (c + d) (c + e) ≡ t
    go true p = eq-eqb _ _ (ap (λ (z : ℕ). c + z) (eqb-true d e p))
    go false p = ne_eqb _ _ (λ (q : c + d ≡ c + e). eqb-false d e p (omega arith))

ltb_plus : (c d e : ℕ) → ltb (c + d) (c + e) ≡ ltb d e
ltb_plus c d e = go (ltb d e) refl
  where
    go : (t : Bool) → ltb d e ≡ t → ltb (c + d) (c + e) ≡ t
    go true p = lt-ltb (c + d) (c + e) (omega (arith, ltb-true d e p))
    go false p = le-ltb (c + d) (c + e) (omega (arith, ltb-false d e p))

-- Bits of the wanted value above those of a and b make no difference to the test.
pub nearer_high : (k q r a b : ℕ) → r < 2 ^ k → a < 2 ^ k → b < 2 ^ k → nearer (q * 2 ^ k + r) a b ≡ nearer r a b
unfolding nearer
nearer_high k q r a b l h m =
    rw (
      distance_high k q r a l h,
      distance_high k q r b l m,
      eqb_plus (ones q) (distance r a) (distance r b),
      ltb_plus (ones q) (distance r a) (distance r b),
      spares_high (a + b) k q r a b h m,
    ) refl
