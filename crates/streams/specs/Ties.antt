-- Of two corrections one is nearer, and no two tie.
use Rattle.std.specs.Prelude.{◌≡◌, refl}
use Rattle.std.proofs.Common.{sym, ap, ◌∙◌, subst, inl, inr, ⊎_elim, eq-or-lt_of_le, eq-zero-or-pos, le_of_suc-le-suc, not-suc-le-zero, arith}
use Rattle.std.proofs.Math.Logic.{dite}
use Prim.Native.Nat.{ℕ, zero, suc, ◌/◌, ◌%◌, ◌≤◌, ◌<◌}
use Rattle.std.proofs.Math.Decide.{dec_le}
use Rattle.std.proofs.Math.Arith.{bin_ind}
use Rattle.std.specs.Int.Bits.{bit_xor, xor_self, xor_add_and}
use Rattle.std.proofs.lemmas.Nat.{and_le_l, and_le_r}
use Rattle.std.specs.Int.Count.{ones_in, ones, ones_step}
use Rattle.streams.specs.Nearness.{NoFarther, Spares, distance, signal}

distance_self : (w : ℕ) → distance w w ≡ 0
unfolding distance ones ones_in
distance_self w = ap ones (xor_self w)

no_ones : (n : ℕ) → ones n ≡ 0 → n ≡ 0
no_ones =
    bin_ind (λ (n : ℕ). ones n ≡ 0 → n ≡ 0) (λ e. refl)
    (λ n ih e. let h : n / 2 ≡ 0 = ih (omega (arith, ones_step n)) in omega (arith, ones_step n))

distance_none : (w a : ℕ) → distance w a ≡ 0 → w ≡ a
unfolding distance
distance_none w a e = omega (arith, no_ones (bit_xor w a) e, xor_add_and w a, and_le_l w a, and_le_r w a)

module _ {w a b : ℕ} where
  not_later : (p : Spares w a b) (q : Spares w b a) → p.at ≤ q.at → ⊥
  not_later p q h =
      ⊎_elim (λ (e : p.at ≡ q.at). q.changed (subst (λ (i : ℕ). signal a i ≡ signal w i) e p.left))
      (λ (l : p.at < q.at). p.changed (q.before p.at l ∙ p.left)) (eq-or-lt_of_le h)

  -- a leaves the first signal as it is wanted, and b does not: a wins.
  pub here : a % 2 ≡ w % 2 → (b % 2 ≡ w % 2 → ⊥) → Spares w a b
  unfolding signal
  here h d = record { at = 0; before = λ i l. absurd (not-suc-le-zero l); left = h; changed = d }

  -- Both give the first signal the same, so the others decide.
  pub later : a % 2 ≡ b % 2 → Spares (w / 2) (a / 2) (b / 2) → Spares w a b
  unfolding signal
  later e p = record { at = suc p.at; before = go; left = p.left; changed = p.changed }
    where
      go : (i : ℕ) → i < suc p.at → signal a i ≡ signal b i
      go zero l = e
      go (suc i) l = p.before i (le_of_suc-le-suc l)

not_both : {w a b : ℕ} → Spares w a b → Spares w b a → ⊥
not_both p q = dite (dec_le p.at q.at) (not_later p q) (λ h. not_later q p (omega arith))

-- If a wins over b at the first signal in which they differ, and b over c, a wins over c.
pub spares_transitive : {w a b c : ℕ} → Spares w a b → Spares w b c → Spares w a c
spares_transitive {w} {a} {b} {c} p q = dite (dec_le q.at p.at) no_later (λ h. sooner (omega arith))
  where
    sooner : p.at < q.at → Spares w a c
    sooner h =
        record {
          at = p.at;
          before = λ i l. p.before i l ∙ q.before i (omega arith);
          left = p.left;
          changed = λ e. p.changed (q.before p.at h ∙ e);
        }

    no_later : q.at ≤ p.at → Spares w a c
    no_later h =
        ⊎_elim (λ (e : q.at ≡ p.at). absurd (p.changed (subst (λ (i : ℕ). signal b i ≡ signal w i) e q.left)))
        (λ (l : q.at < p.at).
        record {
          at = q.at;
          before = λ i k. p.before i (omega arith) ∙ q.before i k;
          left = p.before q.at l ∙ q.left;
          changed = q.changed;
        })
        (eq-or-lt_of_le h)

-- Two values, each no farther than the other, are one.
pub no_tie : (w a b : ℕ) → NoFarther w a b → NoFarther w b a → a ≡ b
no_tie w a b (inl p) (inl q) = absurd (omega arith)
no_tie w a b (inl p) (inr q) = absurd (omega arith)
no_tie w a b (inr p) (inl q) = absurd (omega arith)
no_tie w a b (inr (d, inl e)) (inr q) = e
no_tie w a b (inr (d, inr p)) (inr (f, inl e)) = sym e
no_tie w a b (inr (d, inr p)) (inr (f, inr q)) = absurd (not_both p q)

-- The wanted value is no farther than any other.
pub wanted_first : (w a : ℕ) → NoFarther w w a
wanted_first w a =
    ⊎_elim (λ (e : distance w a ≡ 0). inr (distance_self w ∙ sym e, inl (distance_none w a e)))
    (λ (l : 0 < distance w a). inl (omega (arith, distance_self w)))
    (eq-zero-or-pos (distance w a))
