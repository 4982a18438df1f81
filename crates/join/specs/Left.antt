-- The location bytes of the join: "a joined stream rests only where all parts rest together".
use Rattle.std.specs.Prelude.{◌≡◌, Bool, cond, ◌&&◌, [], ◌∷◌, ◌++◌}
use Rattle.std.proofs.Math.Path.{refl, ap}
use Rattle.std.proofs.Common.{◌∙◌}
use Rattle.std.proofs.Math.Bool.{true, false}
use Prim.Native.Nat.{ℕ, zero, suc, ◌+◌, ◌*◌, ◌/◌, ◌%◌, ◌<◌}
use native.Mathlib.Omega.{arith}
use Rattle.std.proofs.Math.Arith.{digits_lt, digits_div, digits_mod}
use Rattle.std.proofs.Math.Dec.{ltb, eqb}
use Rattle.std.proofs.Math.ListN.{length, get_or, length-append, get_or-append}
use Rattle.std.proofs.Math.Seq.{get_or-append-add}
use borrow.Author.Tests.{ltb-true, ltb-false}
use Rattle.policy.specs.Rules.{Policy, Place, rests}
use Rattle.policy.specs.Check.{all_pass, location_good}
use Rattle.policy.specs.Sound.{In}
use Rattle.policy.specs.Checked.{all_append}
use Rattle.pairing.specs.Join.{left_at, left_below, join, beside}

-- A byte of the join is 0 or 1, and 0 at rest.
bit_good : (t : Bool) → location_good (cond t 0 1) ≡ true
bit_good true = refl
bit_good false = refl

bit_rests : (t : Bool) → eqb (cond t 0 1) 0 ≡ t
bit_rests true = refl
bit_rests false = refl

rests_is : (p : Policy) (k : ℕ) → rests p k ≡ eqb (get_or p.left k 0) 0
unfolding rests
rests_is p k = refl

module _ (a b : Policy) where
  -- There is a location byte for each of the first m pairs.
  pub left_length : (m : ℕ) → length (left_below a b m) ≡ m
  unfolding left_below
  left_length zero = refl
  left_length (suc m) = omega (arith, length-append (left_below a b m) (left_at a b m ∷ []), left_length m)

  left-at : (m k : ℕ) → k < m → get_or (left_below a b m) k 0 ≡ left_at a b k
  unfolding left_below
  left-at zero k h = absurd (omega arith)
  left-at (suc m) k h = go (left-at m k) (ltb k m) refl
    where
      go : (k < m → get_or (left_below a b m) k 0 ≡ left_at a b k) → (t : Bool) → ltb k m ≡ t →
          get_or (left_below a b m ++ (left_at a b m ∷ [])) k 0 ≡ left_at a b k
      go ih true e =
          let l : k < m = ltb-true k m e in
          get_or-append (left_below a b m) (left_at a b m ∷ []) 0 k (omega (arith, left_length m)) ∙ ih l
      go ih false e =
          let l = ltb-false k m e in
          let s : k ≡ m = omega arith in
          let n : m ≡ length (left_below a b m) + 0 = omega (arith, left_length m) in
          ap (λ (z : ℕ). get_or (left_below a b m ++ (left_at a b m ∷ [])) z 0) (s ∙ n)
          ∙ get_or-append-add (left_below a b m) (left_at a b m ∷ []) 0 0
          ∙ rw s

  -- Each location byte of the join is 0 or 1, so 5 is not given.
  pub left_good : (m : ℕ) → all_pass location_good (left_below a b m) ≡ true
  unfolding left_below left_at all_pass
  left_good zero = refl
  left_good (suc m) =
      all_append location_good (left_below a b m) (left_at a b m ∷ []) (left_good m)
      (rw (bit_good (rests a (m / b.locations) && rests b (m % b.locations))))

  -- A pair rests exactly where both its parts rest.
  rests_pair : (k : ℕ) → k < a.locations * b.locations → rests (join a b) k ≡ (rests a (k / b.locations) && rests b (k % b.locations))
  unfolding join left_at
  rests_pair k h =
      rests_is (join a b) k
      ∙ ap (λ (z : ℕ). eqb z 0) (left-at (a.locations * b.locations) k h)
      ∙ bit_rests (rests a (k / b.locations) && rests b (k % b.locations))

  -- Two places side by side rest exactly if both do.
  pub rests_beside : (s t : Place) → In a s → In b t →
      rests (join a b) (beside b.locations s t).location ≡ (rests a s.location && rests b t.location)
  unfolding beside
  rests_beside s t p q =
      rests_pair (s.location * b.locations + t.location) (digits_lt p.location q.location)
      ∙ rw (digits_div s.location q.location, digits_mod s.location q.location)
