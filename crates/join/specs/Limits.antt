-- 13: how many states a join has, and when it is over a limit.
use Rattle.std.specs.Prelude.{◌≡◌, Bool, true, false, ◌&&◌, List, ◌++◌, ◌⊎◌, ◌↔◌, leb}
use Rattle.std.proofs.Math.Path.{refl}
use Rattle.std.proofs.Common.{⊎_elim, mul_assoc, mul_right_comm, length-append, leb-true, leb-false}
use Prim.Native.Nat.{ℕ, zero, suc, ◌+◌, ◌*◌, ◌≤◌, ◌<◌}
use native.Mathlib.Omega.{arith}
use Rattle.std.proofs.Math.ListN.{length, get_or, get_or-append}
use Rattle.std.proofs.Math.Seq.{get_or-append-add}
use Rattle.std.proofs.lemmas.Bool.{lt-leb}
use Rattle.policy.specs.Rules.{Policy}
use Rattle.policy.specs.Number.{values, states_of, states}
use Rattle.pairing.specs.Join.{join}
use Rattle.join.specs.Entry.{join_fits}

-- The join has as many states as A has, times as many as B has.
module _ (cs ds : List ℕ) (l n : ℕ) where
  states_first : (k : ℕ) → k ≤ length cs → states_of (cs ++ ds) k (l * n) ≡ states_of cs k l * n
  unfolding states_of
  states_first zero h = refl
  states_first (suc k) h =
      let e : get_or (cs ++ ds) k 0 ≡ get_or cs k 0 = get_or-append cs ds 0 k h in
      rw (states_first k (omega arith), e) (mul_right_comm (states_of cs k l) n (values cs k))

  states_both : (j : ℕ) → states_of (cs ++ ds) (length cs + j) (l * n) ≡ states_of cs (length cs) l * states_of ds j n
  unfolding states_of
  states_both zero =
      let e : length cs + 0 ≡ length cs = omega arith in rw e (states_first (length cs) (omega arith))
  states_both (suc j) =
      let s : length cs + suc j ≡ suc (length cs + j) = omega arith in
      rw (s, states_both j, get_or-append-add cs ds j 0) (mul_assoc (states_of cs (length cs) l) (states_of ds j n) (values ds j))

-- The number of the join's states is the product of those of its parts.
pub states_join : (a b : Policy) → states (join a b) ≡ states a * states b
unfolding join
states_join a b = rw (length-append a.ceilings b.ceilings) (states_both a.ceilings b.ceilings a.locations b.locations (length b.ceilings))

-- One limit and then the others.
one_over : (n limit : ℕ) (rest : Bool) {Over : Type 0} → ((rest ≡ false) ↔ Over) → ((leb n limit && rest) ≡ false) ↔ ((limit < n) ⊎ Over)
one_over n limit rest {Over} h = go (leb n limit) refl
  where
    go : (t : Bool) → leb n limit ≡ t → ((t && rest) ≡ false) ↔ ((limit < n) ⊎ Over)
    go false e = (λ z. ◌⊎◌.inl (leb-false n limit e), λ z. refl)
    go true e = (λ z. ◌⊎◌.inr (h.0 z), ⊎_elim (λ (o : limit < n). absurd (omega (arith, leb-true n limit e))) h.1)

-- 13 is given exactly if "a join has over 64 locations, 4 clocks, 256 rules or 65,536 states".
pub over_limits : (p : Policy) →
    (join_fits p ≡ false) ↔ ((64 < p.locations) ⊎ ((4 < length p.ceilings) ⊎ ((256 < length p.rules) ⊎ (65536 < states p))))
unfolding join_fits
over_limits p =
    one_over p.locations 64 _
    (one_over (length p.ceilings) 4 _ (one_over (length p.rules) 256 _ (leb-false (states p) 65536, lt-leb (states p) 65536)))
