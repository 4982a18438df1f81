-- What the proofs of the matcher cite: a turn of each loop, and the rule that decides.
use mathlib.Core.Path.{◌≡◌, refl, ap}
use mathlib.Core.Bool.{Bool, true, false, ◌&&◌}
use mathlib.Core.List.{List}
use mathlib.Core.Option.{Option, none, some, map}
use Prim.Native.Nat.{ℕ, suc, ◌+◌, ◌-◌, ◌*◌, ◌≤◌, ◌<◌}
use native.Mathlib.Numerals.{add-one, unary_clauses}
use native.Mathlib.Omega.{arith}
use lib.ListN.{length, get_or, take, drop}
use lib.Seq.{drop-cons, get_or-take, length-take-le}
use Rattle.policy.specs.Rules.{Place, hold, within, fires}
use Rattle.policy.specs.File.{pair_at, bounds_from, rule_size, rule_from, rules_from}
use Rattle.streams.specs.Stream.{Event}
use Rattle.stepping.specs.Code.{decider}

-- The bounds from the clock i on hold for its value and those after it; a turn, and the end.
abbrev pub hold_from : List ℕ → ℕ → ℕ → List ℕ → ℕ → Bool
hold_from f at k vs i = hold (bounds_from f (at + 4 * i) (k - i)) (drop i (take k vs))

pub hold_turn : (f : List ℕ) (at k : ℕ) (vs : List ℕ) (i low high : ℕ) → i < k → k ≤ length vs → low ≡ pair_at f (at + 4 * i)
    → high ≡ pair_at f (at + 4 * i + 2)
    → hold_from f at k vs i ≡ (within (record { low = low; high = high }) (get_or vs i 0) && hold_from f at k vs (i + 1))
unfolding hold bounds_from
hold_turn f at k vs i low high l h p q =
    let e : k - i ≡ suc (k - (i + 1)) = omega arith in
    let m : i < length (take k vs) = omega (arith, length-take-le k vs h) in
    let s : at + 4 * i + 4 ≡ at + 4 * (i + 1) = omega arith in
    rw (p, q, e, drop-cons (take k vs) i 0, get_or-take, ← add-one i, s)

pub hold_end : (f : List ℕ) (at k : ℕ) (vs : List ℕ) (i : ℕ) → k ≤ i → hold_from f at k vs i ≡ true
unfolding hold bounds_from
hold_end f at k vs i l =
    let e : k - i ≡ 0 = omega arith in
    rw e

module _ (k : ℕ) (f : List ℕ) (s : Place) (e : Event) where
  -- The first that fires of the rules from the number i on, which stand from `at` on; n is the number of all.
  abbrev pub decider_from : ℕ → ℕ → ℕ → Option ℕ
  decider_from n at i = map (λ j. i + j) (decider (rules_from k f at (n - i)) s e)

  pub decider_start : (n at : ℕ) → decider (rules_from k f at n) s e ≡ decider_from n at 0
  decider_start n at = simp unary_clauses (go (decider (rules_from k f at n) s e))
    where
      go : (o : Option ℕ) → o ≡ map (λ j. 0 + j) o
      go none = refl
      go (some j) = ap some (omega arith)

  pub decider_here : (n at i : ℕ) → i < n → fires (rule_from k f at) s e ≡ true → decider_from n at i ≡ some i
  unfolding decider rules_from
  decider_here n at i l h =
      let m : n - i ≡ suc (n - (i + 1)) = omega arith in
      simp (m, h) (ap some (omega arith))

  pub decider_turn : (n at i : ℕ) → i < n → fires (rule_from k f at) s e ≡ false
      → decider_from n at i ≡ decider_from n (at + rule_size k) (i + 1)
  unfolding decider rules_from
  decider_turn n at i l h =
      let m : n - i ≡ suc (n - (i + 1)) = omega arith in
      simp (m, h) (go (decider (rules_from k f (at + rule_size k) (n - (i + 1))) s e))
    where
      go : (o : Option ℕ) → map (λ j. i + j) (map suc o) ≡ map (λ j. i + 1 + j) o
      go none = refl
      go (some j) = ap some (omega arith)

  pub decider_end : (n at i : ℕ) → n ≤ i → decider_from n at i ≡ none
  unfolding decider rules_from
  decider_end n at i l =
      let m : n - i ≡ 0 = omega arith in
      rw m
