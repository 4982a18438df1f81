-- The reason for an input, output by output: of the reasons so far, and that of one output more, the one that goes first.
-- In order: which of two reasons goes first (`better`); that it is right with one output more, by what that output does; the lowest output alone.
use Rattle.std.specs.Prelude.{◌≡◌, ℕ, suc, ◌≤◌, ◌<◌, max}
use Rattle.std.proofs.Common.{sym, ap, subst, ◌∙◌, arith}
use Rattle.std.proofs.Math.Logic.{by_cases}
use Rattle.std.proofs.Math.Option.{Option, none, some, none-ne-some, some-injective}
use Rattle.std.proofs.Math.Decide.{ℕ_discrete, dec_lt}
use Rattle.policy.specs.Rules.{Policy, Place, unlimited, step}
use Rattle.stepping.specs.Code.{event_xy}
use Rattle.explaining.specs.Reasons.{Reason, kept, rule, unmatched, ticks, rests, kind_of, count_of, Lasting, SaysWhy, by_rule, by_none, by_ticks, by_rests, SaysIn, most_rests, most_ticks, at_once, not_lasting, rule_stops, none_stops, says_one, ticks_next, rests_next}

-- A count of rests goes before all else, and the greater of two stands.
abbrev pub with_rests : ℕ → Reason → Reason
with_rests j kept = rests j
with_rests j (rule i) = rests j
with_rests j unmatched = rests j
with_rests j (ticks k) = rests j
with_rests j (rests k) = rests (max j k)

-- A count of ticks goes before a rule or none, and the greater of two stands; a count of rests stays.
abbrev pub with_ticks : ℕ → Reason → Reason
with_ticks j kept = ticks j
with_ticks j (rule i) = ticks j
with_ticks j unmatched = ticks j
with_ticks j (ticks k) = ticks (max j k)
with_ticks j (rests k) = rests k

-- Rests go before ticks, these before a rule or none, the greater count before the smaller; else the first stays.
abbrev pub better : Reason → Reason → Reason
better r kept = r
better r (rule i) = r
better r unmatched = r
better r (ticks j) = with_ticks j r
better r (rests j) = with_rests j r

-- The number of the one that goes first is below each bound that both numbers are below.
rests_few : {m : ℕ} (j : ℕ) (r : Reason) → j < m → count_of r < m → count_of (with_rests j r) < m
rests_few j kept h g = h
rests_few j (rule i) h g = h
rests_few j unmatched h g = h
rests_few j (ticks k) h g = h
rests_few j (rests k) h g = omega arith

ticks_few : {m : ℕ} (j : ℕ) (r : Reason) → j < m → count_of r < m → count_of (with_ticks j r) < m
ticks_few j kept h g = h
ticks_few j (rule i) h g = h
ticks_few j unmatched h g = h
ticks_few j (ticks k) h g = omega arith
ticks_few j (rests k) h g = g

-- The same of `better`.
pub better_few : {m : ℕ} (b r : Reason) → count_of b < m → count_of r < m → count_of (better b r) < m
better_few b kept h g = h
better_few b (rule i) h g = h
better_few b unmatched h g = h
better_few b (ticks j) h g = ticks_few j b g h
better_few b (rests j) h g = rests_few j b g h

-- An output below suc n is below n, or is n.
last : (n : ℕ) (P : ℕ → Type 0) → ((z : ℕ) → z < n → P z) → P n → (z : ℕ) → z < suc n → P z
last n P f h z l = by_cases (ℕ_discrete z n) (λ (e : z ≡ n). subst P (sym e) h) (λ ne. f z (omega arith))

clash : {d : Option Place} {t : Place} → d ≡ none → d ≡ some t → ⊥
clash {t = t} a b = none-ne-some t (sym a ∙ b)

module _ {p : Policy} {s : Place} {x : ℕ} where
  -- One event has one number of one kind.
  ticks_least : {z k j : ℕ} → SaysWhy p s (event_xy x z) (ticks k) → SaysWhy p s (event_xy x z) (ticks j) → j ≤ k
  ticks_least a b = omega (arith, ap count_of (says_one a b))

  rests_least : {z k j : ℕ} → SaysWhy p s (event_xy x z) (rests k) → SaysWhy p s (event_xy x z) (rests j) → j ≤ k
  rests_least a b = omega (arith, ap count_of (says_one a b))

  not_both_kinds : {z k j : ℕ} → SaysWhy p s (event_xy x z) (ticks k) → SaysWhy p s (event_xy x z) (rests j) → ⊥
  not_both_kinds a b = omega (arith, ap kind_of (says_one a b))

  -- After an event that has a count of ticks the stream does not go on for ever.
  ticks_last : {z k : ℕ} → SaysWhy p s (event_xy x z) (ticks k) → (t : Place) → step unlimited p s (event_xy x z) ≡ some t → Lasting p t → ⊥
  ticks_last g t q l =
      let a = ticks_next g in
      not_lasting a.2 (subst (Lasting p) (some-injective t a.0 (sym q ∙ a.1)) l)

module _ {p : Policy} {s : Place} {n x : ℕ} where
  -- The output n is a violation: the reason so far stays.
  more_stop : {b : Reason} → SaysIn p s n x b → step unlimited p s (event_xy x n) ≡ none → SaysIn p s (suc n) x b
  more_stop (most_rests {k = k} {y = y} l h m) q =
      most_rests {y = y} (omega arith) h
      (λ z j i. last n (λ z. (j : ℕ) → SaysWhy p s (event_xy x z) (rests j) → j ≤ k) (λ z i j. m z j i) (λ j g. absurd (clash q (rests_next g).1)) z i j)
  more_stop (most_ticks {k = k} {y = y} l h m f) q =
      most_ticks {y = y} (omega arith) h
      (λ z j i. last n (λ z. (j : ℕ) → SaysWhy p s (event_xy x z) (ticks j) → j ≤ k) (λ z i j. m z j i) (λ j g. absurd (clash q (ticks_next g).1)) z i j)
      (λ z t i. last n (λ z. (t : Place) → step unlimited p s (event_xy x z) ≡ some t → Lasting p t → ⊥) (λ z i t. f z t i) (λ t e. absurd (clash q e)) z i t)
  more_stop (at_once f w) q = at_once (last n (λ z. step unlimited p s (event_xy x z) ≡ none) f q) w

  -- The output n has a count of ticks, and all lower outputs are violations: that count is the reason.
  first_ticks : {j : ℕ} → ((z : ℕ) → z < n → step unlimited p s (event_xy x z) ≡ none) → SaysWhy p s (event_xy x n) (ticks j) → SaysIn p s (suc n) x (ticks j)
  first_ticks {j} f g =
      most_ticks {y = n} (omega arith) g
      (λ z i l. last n (λ z. (i : ℕ) → SaysWhy p s (event_xy x z) (ticks i) → i ≤ j) (λ z l i h. absurd (clash (f z l) (ticks_next h).1)) (λ i h. ticks_least g h) z l i)
      (λ z t l. last n (λ z. (t : Place) → step unlimited p s (event_xy x z) ≡ some t → Lasting p t → ⊥) (λ z l t e. absurd (clash (f z l) e)) (ticks_last g) z l t)

  more_ticks : {b : Reason} {j : ℕ} → 0 < n → SaysIn p s n x b → SaysWhy p s (event_xy x n) (ticks j) → SaysIn p s (suc n) x (with_ticks j b)
  more_ticks o (most_rests {k = k} {y = y} l h m) g =
      most_rests {y = y} (omega arith) h
      (λ z i l. last n (λ z. (i : ℕ) → SaysWhy p s (event_xy x z) (rests i) → i ≤ k) (λ z l i. m z i l) (λ i r. absurd (not_both_kinds g r)) z l i)
  more_ticks {j = j} o (most_ticks {k = k} {y = y} l h m f) g = most_ticks {y = best.0} best.1 best.2 most lasting
    where
      best : (z : ℕ) × (z < suc n) × SaysWhy p s (event_xy x z) (ticks (max j k))
      best =
          by_cases (dec_lt k j) (λ u. (n, omega arith, subst (λ (i : ℕ). SaysWhy p s (event_xy x n) (ticks i)) (omega arith) g))
          (λ u. (y, omega arith, subst (λ (i : ℕ). SaysWhy p s (event_xy x y) (ticks i)) (omega arith) h))

      most : (z i : ℕ) → z < suc n → SaysWhy p s (event_xy x z) (ticks i) → i ≤ max j k
      most z i u =
          last n (λ z. (i : ℕ) → SaysWhy p s (event_xy x z) (ticks i) → i ≤ max j k) (λ z u i r. omega (arith, m z i u r)) (λ i r. omega (arith, ticks_least g r)) z u i

      lasting : (z : ℕ) (t : Place) → z < suc n → step unlimited p s (event_xy x z) ≡ some t → Lasting p t → ⊥
      lasting z t u = last n (λ z. (t : Place) → step unlimited p s (event_xy x z) ≡ some t → Lasting p t → ⊥) (λ z u t. f z t u) (ticks_last g) z u t
  more_ticks o (at_once f (by_rule i d t)) g = first_ticks f g
  more_ticks o (at_once f (by_none d)) g = first_ticks f g
  more_ticks o (at_once f (by_ticks e t)) g = absurd (clash (f 0 o) e)
  more_ticks o (at_once f (by_rests e t)) g = absurd (clash (f 0 o) e)

  -- The output n has a count of rests, and no lower one has: that count is the reason.
  first_rests : {j : ℕ} → ((z i : ℕ) → z < n → SaysWhy p s (event_xy x z) (rests i) → ⊥) → SaysWhy p s (event_xy x n) (rests j) → SaysIn p s (suc n) x (rests j)
  first_rests {j} f g =
      most_rests {y = n} (omega arith) g
      (λ z i l. last n (λ z. (i : ℕ) → SaysWhy p s (event_xy x z) (rests i) → i ≤ j) (λ z l i h. absurd (f z i l h)) (λ i h. rests_least g h) z l i)

  more_rests : {b : Reason} {j : ℕ} → 0 < n → SaysIn p s n x b → SaysWhy p s (event_xy x n) (rests j) → SaysIn p s (suc n) x (with_rests j b)
  more_rests {j = j} o (most_rests {k = k} {y = y} l h m) g = most_rests {y = best.0} best.1 best.2 most
    where
      best : (z : ℕ) × (z < suc n) × SaysWhy p s (event_xy x z) (rests (max j k))
      best =
          by_cases (dec_lt k j) (λ u. (n, omega arith, subst (λ (i : ℕ). SaysWhy p s (event_xy x n) (rests i)) (omega arith) g))
          (λ u. (y, omega arith, subst (λ (i : ℕ). SaysWhy p s (event_xy x y) (rests i)) (omega arith) h))

      most : (z i : ℕ) → z < suc n → SaysWhy p s (event_xy x z) (rests i) → i ≤ max j k
      most z i u =
          last n (λ z. (i : ℕ) → SaysWhy p s (event_xy x z) (rests i) → i ≤ max j k) (λ z u i r. omega (arith, m z i u r)) (λ i r. omega (arith, rests_least g r)) z u i
  more_rests o (most_ticks l h m f) g = first_rests (λ z i u r. let a = rests_next r in f z a.0 u a.1 a.2.lasts) g
  more_rests o (at_once f (by_rule i d t)) g = first_rests (λ z i u r. clash (f z u) (rests_next r).1) g
  more_rests o (at_once f (by_none d)) g = first_rests (λ z i u r. clash (f z u) (rests_next r).1) g
  more_rests o (at_once f (by_ticks e t)) g = absurd (clash (f 0 o) e)
  more_rests o (at_once f (by_rests e t)) g = absurd (clash (f 0 o) e)

  -- One output more: the reason for the input is the better of the two.
  pub best_more : {b r : Reason} → 0 < n → SaysIn p s n x b → SaysWhy p s (event_xy x n) r → SaysIn p s (suc n) x (better b r)
  best_more o h (by_rule i d t) = more_stop h (rule_stops p s (event_xy x n) d t)
  best_more o h (by_none d) = more_stop h (none_stops p s (event_xy x n) d)
  best_more o h (by_ticks e t) = more_ticks o h (by_ticks e t)
  best_more o h (by_rests e t) = more_rests o h (by_rests e t)

-- The lowest output alone.
module _ {p : Policy} {s : Place} {x : ℕ} where
  -- With the lowest output alone, the reason for the input is that of the event.
  pub best_first : {r : Reason} → SaysWhy p s (event_xy x 0) r → SaysIn p s 1 x r
  best_first (by_rule i d t) = at_once (last 0 (λ z. step unlimited p s (event_xy x z) ≡ none) (λ z l. absurd (omega arith)) (rule_stops p s (event_xy x 0) d t)) (by_rule i d t)
  best_first (by_none d) = at_once (last 0 (λ z. step unlimited p s (event_xy x z) ≡ none) (λ z l. absurd (omega arith)) (none_stops p s (event_xy x 0) d)) (by_none d)
  best_first (by_ticks e t) = first_ticks {n = 0} (λ z l. absurd (omega arith)) (by_ticks e t)
  best_first (by_rests e t) = first_rests {n = 0} (λ z i l. absurd (omega arith)) (by_rests e t)
