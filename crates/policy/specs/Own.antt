-- A location's own rules stand together: "Sources never fall from one rule to the next."
use Rattle.std.specs.Prelude.{◌≡◌, Bool, cond, ℕ, zero, suc, ◌+◌, ◌-◌, ◌*◌, ◌≤◌, ◌<◌, length, take, drop}
use Rattle.std.proofs.Math.Path.{refl, sym, ap}
use Rattle.std.proofs.Common.{◌∙◌, mul-le-mul_right, length-take-le}
use Rattle.std.proofs.Math.Bool.{true, false}
use mathlib.Core.List.{List, [], ◌∷◌}
use Rattle.std.proofs.Math.Option.{some}
use native.Mathlib.Omega.{arith}
use Rattle.std.proofs.Math.Dec.{ltb}
use borrow.Author.Tests.{lt-ltb, le-ltb, ltb-true, ltb-false, ne_eqb}
use Rattle.streams.specs.Stream.{Event}
use Rattle.policy.specs.Rules.{Rule, Place, fires, decides}
use Rattle.policy.specs.File.{byte_at, part, rule_from, rules_from, rule_size}
use Rattle.policy.specs.Sound.{Each, each_none, each_more}
use Rattle.policy.specs.Frame.{rules_length}
use Rattle.policy.specs.Checked.{Rising, rising_none, rising_more}
use Rattle.policy.specs.Parts.{rules_part, rules_take, rules_drop, next_rule}
use Rattle.policy.specs.declared.own.Own.{Own}

-- How many rules at the front have a source below the location.
unfoldable pub below : ℕ → List Rule → ℕ
below a [] = 0
below a (r ∷ rs) = cond (ltb r.source a) (suc (below a rs)) 0

-- The rules of the location a: behind those below it, the ones below the next location.
unfoldable pub own : ℕ → List Rule → List Rule
own a rs = take (below (a + 1) (drop (below a rs) rs)) (drop (below a rs) rs)

-- Where they start, in bytes, and how many they are.
abbrev pub own_of : ℕ → ℕ → List Rule → Own
own_of clocks a rs = record { start = below a rs * rule_size clocks; count = below (a + 1) (drop (below a rs) rs) }

-- They are no more than there are rules.
pub below_le : (a : ℕ) (rs : List Rule) → below a rs ≤ length rs
unfolding below
below_le a [] = omega arith
below_le a (r ∷ rs) = go (ltb r.source a) (below_le a rs)
  where
    go : (t : Bool) → below a rs ≤ length rs → cond t (suc (below a rs)) 0 ≤ suc (length rs)
    go true h = omega arith
    go false h = omega arith

-- As many rules as `own_of` says.
pub own_length : (a : ℕ) (rs : List Rule) → length (own a rs) ≡ below (a + 1) (drop (below a rs) rs)
unfolding own
own_length a rs = length-take-le _ _ (below_le (a + 1) (drop (below a rs) rs))

below_both : (a : ℕ) (rs : List Rule) → below (a + 1) rs ≡ below a rs + below (a + 1) (drop (below a rs) rs)
unfolding below
below_both a [] = refl
below_both a (r ∷ rs) = go (ltb r.source a) refl (below_both a rs)
  where
    go : (t : Bool) → ltb r.source a ≡ t → below (a + 1) rs ≡ below a rs + below (a + 1) (drop (below a rs) rs) →
        below (a + 1) (r ∷ rs) ≡ cond t (suc (below a rs)) 0 + below (a + 1) (drop (cond t (suc (below a rs)) 0) (r ∷ rs))
    go true e ih = rw (lt-ltb r.source (a + 1) (omega (arith, ltb-true r.source a e))) (omega arith)
    go false e ih = omega arith

-- The rules below the next location are those below this one, and its own.
pub below_next : (a : ℕ) (rs : List Rule) → below (a + 1) rs ≡ below a rs + length (own a rs)
below_next a rs = rw (own_length a rs) (below_both a rs)

-- Together they are no more than there are rules.
pub own_le : (a : ℕ) (rs : List Rule) → below a rs + length (own a rs) ≤ length rs
own_le a rs = omega (arith, below_next a rs, below_le (a + 1) rs)

-- No rule is below the first location.
pub below_first : (rs : List Rule) → below 0 rs ≡ 0
unfolding below
below_first [] = refl
below_first (r ∷ rs) = rw (le-ltb r.source 0 (omega arith))

-- Before the rules of a later location stand no fewer.
pub below_rises : (rs : List Rule) {a b : ℕ} → a ≤ b → below a rs ≤ below b rs
unfolding below
below_rises [] l = omega arith
below_rises (r ∷ rs) {a} {b} l = go (ltb r.source a) refl (below_rises rs l)
  where
    go : (t : Bool) → ltb r.source a ≡ t → below a rs ≤ below b rs → cond t (suc (below a rs)) 0 ≤ cond (ltb r.source b) (suc (below b rs)) 0
    go true e h = rw (lt-ltb r.source b (omega (arith, ltb-true r.source a e))) (omega arith)
    go false e h = omega arith

each_take : {P : Rule → Type 0} (n : ℕ) {rs : List Rule} → Each P rs → Each P (take n rs)
each_take zero h = each_none
each_take (suc n) each_none = each_none
each_take (suc n) (each_more p h) = each_more p (each_take n h)

each_drop : {P : Rule → Type 0} (n : ℕ) {rs : List Rule} → Each P rs → Each P (drop n rs)
each_drop zero h = h
each_drop (suc n) each_none = each_none
each_drop (suc n) (each_more p h) = each_drop n h

-- What each rule is, each of the location's own is.
pub each_own : {P : Rule → Type 0} (a : ℕ) {rs : List Rule} → Each P rs → Each P (own a rs)
unfolding own
each_own a {rs} h = each_take (below (a + 1) (drop (below a rs) rs)) (each_drop (below a rs) h)

-- Where sources never fall.
module _ (a : ℕ) where
  -- Behind the rules below a location none is below it.
  pub rising_from : {b : ℕ} {rs : List Rule} → Rising b rs → Rising a (drop (below a rs) rs)
  unfolding below
  rising_from rising_none = rising_none
  rising_from (rising_more {r = r} {rs = rs} h k) = go (ltb r.source a) refl (rising_from k)
    where
      go : (t : Bool) → ltb r.source a ≡ t → Rising a (drop (below a rs) rs) → Rising a (drop (cond t (suc (below a rs)) 0) (r ∷ rs))
      go true e ih = ih
      go false e ih = rising_more (ltb-false _ _ e) k

  sources : {b : ℕ} {rs : List Rule} → a ≤ b → Rising b rs → Each (λ r. r.source ≡ a) (take (below (a + 1) rs) rs)
  unfolding below
  sources l rising_none = each_none
  sources l (rising_more {r = r} {rs = rs} h k) = let m : a ≤ r.source = omega arith in go m (ltb r.source (a + 1)) refl (sources m k)
    where
      go : a ≤ r.source → (t : Bool) → ltb r.source (a + 1) ≡ t → Each (λ r. r.source ≡ a) (take (below (a + 1) rs) rs) →
          Each (λ r. r.source ≡ a) (take (cond t (suc (below (a + 1) rs)) 0) (r ∷ rs))
      go m true e ih = each_more {r = r} (omega (arith, ltb-true r.source (a + 1) e)) ih
      go m false e ih = each_none

  -- Its own rules have it for their source.
  pub own_sources : {b : ℕ} {rs : List Rule} → Rising b rs → Each (λ r. r.source ≡ a) (own a rs)
  unfolding own
  own_sources k = sources (omega arith) (rising_from k)

-- One rule more, as a loop over the bytes meets it: i rules of `count` are passed, and the next stands at `at`.
module _ (clocks : ℕ) (f : List ℕ) (at i count : ℕ) (more : i < count) where
  -- It is below the location, so the count goes on.
  pub below_more : (a : ℕ) → byte_at f at < a →
      i + 1 + below a (rules_from clocks f (at + rule_size clocks) (count - (i + 1))) ≡ i + below a (rules_from clocks f at (count - i))
  unfolding below rule_from
  below_more a h = rw (next_rule clocks f at count i more, lt-ltb (byte_at f at) a h) (omega arith)

  -- It is not, and the count ends.
  pub below_done : (a : ℕ) → a ≤ byte_at f at → below a (rules_from clocks f at (count - i)) ≡ 0
  unfolding below rule_from
  below_done a h = rw (next_rule clocks f at count i more, le-ltb (byte_at f at) a h)

  -- What each rule is that is left, the next is, and each after it.
  pub each_next : {P : Rule → Type 0} → Each P (rules_from clocks f at (count - i)) →
      P (rule_from clocks f at) × Each P (rules_from clocks f (at + rule_size clocks) (count - (i + 1)))
  each_next {P} h = split (rw (next_rule clocks f at count i more) at h)
    where
      split : {r : Rule} {rs : List Rule} → Each P (r ∷ rs) → P r × Each P rs
      split (each_more p k) = (p, k)

-- n rules stand from `at` on, and o says which of them are the location's own.
module _ (clocks : ℕ) (f : List ℕ) (at n a : ℕ) {o : Own} (e : o ≡ own_of clocks a (rules_from clocks f at n)) where
  own_few : below a (rules_from clocks f at n) + below (a + 1) (drop (below a (rules_from clocks f at n)) (rules_from clocks f at n)) ≤ n
  own_few = omega (arith, own_le a (rules_from clocks f at n), own_length a (rules_from clocks f at n), rules_length clocks f at n)

  -- They end where the n rules end, or before.
  pub own_ends : (o.count ≤ n) × (o.start + o.count * rule_size clocks ≤ n * rule_size clocks)
  own_ends = rw e (omega (arith, own_few, mul-le-mul_right (rule_size clocks) own_few))

  -- The part that they take reads as them.
  pub own_reads : rules_from clocks (part f (at + o.start) (o.count * rule_size clocks)) 0 o.count ≡ own a (rules_from clocks f at n)
  unfolding own
  own_reads =
      let m = below a (rules_from clocks f at n) in
      let c = below (a + 1) (drop m (rules_from clocks f at n)) in
      rules_part f clocks (at + o.start) o.count
      ∙ rw e
      (sym (ap (take c) (rules_drop clocks f at m n (omega (arith, own_few)))
      ∙ rules_take clocks f (at + m * rule_size clocks) c (n - m) (omega (arith, own_few))))

-- What passes over each rule of another location says of the location's own rules what it says of all.
module _ {A : Type 0} (a : ℕ) (says : List Rule → A) (passes : (r : Rule) (rs : List Rule) → (r.source ≡ a → ⊥) → says (r ∷ rs) ≡ says rs)
    (same : (r : Rule) (rs ss : List Rule) → says rs ≡ says ss → says (r ∷ rs) ≡ says (r ∷ ss)) where
  above : {b : ℕ} {rs : List Rule} → a < b → Rising b rs → says rs ≡ says []
  above l rising_none = refl
  above l (rising_more {r = r} {rs = rs} h k) = let m : a < r.source = omega arith in passes r rs (omega arith) ∙ above m k

  at_front : {b : ℕ} {rs : List Rule} → Rising b rs → says (take (below (a + 1) rs) rs) ≡ says rs
  unfolding below
  at_front rising_none = refl
  at_front (rising_more {r = r} {rs = rs} h k) = go (ltb r.source (a + 1)) refl (at_front k)
    where
      go : (t : Bool) → ltb r.source (a + 1) ≡ t → says (take (below (a + 1) rs) rs) ≡ says rs →
          says (take (cond t (suc (below (a + 1) rs)) 0) (r ∷ rs)) ≡ says (r ∷ rs)
      go true q ih = same r (take (below (a + 1) rs) rs) rs ih
      go false q ih = let n : a < r.source = omega (arith, ltb-false r.source (a + 1) q) in sym (passes r rs (omega arith) ∙ above n k)

  behind : (rs : List Rule) → says (drop (below a rs) rs) ≡ says rs
  unfolding below
  behind [] = refl
  behind (r ∷ rs) = go (ltb r.source a) refl (behind rs)
    where
      go : (t : Bool) → ltb r.source a ≡ t → says (drop (below a rs) rs) ≡ says rs → says (drop (cond t (suc (below a rs)) 0) (r ∷ rs)) ≡ says (r ∷ rs)
      go true q ih = let l : r.source < a = ltb-true _ _ q in ih ∙ sym (passes r rs (omega arith))
      go false q ih = refl

  -- The rules below the location are passed over, and so are those above it.
  pub own_alone : {b : ℕ} {rs : List Rule} → Rising b rs → says (own a rs) ≡ says rs
  unfolding own
  own_alone {rs = rs} k = at_front (rising_from a k) ∙ behind rs

module _ (s : Place) (e : Event) where
  -- A rule of another location does not fire.
  other : (r : Rule) → (r.source ≡ s.location → ⊥) → fires r s e ≡ false
  unfolding fires
  other r h = rw (ne_eqb r.source s.location h)

  -- The first of the location's own rules that fires is the first of all rules that does.
  pub decides_own : {b : ℕ} {rs : List Rule} → Rising b rs → decides (own s.location rs) s e ≡ decides rs s e
  unfolding decides
  decides_own = own_alone s.location (λ rs. decides rs s e) (λ r rs h. rw (other r h)) (λ r rs ss h. ap (cond (fires r s e) (some r)) h)
