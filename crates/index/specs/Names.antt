-- "Index entries are proved to name exactly that location's rules."
-- In order: counts of rules; the counts where sources never fall; the numbers of an index; and of a file that passes the check, what its entries say
-- and which rules they name.
use Rattle.std.specs.Prelude.{◌≡◌, Bool, ◌↔◌, length, get_or}
use Rattle.std.proofs.Math.Path.{refl, ap, ap₂}
use Rattle.std.proofs.Common.{◌∙◌, get_or-append-add, lt-ltb, le-ltb, ltb-true, ltb-false, eqb-true, ne_eqb}
use Rattle.std.proofs.Math.Bool.{true, false, cond}
use mathlib.Core.List.{List, [], ◌∷◌, ◌++◌}
use Prim.Native.Nat.{ℕ, zero, suc, ◌+◌, ◌-◌, ◌*◌, ◌≤◌, ◌<◌}
use native.Mathlib.Omega.{arith}
use Rattle.std.proofs.Math.Dec.{ltb, eqb}
use Rattle.std.proofs.Math.ListN.{drop, length-append, get_or-append}
use Rattle.std.proofs.Math.Seq.{drop-nil}
use Rattle.std.proofs.lemmas.Bool.{eqb-false}
use Rattle.policy.specs.Rules.{Rule}
use Rattle.policy.specs.File.{byte_at, rule_size, rule_from, rules_from, clock_count, location_count, rule_count, rule_section, rules_of, policy_of}
use Rattle.policy.specs.Check.{refusal_of}
use Rattle.policy.specs.Sound.{Each, each_none, each_more, each_weak}
use Rattle.policy.specs.Frame.{frame, rules_length}
use Rattle.policy.specs.Checked.{Rising, rising_none, rising_more, checked_file, well_rising, well_ruled}
use Rattle.policy.specs.Parts.{rules_drop}
use Rattle.policy.specs.Own.{below, own_of, own_length, below_next}
use Rattle.index.specs.declared.entry.Entry.{Entry}
use Rattle.index.specs.Index.{count, lower, number, entry_of, entries, index_of}

-- ---- counts of rules
-- No more rules pass a test than there are.
pub count_le : (test : Rule → Bool) (rs : List Rule) → count test rs ≤ length rs
unfolding count
count_le test [] = omega arith
count_le test (r ∷ rs) = go (test r) (count_le test rs)
  where
    go : (t : Bool) → count test rs ≤ length rs → cond t (suc (count test rs)) (count test rs) ≤ suc (length rs)
    go true h = omega arith
    go false h = omega arith

-- No source is lower than 0.
pub lower_none : (rs : List Rule) → lower 0 rs ≡ 0
unfolding count
lower_none [] = refl
lower_none (r ∷ rs) = rw (le-ltb r.source 0 (omega arith)) (lower_none rs)

-- The rules below the next location are those below this one, and its own.
pub lower_next : (a : ℕ) (rs : List Rule) → lower (a + 1) rs ≡ lower a rs + number a rs
unfolding count
lower_next a [] = refl
lower_next a (r ∷ rs) = go (ltb r.source a) refl (eqb r.source a) refl (lower_next a rs)
  where
    go : (t : Bool) → ltb r.source a ≡ t → (q : Bool) → eqb r.source a ≡ q → lower (a + 1) rs ≡ lower a rs + number a rs →
        cond (ltb r.source (a + 1)) (suc (lower (a + 1) rs)) (lower (a + 1) rs)
        ≡ cond t (suc (lower a rs)) (lower a rs) + cond q (suc (number a rs)) (number a rs)
    go true e true g ih = absurd (omega (arith, ltb-true r.source a e, eqb-true r.source a g))
    go true e false g ih = rw (lt-ltb r.source (a + 1) (omega (arith, ltb-true r.source a e))) (omega arith)
    go false e true g ih = rw (lt-ltb r.source (a + 1) (omega (arith, eqb-true r.source a g))) (omega arith)
    go false e false g ih =
        let d : r.source ≡ a → ⊥ = eqb-false r.source a g in
        let m : a < r.source = omega (arith, ltb-false r.source a e) in
        rw (le-ltb r.source (a + 1) (omega arith)) ih

-- No rule's source is a location past those that there are.
number_past : (locations a : ℕ) {rs : List Rule} → Each (λ r. r.source < locations) rs → locations ≤ a → number a rs ≡ 0
unfolding count
number_past locations a each_none l = refl
number_past locations a (each_more {r = r} {rs = rs} h k) l = rw (ne_eqb r.source a (omega arith)) (number_past locations a k l)

-- ---- where sources never fall, the counts are those from the front on
module _ (a : ℕ) where
  lower_high : {b : ℕ} {rs : List Rule} → a ≤ b → Rising b rs → lower a rs ≡ 0
  unfolding count
  lower_high l rising_none = refl
  lower_high l (rising_more {r = r} {rs = rs} h k) =
      let m : a ≤ r.source = omega arith in rw (le-ltb r.source a m) (lower_high m k)

  -- Where sources never fall, the rules with a lower source are those in front.
  pub lower_below : {b : ℕ} {rs : List Rule} → Rising b rs → lower a rs ≡ below a rs
  unfolding count below
  lower_below rising_none = refl
  lower_below (rising_more {r = r} {rs = rs} h k) = go (ltb r.source a) refl (lower_below k)
    where
      go : (t : Bool) → ltb r.source a ≡ t → lower a rs ≡ below a rs →
          cond t (suc (lower a rs)) (lower a rs) ≡ cond t (suc (below a rs)) 0
      go true e ih = ap suc ih
      go false e ih = lower_high (ltb-false _ _ e) k

-- Where sources never fall, a location has as many rules as come directly after those with a lower source.
pub number_own : (a : ℕ) {b : ℕ} {rs : List Rule} → Rising b rs → number a rs ≡ below (a + 1) (drop (below a rs) rs)
number_own a {rs = rs} k = omega (arith, lower_next a rs, below_next a rs, own_length a rs, lower_below a k, lower_below (a + 1) k)

-- The i-th rule's source is at least the first one's.
rising_at : {b : ℕ} {rs : List Rule} (i : ℕ) → Rising b rs → {r : Rule} {ss : List Rule} → drop i rs ≡ r ∷ ss → b ≤ r.source
rising_at i rising_none e = let z : ◌≡◌ {A = ℕ} 0 1 = cc (drop-nil {A = Rule} i) in absurd (omega arith)
rising_at zero (rising_more {r = q} h k) {r = r} e = let g : q ≡ r = cc in rw (← g) h
rising_at (suc i) (rising_more h k) e = let m = rising_at i k e in omega arith

-- A rule's source is lower exactly if the rule is among the first that the count says.
lower_exactly : (a : ℕ) {b : ℕ} {rs : List Rule} (i : ℕ) → Rising b rs → {r : Rule} {ss : List Rule} → drop i rs ≡ r ∷ ss → (r.source < a) ↔ (i < lower a rs)
unfolding count
lower_exactly a i rising_none e = let z : ◌≡◌ {A = ℕ} 0 1 = cc (drop-nil {A = Rule} i) in absurd (omega arith)
lower_exactly a zero (rising_more {r = q} {rs = qs} h k) {r = r} e = let g : q.source ≡ r.source = cc in go g (ltb q.source a) refl
  where
    go : q.source ≡ r.source → (t : Bool) → ltb q.source a ≡ t → (r.source < a) ↔ (0 < cond t (suc (lower a qs)) (lower a qs))
    go g true p = (λ l. omega arith, λ l. omega (arith, ltb-true q.source a p))
    go g false p =
        let m : a ≤ q.source = ltb-false q.source a p in
        let n = lower_high a m k in (λ l. absurd (omega arith), λ l. absurd (omega arith))
lower_exactly a (suc i) (rising_more {r = q} {rs = qs} h k) {r = r} e = go (ltb q.source a) refl (lower_exactly a i k e)
  where
    go : (t : Bool) → ltb q.source a ≡ t → ((r.source < a) ↔ (i < lower a qs)) → (r.source < a) ↔ (suc i < cond t (suc (lower a qs)) (lower a qs))
    go true p ih = (λ l. let m = ih.0 l in omega arith, λ l. ih.1 (omega arith))
    go false p ih =
        let m : a ≤ q.source = ltb-false q.source a p in
        let n = lower_high a m k in
        let w = rising_at i k e in (λ l. absurd (omega arith), λ l. absurd (omega arith))

-- A number that is not below n is at least n.
pub not_below : (i n : ℕ) → (i < n → ⊥) → n ≤ i
not_below i n h = go (ltb i n) refl
  where
    go : (t : Bool) → ltb i n ≡ t → n ≤ i
    go true e = absurd (h (ltb-true i n e))
    go false e = ltb-false i n e

between : (s a i low many : ℕ) → (s < a) ↔ (i < low) → (s < a + 1) ↔ (i < low + many) → (s ≡ a) ↔ ((low ≤ i) × (i < low + many))
between s a i low many this next = (
  λ e. (not_below i low (λ l. let m = this.1 l in omega arith), next.0 (omega arith)),
  λ k. let u = next.1 k.1 in let v : a ≤ s = not_below s a (λ l. let m = this.0 l in omega arith) in omega arith,
)

-- ---- the numbers of the index
module _ (f : List ℕ) where
  -- The entries of n locations are 2 n numbers.
  pub entries_length : (n : ℕ) → length (entries f n) ≡ 2 * n
  unfolding entries
  entries_length zero = refl
  entries_length (suc n) = let e = entries_length n in simp length-append (omega arith)

  -- Where the two numbers of a location stand.
  pub entries_at : (n a : ℕ) → a < n → (get_or (entries f n) (2 * a) 0 ≡ (entry_of f a).first) × (get_or (entries f n) (2 * a + 1) 0 ≡ (entry_of f a).number)
  unfolding entries
  entries_at zero a h = absurd (omega arith)
  entries_at (suc n) a h = go (ltb a n) refl (λ l. entries_at n a l)
    where
      last : List ℕ
      last = (entry_of f n).first ∷ (entry_of f n).number ∷ []

      go : (t : Bool) → ltb a n ≡ t →
          (a < n → (get_or (entries f n) (2 * a) 0 ≡ (entry_of f a).first) × (get_or (entries f n) (2 * a + 1) 0 ≡ (entry_of f a).number)) →
          (get_or (entries f n ++ last) (2 * a) 0 ≡ (entry_of f a).first) × (get_or (entries f n ++ last) (2 * a + 1) 0 ≡ (entry_of f a).number)
      go true p ih =
          let l : a < n = ltb-true a n p in
          let k = entries_length n in (
            get_or-append (entries f n) last 0 (2 * a) (omega arith) ∙ (ih l).0,
            get_or-append (entries f n) last 0 (2 * a + 1) (omega arith) ∙ (ih l).1,
          )
      go false p ih =
          let e : n ≡ a = omega (arith, ltb-false a n p) in
          let k = entries_length n in
          let u : 2 * a ≡ length (entries f n) + 0 = omega arith in
          let v : 2 * a + 1 ≡ length (entries f n) + 1 = omega arith in (
            ap (λ (i : ℕ). get_or (entries f n ++ last) i 0) u ∙ get_or-append-add (entries f n) last 0 0 ∙ ap (λ (i : ℕ). (entry_of f i).first) e,
            ap (λ (i : ℕ). get_or (entries f n ++ last) i 0) v ∙ get_or-append-add (entries f n) last 1 0 ∙ ap (λ (i : ℕ). (entry_of f i).number) e,
          )

  -- An index has 128 numbers.
  pub index_length : length (index_of f) ≡ 128
  unfolding index_of
  index_length = entries_length 64

  -- A slice that is the file's index has 128 numbers.
  pub index_long : {index : List ℕ} → index ≡ index_of f → length index ≡ 128
  index_long e = ap length e ∙ index_length

-- ---- of a file that passes the check
module _ (f : List ℕ) (passes : refusal_of f ≡ 0) where
  -- The sources of its rules never fall.
  pub rising : Rising 0 (rules_of f)
  unfolding policy_of
  rising = well_rising (policy_of 1 f) (checked_file 1 f passes)

  few : length (rules_of f) ≤ 256
  few = omega (arith, rules_length (clock_count f) (rule_section f) 0 (rule_count f), (frame f passes).rules)

  -- The rules with a lower source are no more than the file has.
  pub lower_rules : (a : ℕ) → lower a (rules_of f) ≤ rule_count f
  lower_rules a = omega (arith, count_le (λ r. ltb r.source a) (rules_of f), rules_length (clock_count f) (rule_section f) 0 (rule_count f))

  sources : Each (λ r. r.source < location_count f) (rules_of f)
  unfolding policy_of
  sources = each_weak (λ r g. g.source) (well_ruled (policy_of 1 f) (checked_file 1 f passes))

  -- The rules with a lower source are at most 256.
  pub lower_few : (a : ℕ) → lower a (rules_of f) ≤ 256
  lower_few a = omega (arith, lower_rules a, (frame f passes).rules)

  -- The numbers of an entry have room in 16 bits.
  pub entry_few : (a : ℕ) → ((entry_of f a).first ≤ 256) × ((entry_of f a).number ≤ 256)
  unfolding entry_of
  entry_few a = go (ltb a (location_count f))
    where
      go : (t : Bool) → let e = cond {A = Entry} t (record { first = lower a (rules_of f); number = number a (rules_of f) }) (record { first = 0; number = 0 }) in
          (e.first ≤ 256) × (e.number ≤ 256)
      go true = (lower_few a, omega (arith, count_le (λ r. eqb r.source a) (rules_of f), few))
      go false = (omega arith, omega arith)

  -- The rules below the next location are those below this one, and as many as its entry says.
  pub entry_next : (a : ℕ) → lower (a + 1) (rules_of f) ≡ lower a (rules_of f) + (entry_of f a).number
  unfolding entry_of
  entry_next a = lower_next a (rules_of f) ∙ ap (λ (n : ℕ). lower a (rules_of f) + n) (go (ltb a (location_count f)) refl)
    where
      go : (t : Bool) → ltb a (location_count f) ≡ t →
          number a (rules_of f) ≡ (cond {A = Entry} t (record { first = lower a (rules_of f); number = number a (rules_of f) }) (record { first = 0; number = 0 })).number
      go true e = refl
      go false e = number_past (location_count f) a sources (ltb-false _ _ e)

  -- Rule number i has a location for its source exactly if it comes after the rules of lower ones, and no later than the location's last.
  pub source_exactly : (a i : ℕ) → i < rule_count f →
      (byte_at (rule_section f) (i * rule_size (clock_count f)) ≡ a) ↔ ((lower a (rules_of f) ≤ i) × (i < lower a (rules_of f) + number a (rules_of f)))
  unfolding rules_from rule_from
  source_exactly a i l =
      let size = rule_size (clock_count f) in
      let q : rule_count f - i ≡ suc (rule_count f - (i + 1)) = omega arith in
      let e : drop i (rules_of f) ≡ rule_from (clock_count f) (rule_section f) (i * size) ∷ rules_from (clock_count f) (rule_section f) (i * size + size) (rule_count f - (i + 1)) =
      rules_drop (clock_count f) (rule_section f) 0 i (rule_count f) (omega arith)
      ∙ ap₂ (rules_from (clock_count f) (rule_section f)) (omega arith) q
      in
      between _ a i _ _ (lower_exactly a i rising e) (rw (lower_next a (rules_of f)) at (lower_exactly (a + 1) i rising e))

  module _ (a : ℕ) (h : a < location_count f) where
    -- The entry of a location that there is: the rules with a lower source, and its own.
    pub entry_within : entry_of f a ≡ record { first = lower a (rules_of f); number = number a (rules_of f) }
    unfolding entry_of
    entry_within = rw (lt-ltb a (location_count f) h)

    at_index : (get_or (index_of f) (2 * a) 0 ≡ lower a (rules_of f)) × (get_or (index_of f) (2 * a + 1) 0 ≡ number a (rules_of f))
    unfolding index_of
    at_index =
        let k = entries_at f 64 a (omega (arith, frame f passes)) in
        (k.0 ∙ ap (λ (e : Entry). e.first) entry_within, k.1 ∙ ap (λ (e : Entry). e.number) entry_within)

    -- The location's own rules, by the index.
    pub index_own : record { start = get_or (index_of f) (2 * a) 0 * rule_size (clock_count f); count = get_or (index_of f) (2 * a + 1) 0 } ≡ own_of (clock_count f) a (rules_of f)
    index_own =
        let first = at_index.0 ∙ lower_below a rising in
        let many = at_index.1 ∙ number_own a rising in
        λ i. record { start = first i * rule_size (clock_count f); count = many i }

    -- Rule number i of the file has the location for its source exactly if it is one of those that the entry names.
    pub names_exactly : (i : ℕ) → i < rule_count f →
        (byte_at (rule_section f) (i * rule_size (clock_count f)) ≡ a)
        ↔ ((get_or (index_of f) (2 * a) 0 ≤ i) × (i < get_or (index_of f) (2 * a) 0 + get_or (index_of f) (2 * a + 1) 0))
    names_exactly i l = rw (at_index.0, at_index.1) (source_exactly a i l)
