-- The join of two checked policies that is not refused by 12 and 13 is a checked policy again, so all that is proved of a checked policy holds of it.
-- In order: what is known where 12 and 13 are not given; the joined rules one by one, and their sources in order; that they pass the check; the join
-- as a whole.
use Rattle.std.specs.Prelude.{◌≡◌, true, ◌||◌, List, [], ◌∷◌, ◌++◌, ◌⊎◌, ◌↔◌, leb, ltb, eqb}
use Rattle.std.proofs.Math.Path.{refl}
use Rattle.std.proofs.Common.{ap₂, ⊎_elim, mul-le-mul, arith, length-append}
use Rattle.std.proofs.Math.Bool.{and-eq-true_iff, or-true}
use Rattle.std.proofs.lemmas.Bool.{false≢true}
use Prim.Native.Nat.{ℕ, zero, suc, ◌*◌, ◌/◌, ◌%◌, ◌^◌, ◌≤◌, ◌<◌}
use Rattle.std.proofs.lemmas.Nat.{or_lt}
use Rattle.std.proofs.Math.ListN.{length}
use borrow.Author.Tests.{leb-true, eqb-true, le-leb, lt-ltb, eq-eqb}
use Rattle.policy.specs.Rules.{Bound, Rule, Policy}
use Rattle.policy.specs.Number.{states}
use Rattle.policy.specs.Check.{ceiling_good, mask_good, head_good, bound_good, bounds_good, rule_refusal, rules_refusal}
use Rattle.policy.specs.Sound.{WellFormed, Each, each_none, each_more}
use Rattle.policy.specs.Stopped.{AllLawful, lawful_none, lawful_more}
use Rattle.policy.specs.Checked.{all_append, Ordered, ordered_none, ordered_more, Rising, rising_none, rising_more, Ruled, well_ruled}
use Rattle.pairing.specs.Join.{of, both, rows, join}
use Rattle.join.specs.Entry.{same_tags, same_signals, join_fits}
use Rattle.join.specs.Left.{left_length, left_good}
use Rattle.pairing.specs.Joins.{Joins, each_any, each_rows}
use Rattle.pairing.proofs.JoinsSound.{both_formed}
use Rattle.join.specs.Decide.{cell_at}

same_itself : (xs : List ℕ) → same_tags xs xs ≡ true
unfolding same_tags
same_itself [] = refl
same_itself (x ∷ xs) = (and-eq-true_iff (eqb x x) (same_tags xs xs)).1 (eq-eqb x x refl, same_itself xs)

same_equal : (xs ys : List ℕ) → same_tags xs ys ≡ true → xs ≡ ys
unfolding same_tags
same_equal [] [] e = refl
same_equal [] (y ∷ ys) e = absurd (false≢true e)
same_equal (x ∷ xs) [] e = absurd (false≢true e)
same_equal (x ∷ xs) (y ∷ ys) e =
    let h = (and-eq-true_iff (eqb x y) (same_tags xs ys)).0 e in
    ap₂ (λ (z : ℕ) (zs : List ℕ). z ∷ zs) (eqb-true x y h.0) (same_equal xs ys h.1)

-- The test behind 12, that "two policies differ in signal tags or their order": it passes exactly if both lists of tags are the same.
pub same_tags_is : (xs ys : List ℕ) → (same_tags xs ys ≡ true) ↔ (xs ≡ ys)
same_tags_is xs ys = (same_equal xs ys, λ e. rw (← e) (same_itself xs))

-- What is known where 13 is not given.
pub fitting : (p : Policy) → join_fits p ≡ true → (p.locations ≤ 64) × (length p.ceilings ≤ 4) × (length p.rules ≤ 256) × (states p ≤ 65536)
unfolding join_fits
fitting p e =
    let l = (and-eq-true_iff (leb p.locations 64) _).0 e in
    let c = (and-eq-true_iff (leb (length p.ceilings) 4) _).0 l.1 in
    let r = (and-eq-true_iff (leb (length p.rules) 256) _).0 c.1 in
    (leb-true _ _ l.0, leb-true _ _ c.0, leb-true _ _ r.0, leb-true _ _ r.1)

same-signals : (a b : Policy) → same_signals a b ≡ true → (a.inputs ≡ b.inputs) × (a.outputs ≡ b.outputs)
unfolding same_signals
same-signals a b s =
    let t = (and-eq-true_iff (same_tags a.inputs b.inputs) _).0 s in
    ((same_tags_is a.inputs b.inputs).0 t.0, (same_tags_is a.outputs b.outputs).0 t.1)

-- Where neither 12 nor 13 is given, the laws' premise holds of two policies that are read alike.
pub joins_of : (a b : Policy) → a.reading ≡ b.reading → same_signals a b ≡ true → join_fits (join a b) ≡ true → Joins a b
unfolding join
joins_of a b r s f =
    let t = same-signals a b s in
    record {
      reading = r;
      inputs = t.0;
      outputs = t.1;
      locations = (fitting (join a b) f).0;
    }

-- "Clocks of A come first, then those of B", in the ceilings and in each rule's bounds, so each bound meets its own ceiling.
ordered_append : {bs es : List Bound} → Ordered bs → Ordered es → Ordered (bs ++ es)
ordered_append ordered_none k = k
ordered_append (ordered_more l h) k = ordered_more l (ordered_append h k)

lawful_append : {cs ds : List ℕ} {bs es : List Bound} → AllLawful cs bs → AllLawful ds es → AllLawful (cs ++ ds) (bs ++ es)
lawful_append lawful_none k = k
lawful_append (lawful_more l h) k = lawful_more l (lawful_append h k)

both_ruled : (i o : ℕ) (cs ds : List ℕ) (l n at : ℕ) → at < l * n → (r s : Rule) → Ruled i o cs l r → Ruled i o ds n s →
    Ruled i o (cs ++ ds) (l * n) (both (length cs) n at r s)
unfolding both
both_ruled i o cs ds l n at b r s g h =
    record {
      source = b;
      in_care = or_lt i r.in_care s.in_care g.in_care h.in_care;
      out_care = or_lt o r.out_care s.out_care g.out_care h.out_care;
      formed = rw (length-append cs ds) (both_formed (length cs) (length ds) l n at r s g.formed h.formed);
      ordered = ordered_append g.ordered h.ordered;
      lawful = lawful_append g.lawful h.lawful;
    }

rising_lower : {low mid : ℕ} {rs : List Rule} → low ≤ mid → Rising mid rs → Rising low rs
rising_lower l rising_none = rising_none
rising_lower {low = low} l (rising_more {r = r} k h) = let i : low ≤ r.source = omega arith in rising_more i h

rising_same : {m low : ℕ} {rs : List Rule} → low ≤ m → Each (λ r. r.source ≡ m) rs → Rising low rs
rising_same l each_none = rising_none
rising_same {m = m} {low = low} l (each_more {r = r} e h) =
    let i : low ≤ r.source = omega arith in
    let j : r.source ≤ m = omega arith in
    rising_more i (rising_same j h)

rising_append : {low mid : ℕ} {xs ys : List Rule} → low ≤ mid → Rising low xs → Each (λ r. r.source < mid) xs → Rising mid ys → Rising low (xs ++ ys)
rising_append l rising_none h k = rising_lower l k
rising_append {mid = mid} l (rising_more {r = r} i t) (each_more e h) k =
    let j : r.source ≤ mid = omega arith in rising_more i (rising_append j t h k)

-- "For each (a, b) in number order", so sources never fall.
module _ (k n : ℕ) (rs ss : List Rule) where
  -- The rules of the pairs with numbers below m have sources below m.
  pub rows_below : (m : ℕ) → Each (λ r. r.source < m) (rows k n rs ss m)
  unfolding both
  rows_below m = each_rows {P = λ r. Unit {0}} {Q = λ r. Unit {0}} {R = λ r. r.source < m} k n m (λ at l r s p q. l) (each_any rs) (each_any ss)

  -- The sources of the joined rules never fall.
  pub rows_rising : (m : ℕ) → Rising 0 (rows k n rs ss m)
  unfolding rows
  rows_rising zero = rising_none
  rows_rising (suc m) =
      rising_append (omega arith) (rows_rising m) (rows_below m) (rising_same (omega arith) (cell_at k n m (of (m / n) rs) (of (m % n) ss)))

-- Facts pass the tests that made sure of them.
high_passes : (t l h : ℕ) → (t < l) ⊎ (t ≡ h) → (ltb t l || eqb t h) ≡ true
high_passes t l h = ⊎_elim (λ (p : t < l). rw (lt-ltb t l p)) (λ (p : t ≡ h). rw (eq-eqb t h p) (or-true (ltb t l)))

bounds_pass : {cs : List ℕ} {bs : List Bound} → AllLawful cs bs → Ordered bs → bounds_good cs bs ≡ true
unfolding bounds_good bound_good
bounds_pass lawful_none ordered_none = refl
bounds_pass (lawful_more {c = c} {b = b} l h) (ordered_more o k) =
    rw (le-leb b.low b.high o, le-leb b.low c l.low, high_passes b.high c 65535 l.high) (bounds_pass h k)

module _ (i o : ℕ) (cs : List ℕ) (l : ℕ) where
  rule_passes : (before : ℕ) (r : Rule) → before ≤ r.source → Ruled i o cs l r → rule_refusal i o cs l before r ≡ 0
  unfolding rule_refusal head_good mask_good
  rule_passes before r b g =
      rw (
        le-leb before r.source b,
        lt-ltb r.source l g.source,
        lt-ltb r.in_care (2 ^ i) g.in_care,
        eq-eqb _ _ g.formed.inputs,
        lt-ltb r.out_care (2 ^ o) g.out_care,
        eq-eqb _ _ g.formed.outputs,
        lt-ltb r.reset (2 ^ length cs) g.formed.reset,
        high_passes r.target l 255 g.formed.target,
        bounds_pass g.lawful g.ordered,
      )

  -- Rules whose sources never fall, each of them as the check asks, are not refused.
  pub rules_pass : {before : ℕ} {rs : List Rule} → Rising before rs → Each (Ruled i o cs l) rs → rules_refusal i o cs l before rs ≡ 0
  unfolding rules_refusal
  rules_pass rising_none each_none = refl
  rules_pass {before} (rising_more {r = r} b bs) (each_more g gs) = rw (rule_passes before r b g) (rules_pass bs gs)

joined_rules : (a b : Policy) → WellFormed a → WellFormed b → same_signals a b ≡ true →
    rules_refusal (length a.inputs) (length a.outputs) (join a b).ceilings (join a b).locations 0 (join a b).rules ≡ 0
unfolding join
joined_rules a b g h s =
    let t = same-signals a b s in
    let i = length a.inputs in
    let o = length a.outputs in
    let k = length a.ceilings in
    let n = b.locations in
    let m = a.locations * n in
    rules_pass i o (join a b).ceilings m (rows_rising k n a.rules b.rules m)
    (each_rows k n m (both_ruled i o a.ceilings b.ceilings a.locations n) (well_ruled a g) (rw (t.0, t.1) (well_ruled b h)))

-- The join of two checked policies is a checked policy where neither 12 nor 13 is given.
pub join_well : (a b : Policy) → WellFormed a → WellFormed b → same_signals a b ≡ true → join_fits (join a b) ≡ true → WellFormed (join a b)
unfolding join
join_well a b g h s f =
    let t = fitting (join a b) f in
    record {
      inputs = g.inputs;
      outputs = g.outputs;
      clocks = t.1;
      input_tags = g.input_tags;
      output_tags = g.output_tags;
      ceilings = all_append ceiling_good a.ceilings b.ceilings g.ceilings h.ceilings;
      start = mul-le-mul g.start h.start;
      locations = t.0;
      bytes = left_length a b (a.locations * b.locations);
      left = left_good a b (a.locations * b.locations);
      rule_count = t.2;
      rules = joined_rules a b g h s;
      states = t.3;
    }
