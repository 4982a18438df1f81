-- A rule's end, and its bytes, by what the code has of it.
-- In order: whether a rule may end; one bound; the bounds from a clock on; their bytes; the whole rule.
use Rattle.std.specs.Prelude.{◌≡◌, refl, Bool, true, false, ◌&&◌, List, [], ◌∷◌, ◌++◌, eqb, length, get_or, take, drop}
use Rattle.std.proofs.Common.{◌∙◌, mod-lt, div-le_self}
use Prim.Native.Nat.{ℕ, suc, ◌+◌, ◌-◌, ◌/◌, ◌%◌, ◌^◌, ◌≤◌, ◌<◌}
use native.Mathlib.Omega.{arith}
use Rattle.std.proofs.Math.Seq.{drop-cons}
use borrow.Author.Tests.{lt-ltb, le-ltb, le-leb, lt-leb}
use Rattle.policy.specs.Rules.{Bound, Rule}
use Rattle.policy.specs.Check.{bound_good, bounds_good}
use Rattle.policy.specs.Bytes.{bounds_bytes, rule_bytes}
use Rattle.wording.specs.Reader.{Begun, Draft, rule_of}
use Rattle.conditions.specs.Steps.{bounds_of, begun_of}
use Rattle.conditions.specs.declared.steps.Parsed.{Parsed}

-- A bound from its low and its high.
abbrev pub bound_of : ℕ → ℕ → Bound
bound_of low high = record { low = low; high = high }

-- One bound.
module _ (c low high : ℕ) where
  -- A low above its high is wrong.
  pub bound_order : high < low → false ≡ bound_good c (bound_of low high)
  unfolding bound_good
  bound_order h = rw (lt-leb low high h)

  -- A low above the ceiling is wrong.
  pub bound_low : low ≤ high → c < low → false ≡ bound_good c (bound_of low high)
  unfolding bound_good
  bound_low h l = rw (le-leb low high h, lt-leb low c l)

  -- A low that passes both tests, with a high below the ceiling, is right.
  pub bound_high : low ≤ high → low ≤ c → high < c → true ≡ bound_good c (bound_of low high)
  unfolding bound_good
  bound_high h l g = rw (le-leb low high h, le-leb low c l, lt-ltb high c g)

  -- With a high that is not below the ceiling, it is right if that high is 65,535.
  pub bound_none : low ≤ high → low ≤ c → c ≤ high → eqb high 65535 ≡ bound_good c (bound_of low high)
  unfolding bound_good
  bound_none h l g = rw (le-leb low high h, le-leb low c l, le-ltb high c g)

-- The bounds from clock i on.
module _ (cs lows highs : List ℕ) (n : ℕ) where
  -- Whether the bounds from clock i on are all right for their ceilings.
  abbrev pub good_from : ℕ → Bool
  good_from i = bounds_good (take (n - i) (drop i cs)) (bounds_of (n - i) (drop i lows) (drop i highs))

  -- Before the first clock the question is that for all bounds.
  pub good_start : good_from 0 ≡ bounds_good (take n cs) (bounds_of n lows highs)
  good_start = let e : n - 0 ≡ n = omega arith in rw e

  -- The bounds from clock i on are right exactly if that of i is and those from i + 1 on are.
  pub good_turn : (i : ℕ) → i < n → n ≤ length cs → n ≤ length lows → n ≤ length highs → good_from i ≡ bound_good (get_or cs i 0) (bound_of (get_or lows i 0) (get_or highs i 0)) && good_from (i + 1)
  unfolding bounds_good bounds_of
  good_turn i h a b c =
      let e : n - i ≡ suc (n - (i + 1)) = omega arith in
      let s : suc i ≡ i + 1 = omega arith in
      rw (e, drop-cons cs i 0 (omega arith), drop-cons lows i 0 (omega arith), drop-cons highs i 0 (omega arith), s)

  module _ (i : ℕ) (h : i < n) (a : n ≤ length cs) (b : n ≤ length lows) (c : n ≤ length highs) where
    -- A wrong bound at clock i: the answer is no.
    pub good_fails : bound_good (get_or cs i 0) (bound_of (get_or lows i 0) (get_or highs i 0)) ≡ false → good_from i ≡ false
    good_fails e = good_turn i h a b c ∙ rw e

    -- A right bound at clock i: the answer is that for the clocks from i + 1 on.
    pub good_on : bound_good (get_or cs i 0) (bound_of (get_or lows i 0) (get_or highs i 0)) ≡ true → good_from i ≡ good_from (i + 1)
    good_on e = good_turn i h a b c ∙ rw e

  -- After the last clock the answer is yes.
  pub good_end : (i : ℕ) → n ≤ i → good_from i ≡ true
  unfolding bounds_good bounds_of
  good_end i h = let e : n - i ≡ 0 = omega arith in rw e

-- Their bytes.
module _ (lows highs : List ℕ) (n : ℕ) where
  -- The bytes of the bounds from clock i on.
  abbrev pub stored_from : ℕ → List ℕ
  stored_from i = bounds_bytes (bounds_of (n - i) (drop i lows) (drop i highs))

  -- Before the first clock the bytes of all bounds are left.
  pub stored_start : stored_from 0 ≡ bounds_bytes (bounds_of n lows highs)
  stored_start = let e : n - 0 ≡ n = omega arith in rw e

  -- One turn: the four bytes of clock i, the low first, then those from i + 1 on.
  pub stored_turn : (i : ℕ) → i < n → n ≤ length lows → n ≤ length highs →
      {p q r s : ℕ} → p ≡ get_or lows i 0 / 256 → q ≡ get_or lows i 0 % 256 → r ≡ get_or highs i 0 / 256 → s ≡ get_or highs i 0 % 256 →
      stored_from i ≡ (p ∷ q ∷ r ∷ s ∷ []) ++ stored_from (i + 1)
  unfolding bounds_bytes bounds_of
  stored_turn i h b c p q r t =
      let e : n - i ≡ suc (n - (i + 1)) = omega arith in
      let s : suc i ≡ i + 1 = omega arith in
      rw (p, q, r, t, e, drop-cons lows i 0 (omega arith), drop-cons highs i 0 (omega arith), s)

  -- After the last clock no byte is left.
  pub stored_end : (i : ℕ) → n ≤ i → stored_from i ≡ []
  unfolding bounds_bytes bounds_of
  stored_end i h = let e : n - i ≡ 0 = omega arith in rw e

-- A rule of a policy with so many inputs.
unfoldable pub rule_by : ℕ → ℕ → Begun → Rule
rule_by inputs source b =
    record {
      source = source;
      in_care = b.care % 2 ^ inputs;
      in_value = b.value % 2 ^ inputs;
      out_care = b.care / 2 ^ inputs;
      out_value = b.value / 2 ^ inputs;
      reset = b.reset;
      target = b.target;
      bounds = b.bounds;
    }

-- With as many inputs as the draft has, it is the rule that the reader makes.
pub rule-by : (d : Draft) (source : ℕ) (b : Begun) → rule_by (length d.inputs) source b ≡ rule_of d source b
unfolding rule_by rule_of
rule-by d source b = refl

-- The seven numbers that the code stores, and then the bounds, are the bytes of that rule.
pub rule_stored : (inputs source n : ℕ) (p : Parsed) {bit : ℕ} → bit ≡ 2 ^ inputs →
    (source ∷ p.care % bit ∷ p.value % bit ∷ p.care / bit ∷ p.value / bit ∷ p.reset ∷ p.target ∷ []) ++ bounds_bytes (bounds_of n p.low p.high)
    ≡ rule_bytes (rule_by inputs source (begun_of n p))
unfolding rule_by rule_bytes
rule_stored inputs source n p e = rw e

-- The rest of a division by at most 128 is below 256.
pub rest_small : (m b : ℕ) → 0 < b → b ≤ 128 → m % b < 256
rest_small m b h l = let e = mod-lt m {m = b} h in omega (arith, e)

-- Divided, a number below 256 stays below 256.
pub whole_small : (m b : ℕ) → m < 256 → m / b < 256
whole_small m b h = let e = div-le_self m b in omega (arith, e)
