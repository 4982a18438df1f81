-- What the code has of a rule whose words it reads, as what the definitions have of it.
-- In order: the parts, the bounds and a whole rule; powers of two, and room in a mask; a signal or a reset, said once or twice; a bound that changes.
use Rattle.std.specs.Prelude.{◌≡◌, refl, List, [], ◌∷◌, ℕ, zero, suc, ◌+◌, ◌*◌, ◌/◌, ◌%◌, ◌^◌, ◌≤◌, ◌<◌, min, max, get_or, set, Result, Ok, Err}
use Rattle.std.proofs.Common.{ap, arith, eq-eqb, ne_eqb}
use Rattle.streams.specs.Answer.{Answer, refused, gives}
use Rattle.refusals.specs.Refused.{number_of}
use Rattle.std.specs.Result.{IsErrAnd}
use Rattle.refusals.specs.Laws.{handed_on}
use Rattle.refusals.specs.declared.Refusal.{Refusal}
use Rattle.policy.specs.Rules.{Bound}
use Rattle.wording.specs.Reader.{Part, opening, more, arrow, sign, at_least, at_most, goes, gone, clears, Begun, at_least_of, at_most_of, change, on_bound, on_signal, on_reset}
use Rattle.conditions.specs.declared.steps.Part.{Part as Next}
use Rattle.conditions.specs.declared.steps.Parsed.{Parsed}

-- The parts, with the clock that some of them speak of.
abbrev pub part_of : Next → ℕ → Part
part_of Next.Opening k = opening
part_of Next.More k = more
part_of Next.Arrow k = arrow
part_of Next.Sign k = sign k
part_of Next.AtLeast k = at_least k
part_of Next.AtMost k = at_most k
part_of Next.Goes k = goes
part_of Next.Gone k = gone
part_of Next.Clears k = clears

-- The first n bounds of two rows of numbers.
unfoldable pub bounds_of : ℕ → List ℕ → List ℕ → List Bound
bounds_of zero lows highs = []
bounds_of (suc n) [] highs = []
bounds_of (suc n) (l ∷ lows) [] = []
bounds_of (suc n) (l ∷ lows) (h ∷ highs) = record { low = l; high = h } ∷ bounds_of n lows highs

-- Of a rule of a policy with n clocks.
abbrev pub begun_of : ℕ → Parsed → Begun
begun_of n p =
    record {
      part = part_of p.part p.clock;
      care = p.care;
      value = p.value;
      bounds = bounds_of n p.low p.high;
      target = p.target;
      reset = p.reset;
    }

-- The answer to one word: its refusal, or the rule as it stands after the word.
abbrev pub parse_said : ℕ → Result Parsed Refusal → Answer Begun
parse_said n (Ok p) = gives (begun_of n p)
parse_said n (Err r) = refused (number_of r)

-- A refusal that a `?` hands on.
pub parse_handed : (n : ℕ) (r : Result Parsed Refusal) (e : Refusal) → IsErrAnd r (λ d. d ≡ e) → parse_said n r ≡ refused (number_of e)
parse_handed n r e h = ap (parse_said n) (handed_on r e h)

-- The masks are of at most eight signals and four clocks, and so is the clock spoken of.
pub record Masked (p : Parsed) : Type 0 where
  pub care : p.care < 256
  pub value : p.value ≤ p.care
  pub reset : p.reset < 16
  pub clock : p.clock < 4
  pub target : p.target < 256

-- The bit of each of eight signals is from 1 to 128.
pub power_small : (i : ℕ) → i < 8 → (0 < 2 ^ i) × (2 ^ i ≤ 128)
power_small zero h = (omega arith, omega arith)
power_small (suc zero) h = (omega arith, omega arith)
power_small (suc (suc zero)) h = (omega arith, omega arith)
power_small (suc (suc (suc zero))) h = (omega arith, omega arith)
power_small (suc (suc (suc (suc zero)))) h = (omega arith, omega arith)
power_small (suc (suc (suc (suc (suc zero))))) h = (omega arith, omega arith)
power_small (suc (suc (suc (suc (suc (suc zero)))))) h = (omega arith, omega arith)
power_small (suc (suc (suc (suc (suc (suc (suc zero))))))) h = (omega arith, omega arith)
power_small (suc (suc (suc (suc (suc (suc (suc (suc i)))))))) h = absurd (omega arith)

-- A number taken once or not at all is at most itself.
pub once : (v r : ℕ) → v ≤ 1 → v * r ≤ r
once zero r h = omega arith
once (suc zero) r h = omega arith
once (suc (suc v)) r h = absurd (omega arith)

-- A bit that is not set has room.
pub bit_room : (m i : ℕ) → m < 256 → i < 8 → m / 2 ^ i % 2 ≡ 0 → m + 2 ^ i < 256
bit_room m zero l h e = omega arith
bit_room m (suc zero) l h e = omega arith
bit_room m (suc (suc zero)) l h e = omega arith
bit_room m (suc (suc (suc zero))) l h e = omega arith
bit_room m (suc (suc (suc (suc zero)))) l h e = omega arith
bit_room m (suc (suc (suc (suc (suc zero))))) l h e = omega arith
bit_room m (suc (suc (suc (suc (suc (suc zero)))))) l h e = omega arith
bit_room m (suc (suc (suc (suc (suc (suc (suc zero))))))) l h e = omega arith
bit_room m (suc (suc (suc (suc (suc (suc (suc (suc i)))))))) l h e = absurd (omega arith)

-- A bit that is not set in a mask of four bits has room there.
pub low_room : (m i : ℕ) → m < 16 → i < 4 → m / 2 ^ i % 2 ≡ 0 → m + 2 ^ i < 16
low_room m zero l h e = omega arith
low_room m (suc zero) l h e = omega arith
low_room m (suc (suc zero)) l h e = omega arith
low_room m (suc (suc (suc zero))) l h e = omega arith
low_room m (suc (suc (suc (suc i)))) l h e = absurd (omega arith)

-- A condition on a signal; a clock that is reset.
module _ (b : Begun) (v i : ℕ) where
  -- A second condition on the same signal is refused with 31.
  pub signal_twice : (b.care / 2 ^ i % 2 ≡ 0 → ⊥) → refused 31 ≡ on_signal b v i
  unfolding on_signal
  signal_twice h = rw (ne_eqb (b.care / 2 ^ i % 2) 0 h)

  -- The first condition on a signal adds its bit to the care mask, and to the value if it must be on.
  pub signal_once : b.care / 2 ^ i % 2 ≡ 0 →
      gives (record { part = more; care = b.care + 2 ^ i; value = b.value + v * 2 ^ i; bounds = b.bounds; target = b.target; reset = b.reset }) ≡ on_signal b v i
  unfolding on_signal
  signal_once h = rw (eq-eqb (b.care / 2 ^ i % 2) 0 h)

module _ (b : Begun) (i : ℕ) where
  -- A clock that is reset twice in one rule is refused with 31.
  pub reset_twice : (b.reset / 2 ^ i % 2 ≡ 0 → ⊥) → refused 31 ≡ on_reset b i
  unfolding on_reset
  reset_twice h = rw (ne_eqb (b.reset / 2 ^ i % 2) 0 h)

  -- A clock that is reset for the first time gets its bit in the mask.
  pub reset_once : b.reset / 2 ^ i % 2 ≡ 0 →
      gives (record { part = clears; care = b.care; value = b.value; bounds = b.bounds; target = b.target; reset = b.reset + 2 ^ i }) ≡ on_reset b i
  unfolding on_reset
  reset_once h = rw (eq-eqb (b.reset / 2 ^ i % 2) 0 h)

-- Bounds, changed at their place.
pub low_changed : (m : ℕ) (lows highs : List ℕ) (k n : ℕ) → bounds_of m (set lows k (max n (get_or lows k 0))) highs ≡ change (at_least_of n) k (bounds_of m lows highs)
unfolding bounds_of change
low_changed zero lows highs k n = refl
low_changed (suc m) [] highs k n = refl
low_changed (suc m) (l ∷ lows) [] zero n = refl
low_changed (suc m) (l ∷ lows) [] (suc k) n = refl
low_changed (suc m) (l ∷ lows) (h ∷ highs) zero n = refl
low_changed (suc m) (l ∷ lows) (h ∷ highs) (suc k) n = ap (λ (z : List Bound). record { low = l; high = h } ∷ z) (low_changed m lows highs k n)

-- The same for a high, where the lesser one stays.
pub high_changed : (m : ℕ) (lows highs : List ℕ) (k n : ℕ) → bounds_of m lows (set highs k (min n (get_or highs k 0))) ≡ change (at_most_of n) k (bounds_of m lows highs)
unfolding bounds_of change
high_changed zero lows highs k n = refl
high_changed (suc m) [] highs k n = refl
high_changed (suc m) (l ∷ lows) [] k n = refl
high_changed (suc m) (l ∷ lows) (h ∷ highs) zero n = refl
high_changed (suc m) (l ∷ lows) (h ∷ highs) (suc k) n = ap (λ (z : List Bound). record { low = l; high = h } ∷ z) (high_changed m lows highs k n)

module _ (m : ℕ) (p : Parsed) (k n : ℕ) where
  -- What the code does for `>= n`: the low of clock k becomes the greater of the two.
  pub at-least : {v : ℕ} → v ≡ max n (get_or p.low k 0) →
      begun_of m (record { part = Next.More; clock = p.clock; care = p.care; value = p.value; target = p.target; reset = p.reset; low = set p.low k v; high = p.high })
      ≡ on_bound (begun_of m p) k (at_least_of n)
  unfolding on_bound
  at-least e =
      let same = low_changed m p.low p.high k n in
      rw e (λ i. record { part = more; care = p.care; value = p.value; bounds = same i; target = p.target; reset = p.reset })

  -- What the code does for `<= n`: the high of clock k becomes the lesser of the two.
  pub at-most : {v : ℕ} → v ≡ min n (get_or p.high k 0) →
      begun_of m (record { part = Next.More; clock = p.clock; care = p.care; value = p.value; target = p.target; reset = p.reset; low = p.low; high = set p.high k v })
      ≡ on_bound (begun_of m p) k (at_most_of n)
  unfolding on_bound
  at-most e =
      let same = high_changed m p.low p.high k n in
      rw e (λ i. record { part = more; care = p.care; value = p.value; bounds = same i; target = p.target; reset = p.reset })
