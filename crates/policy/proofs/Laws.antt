-- What the functions' proofs cite: a turn of each loop over a list or a part of the file, and what a section that is not refused holds.
use mathlib.Core.Path.{◌≡◌, refl, sym, ap, ◌∙◌}
use mathlib.Core.Bool.{Bool, true, false, not, ◌&&◌, ◌||◌, or_assoc}
use mathlib.Core.List.{List, [], ◌∷◌, ◌++◌, append_assoc}
use Prim.Native.Nat.{ℕ, zero, suc, ◌+◌, ◌-◌, ◌*◌, ◌≤◌, ◌<◌}
use native.Mathlib.Numerals.{add-one}
use native.Mathlib.Omega.{arith}
use lib.Dec.{eqb, leb}
use lib.ListN.{length, get_or, take, drop, set, replicate, length-append, drop_of_length-le}
use lib.Seq.{take-suc, drop-cons, set_at}
use Rattle.std.specs.List.{list_all, list_any}
use Rattle.std.specs.Cmp.{ranks}
use Rattle.std.specs.Ordering.{MatchOrdering, is_le, nat_cmp}
use Rattle.std.proofs.Common.{Ordering, Less, Equal, Greater, Some}
use Rattle.std.specs.declared.ops.RangeInclusive.{RangeInclusive}
use Rattle.std.specs.Range.{range_inclusive_start, range_inclusive_end, range_inclusive_exhausted, range_inclusive_contains}
use borrow.Author.Tests.{le-leb, lt-leb}
use Rattle.streams.specs.AnswerLaws.{none_unless}
use Rattle.policy.specs.File.{pair_at, pairs_from, input_count, outputs_at, output_count, clocks_at, clock_count, locations_at, location_count}
use Rattle.policy.specs.File.{ceilings_of}
use Rattle.policy.specs.Check.{all_pass, among, tags_good, is_capital, inputs_refusal, outputs_refusal, clocks_refusal, locations_refusal}
use Rattle.policy.specs.Number.{four, states_of}
use Rattle.policy.specs.Frame.{section, pairs_length}
use Rattle.policy.specs.Checked.{ceiling_at}

-- The tests of the check, as std's functions on lists.
pub all_pass-list_all : (test : ℕ → Bool) (xs : List ℕ) → all_pass test xs ≡ list_all test xs
unfolding all_pass
all_pass-list_all test [] = refl
all_pass-list_all test (x ∷ xs) = rw (all_pass-list_all test xs)

pub among-list_any : (t : ℕ) (xs : List ℕ) → among t xs ≡ list_any (λ x. eqb x t) xs
unfolding among
among-list_any t [] = refl
among-list_any t (x ∷ xs) = rw (among-list_any t xs)

is_le-leb : (a b : ℕ) → is_le (nat_cmp a b) ≡ leb a b
is_le-leb a b = by (nat_cmp a b) (ranks a b)
  where
    by : (r : Ordering) → MatchOrdering r (a < b) (a ≡ b) (b < a) → is_le r ≡ leb a b
    by Less h = sym (le-leb a b (omega arith))
    by Equal h = sym (le-leb a b (omega arith))
    by Greater h = sym (lt-leb a b h)

-- What `contains` of a whole range `a..=b` answers.
pub ranged : (s : RangeInclusive ℕ) (x a b : ℕ) {t : Bool} → range_inclusive_start s ≡ a → range_inclusive_end s ≡ b → range_inclusive_exhausted s ≡ false →
    t ≡ range_inclusive_contains (λ y z. Some (nat_cmp y z)) s x → t ≡ (leb a x && leb x b)
ranged s x a b start end whole h = h ∙ rw (start, end, whole, is_le-leb a x, is_le-leb x b)

-- The list from i on: its first element, and the rest.
pub all_turn : (test : ℕ → Bool) (xs : List ℕ) (i : ℕ) → i < length xs →
    all_pass test (drop i xs) ≡ (test (get_or xs i 0) && all_pass test (drop (i + 1) xs))
unfolding all_pass
all_turn test xs i h = rw (add-one, drop-cons xs i 0)

pub all_end : (test : ℕ → Bool) (xs : List ℕ) (i : ℕ) → length xs ≤ i → all_pass test (drop i xs) ≡ true
unfolding all_pass
all_end test xs i h = rw drop_of_length-le

pub among_turn : (t : ℕ) (xs : List ℕ) (i : ℕ) → i < length xs → among t (drop i xs) ≡ (eqb (get_or xs i 0) t || among t (drop (i + 1) xs))
unfolding among
among_turn t xs i h = rw (add-one, drop-cons xs i 0 h)

pub among_end : (t : ℕ) (xs : List ℕ) (i : ℕ) → length xs ≤ i → among t (drop i xs) ≡ false
unfolding among
among_end t xs i h = rw (drop_of_length-le xs h)

pub among_append : (t : ℕ) (xs ys : List ℕ) → among t (xs ++ ys) ≡ (among t xs || among t ys)
unfolding among
among_append t [] ys = refl
among_append t (x ∷ xs) ys = rw (among_append t xs ys) (sym (or_assoc (eqb x t) (among t xs) (among t ys)))

pub tags_turn : (before xs : List ℕ) (i : ℕ) → i < length xs →
    tags_good (before ++ take i xs) (drop i xs)
    ≡ (is_capital (get_or xs i 0)
    && (not (among (get_or xs i 0) before || among (get_or xs i 0) (take i xs)) && tags_good (before ++ take (i + 1) xs) (drop (i + 1) xs)))
unfolding tags_good
tags_turn before xs i h = rw (add-one, take-suc xs i 0, drop-cons xs i 0, among_append, append_assoc)

pub tags_end : (before xs : List ℕ) (i : ℕ) → length xs ≤ i → tags_good before (drop i xs) ≡ true
unfolding tags_good
tags_end before xs i h = rw drop_of_length-le

-- n numbers of the file, from the i-th on.
pub ceilings_turn : (test : ℕ → Bool) (f : List ℕ) (at n i : ℕ) → i < n →
    all_pass test (pairs_from f (at + 2 * i) (n - i))
    ≡ (test (pair_at f (at + 2 * i)) && all_pass test (pairs_from f (at + 2 * (i + 1)) (n - (i + 1))))
unfolding all_pass pairs_from
ceilings_turn test f at n i h =
    let e : n - i ≡ suc (n - (i + 1)) = omega arith in
    let g : at + 2 * (i + 1) ≡ at + 2 * i + 2 = omega arith in rw (e, g)

pub ceilings_end : (test : ℕ → Bool) (f : List ℕ) (at n i : ℕ) → n ≤ i → all_pass test (pairs_from f at (n - i)) ≡ true
unfolding all_pass pairs_from
ceilings_end test f at n i h = let e : n - i ≡ 0 = omega arith in rw e

pub pairs_last : (f : List ℕ) (at n : ℕ) → pairs_from f at (n + 1) ≡ pairs_from f at n ++ (pair_at f (at + 2 * n) ∷ [])
unfolding pairs_from
pairs_last f at zero = let e : at + 2 * 0 ≡ at = omega arith in rw e
pairs_last f at (suc n) =
    let e : at + 2 * suc n ≡ at + 2 + 2 * n = omega arith in
    let g : suc n + 1 ≡ suc (n + 1) = omega arith in rw (g, e) (ap (λ l. pair_at f at ∷ l) (pairs_last f (at + 2) n))

four_more : (xs : List ℕ) (i v : ℕ) → length xs ≡ i → i < 4 → set (four xs) i v ≡ four (xs ++ (v ∷ []))
four_more xs i v e h =
    let p : 4 - length xs ≡ suc (3 - i) = omega arith in
    let q : 4 - length (xs ++ (v ∷ [])) ≡ 3 - i = simp length-append (omega arith) in
    rw (p, q, set_at xs 0 (replicate (3 - i) 0) v i e, append_assoc)

-- Four numbers, of which the first i are set.
pub pairs_more : (f : List ℕ) (at i : ℕ) → i < 4 → set (four (pairs_from f at i)) i (pair_at f (at + 2 * i)) ≡ four (pairs_from f at (i + 1))
pairs_more f at i h = rw pairs_last (four_more (pairs_from f at i) i (pair_at f (at + 2 * i)) (pairs_length f at i) h)

-- One clock more.
pub states_more : (cs : List ℕ) (i l : ℕ) → states_of cs (i + 1) l ≡ states_of cs i l * (get_or cs i 0 + 1)
unfolding states_of
states_more cs i l = simp add-one

-- After the inputs come the outputs.
pub inputs_fit : (f : List ℕ) → inputs_refusal f ≡ 0 →
    (input_count f ≤ 4) × (1 + input_count f ≤ length f) × (outputs_at f ≡ 1 + input_count f)
unfolding inputs_refusal outputs_at
inputs_fit f e = let h = (section f 0 1 (input_count f) 0 4 1 _ e).0 in (h.1, omega arith, refl)

pub outputs_fit : (f : List ℕ) → outputs_refusal f ≡ 0 → output_count f ≤ 4
unfolding outputs_refusal
outputs_fit f e = (section f (outputs_at f) 1 (output_count f) 0 4 1 _ e).0.1

pub clocks_fit : (f : List ℕ) → clocks_refusal f ≡ 0 → (clock_count f ≤ 4) × ((i : ℕ) → i < clock_count f → get_or (ceilings_of f) i 0 ≤ 1001)
unfolding clocks_refusal
clocks_fit f e =
    let h = section f (clocks_at f) 1 (clock_count f) 0 4 2 _ e in
    let good = (none_unless _ 3).0 h.1 in
    let many = pairs_length f (clocks_at f + 1) (clock_count f) in
    (h.0.1, λ i l. (ceiling_at (ceilings_of f) good i (omega arith)).1)

pub locations_fit : (f : List ℕ) → locations_refusal f ≡ 0 → location_count f ≤ 64
unfolding locations_refusal
locations_fit f e = (section f (locations_at f) 1 (location_count f) 1 64 1 _ e).0.1
