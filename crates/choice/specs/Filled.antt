-- The sets that are not empty, as bits of one number.
use Rattle.std.specs.Prelude.{◌≡◌, List, ℕ, zero, suc, ◌+◌, ◌-◌, ◌*◌, ◌/◌, ◌%◌, ◌^◌, ◌≤◌, ◌<◌, eqb, ltb, length, get_or}
use Rattle.std.proofs.Common.{sym, ap, ◌∙◌, pow-suc, arith}
use Rattle.std.proofs.Math.Nat.{div-div-eq-div-mul, pow-succ', pow-le-pow_right}
use Rattle.std.proofs.Math.ListN.{get_or-eq_default}
use Rattle.choice.specs.Sets.{has, has_none}

-- The bit, shifted down.
pub has_shift : (set y : ℕ) → has set y ≡ eqb (set / 2 ^ y % 2) 1
unfolding has
has_shift set zero = let e : set / 1 ≡ set = omega arith in rw e
has_shift set (suc y) = has_shift (set / 2) y ∙ rw (div-div-eq-div-mul set 2 (2 ^ y), pow-succ' 2 y)

-- The inputs from x on whose sets are not empty, as they are put together from the last to the first.
pub record Filled (sets : List ℕ) (x all : ℕ) : Type 0 where
  pub is : (y : ℕ) → has all y ≡ ltb 0 (get_or sets (x + y) 0)
  pub small : all < 2 ^ (16 - x)

-- Past the sixteenth set nothing is put together yet.
pub filled_none : (sets : List ℕ) → length sets ≡ 16 → Filled sets 16 0
filled_none sets e = record { is = λ y. has_none y ∙ ap (ltb 0) (sym (get_or-eq_default sets 0 (omega arith))); small = omega arith }

-- One set more, at the front: its bit is 1 exactly if it is not empty.
pub filled_more : {sets : List ℕ} {x all bit : ℕ} → Filled sets x all → 0 < x → x ≤ 16 → (bit < 2) × (eqb bit 1 ≡ ltb 0 (get_or sets (x - 1) 0)) →
    Filled sets (x - 1) (all * 2 + bit)
unfolding has
filled_more {sets} {x} {all} {bit} k l h b = record { is = go; small = small_now }
  where
    small_now : all * 2 + bit < 2 ^ (16 - (x - 1))
    small_now =
        let e : 16 - (x - 1) ≡ suc (16 - x) = omega arith in
        rw (e, pow-suc 2 (16 - x)) (omega (arith, k.small))

    go : (y : ℕ) → has (all * 2 + bit) y ≡ ltb 0 (get_or sets (x - 1 + y) 0)
    go zero =
        let d : (all * 2 + bit) % 2 ≡ bit = omega arith in
        let e : x - 1 + 0 ≡ x - 1 = omega arith in
        rw (d, e) b.1
    go (suc y) =
        let d : (all * 2 + bit) / 2 ≡ all = omega arith in
        let e : x - 1 + suc y ≡ x + y = omega arith in
        rw (d, e) (k.is y)

-- With all sets put together, bit y is 1 exactly if the set of the input y is not empty.
pub filled_all : {sets : List ℕ} {x all : ℕ} → Filled sets x all → x ≡ 0 → (y : ℕ) → has all y ≡ ltb 0 (get_or sets y 0)
filled_all {sets} {x} k e y = let d : x + y ≡ y = omega arith in rw d at (k.is y)

-- While a set is left to put in, the number has at most 15 bits, so that doubled it fits into 16.
pub filled_fits : {sets : List ℕ} {x all : ℕ} → Filled sets x all → 0 < x → all < 32768
filled_fits {x = x} k l = omega (arith, k.small, pow-le-pow_right {n = 2} (omega arith) {i = 16 - x} {j = 15} (omega arith))
