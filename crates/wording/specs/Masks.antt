-- The masks of a rule, whose bits its words set one after another.
use Rattle.std.specs.Prelude.{◌≡◌, ℕ, zero, suc, ◌+◌, ◌*◌, ◌/◌, ◌%◌, ◌^◌, ◌≤◌, ◌<◌, min}
use Rattle.std.proofs.Common.{ap, ap₂, sym, ◌∙◌, add_comm, arith, shr_lt}
use Rattle.std.proofs.Math.Nat.{min-eq_left, pow-succ', div-div-eq-div-mul}
use Rattle.std.specs.Int.Bits.{bit_and, and_step}
use Rattle.std.proofs.lemmas.Nat.{and_mod, and_shr}
use Rattle.wording.specs.ConditionsBack.{value_bit}

-- The bit i + 1 of a mask is the bit i of its half.
half_bit : (i mask : ℕ) → mask / 2 ^ suc i % 2 ≡ 0 → mask / 2 / 2 ^ i % 2 ≡ 0
half_bit i mask e = ap (λ (z : ℕ). z % 2) (div-div-eq-div-mul mask 2 (2 ^ i) ∙ ap (λ (z : ℕ). mask / z) (sym (pow-succ' 2 i))) ∙ e

-- A bit that is not set has room.
pub bit_room : (i n mask : ℕ) → i < n → mask < 2 ^ n → mask / 2 ^ i % 2 ≡ 0 → mask + 2 ^ i < 2 ^ n
bit_room i zero mask h l e = absurd (omega arith)
bit_room zero (suc n) mask h l e = omega (arith, pow-succ' 2 n)
bit_room (suc i) (suc n) mask h l e =
    let twice = pow-succ' 2 n in
    let rest = bit_room i n (mask / 2) (omega arith) (omega arith) (half_bit i mask e) in
    omega (arith, rest, twice, pow-succ' 2 i)

-- A number with twice x more, and its half.
half_more : (m x y : ℕ) → y ≡ 2 * x → ((m + y) / 2 ≡ m / 2 + x) × ((m + y) % 2 ≡ m % 2) × ((m / 2 + x) * 2 + m % 2 ≡ m + y)
half_more m x y e = (omega arith, omega arith, omega arith)

even_one : (m v : ℕ) → m % 2 ≡ 0 → v ≤ 1 → ((m + v) / 2 ≡ m / 2) × ((m + v) % 2 ≡ v) × (m / 2 * 2 + min v 1 ≡ m + v)
even_one m v e h = (omega arith, omega arith, omega arith)

-- Where it is set with its value of 0 or 1, the value stays within its care mask.
pub bit_within : (i value care v : ℕ) → v ≤ 1 → care / 2 ^ i % 2 ≡ 0 → bit_and value care ≡ value → bit_and (value + v * 2 ^ i) (care + 2 ^ i) ≡ value + v * 2 ^ i
bit_within zero value care v h e under =
    let low = value_bit value care under in
    let one : v * 2 ^ 0 ≡ v = omega arith in
    let a = even_one value v (omega arith) h in
    let b = even_one care 1 (omega arith) (omega arith) in
    ap (λ (z : ℕ). bit_and (value + z) (care + 1)) one ∙ and_step (value + v) (care + 1)
    ∙ (λ j. bit_and (a.0 j) (b.0 j) * 2 + min (a.1 j) (b.1 j)) ∙ ap (λ (z : ℕ). z * 2 + min v 1) low.1 ∙ a.2 ∙ ap (λ (z : ℕ). value + z) (sym one)
bit_within (suc i) value care v h e under =
    let low = value_bit value care under in
    let twice = pow-succ' 2 i in
    let times : v * 2 ^ suc i ≡ 2 * (v * 2 ^ i) = rw twice (omega arith) in
    let a = half_more value (v * 2 ^ i) (v * 2 ^ suc i) times in
    let b = half_more care (2 ^ i) (2 ^ suc i) twice in
    and_step (value + v * 2 ^ suc i) (care + 2 ^ suc i)
    ∙ (λ j. bit_and (a.0 j) (b.0 j) * 2 + min (a.1 j) (b.1 j))
    ∙ ap₂ (λ (x y : ℕ). x * 2 + y) (bit_within i (value / 2) (care / 2) v h (half_bit i care e) low.1) (min-eq_left low.0)
    ∙ a.2

-- The bits of the inputs, and those of the outputs after them.
module _ (inputs care value : ℕ) (under : bit_and value care ≡ value) where
  -- A value within its mask is so in the bits of the inputs.
  pub within_inputs : bit_and (value % 2 ^ inputs) (care % 2 ^ inputs) ≡ value % 2 ^ inputs
  within_inputs = sym (and_mod value care inputs) ∙ ap (λ (z : ℕ). z % 2 ^ inputs) under

  -- A value within its mask is so in the bits of the outputs.
  pub within_outputs : bit_and (value / 2 ^ inputs) (care / 2 ^ inputs) ≡ value / 2 ^ inputs
  within_outputs = sym (and_shr value care inputs) ∙ ap (λ (z : ℕ). z / 2 ^ inputs) under

-- A mask over all signals has no more bits for outputs than there are.
pub outputs_below : (inputs outputs care : ℕ) → care < 2 ^ (inputs + outputs) → care / 2 ^ inputs < 2 ^ outputs
outputs_below inputs outputs care h = shr_lt outputs inputs (rw (add_comm inputs outputs) at h)
