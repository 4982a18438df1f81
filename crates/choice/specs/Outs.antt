-- The outputs that agree with a rule's output care and value, as a set.
use Rattle.std.specs.Prelude.{◌≡◌, refl, Bool, true, false, cond, ◌&&◌, not, List, [], ◌∷◌, ℕ, ◌-◌, ◌*◌, ◌/◌, ◌%◌, ◌^◌, ◌≤◌, ◌<◌, eqb, get_or}
use Rattle.std.proofs.Common.{sym, arith, eq-eqb, eqb-true}
use Rattle.std.specs.Int.Bits.{bit_and}
use Rattle.std.proofs.lemmas.Nat.{and_le_r}
use Rattle.std.proofs.lemmas.Bool.{not-false}
use Rattle.streams.specs.Choose.{some_below}
use Rattle.streams.specs.ChooseLaws.{some_none}
use Rattle.choice.specs.Sets.{has}

-- Of one output signal: `ones` are the values below 16 in which its bit is 1.
abbrev pub column : ℕ → ℕ → ℕ → ℕ
column care value ones = cond (eqb (care % 2) 1) (cond (eqb (value % 2) 1) ones (65535 - ones)) 65535

-- The outputs below 16 that agree with the care bits and the value, as a set.
unfoldable pub outs : ℕ → ℕ → ℕ
outs care value =
    bit_and (bit_and (column care value 0xAAAA) (column (care / 2) (value / 2) 0xCCCC))
    (bit_and (column (care / 4) (value / 4) 0xF0F0) (column (care / 8) (value / 8) 0xFF00))

-- Some value, output or care bits below 16 are wrong: computed, and there are none.
wrong : ℕ → ℕ → ℕ → Bool
wrong care value y = eqb (bit_and value care) value && not (cond (eqb (bit_and y care) value) (has (outs care value) y) (not (has (outs care value) y)))

none_wrong : some_below (λ care. some_below (λ value. some_below (wrong care value) 16) 16) 16 ≡ false
unfolding some_below outs has wrong
none_wrong = refl

-- An output is in the set exactly if it agrees.
pub outs_has : (care value y : ℕ) → care < 16 → bit_and value care ≡ value → y < 16 → has (outs care value) y ≡ eqb (bit_and y care) value
unfolding wrong
outs_has care value y h e l =
    let k : bit_and value care ≤ care = and_le_r value care in
    let n : value < 16 = omega arith in
    let w = some_none (wrong care value) 16 (some_none (λ v. some_below (wrong care v) 16) 16 (some_none _ 16 none_wrong care h) value n) y l in
    go (eqb (bit_and y care) value) (has (outs care value) y) (rw (eq-eqb _ _ e) at w)
  where
    go : (a b : Bool) → not (cond a b (not b)) ≡ false → b ≡ a
    go true true q = refl
    go true false q = sym q
    go false true q = q
    go false false q = refl

-- The numbers of the code: for each of sixteen care bits, the outputs in which all of them are 0.
unfoldable pub clear : List ℕ
clear =
    0xFFFF ∷ 0x5555 ∷ 0x3333 ∷ 0x1111 ∷ 0x0F0F ∷ 0x0505 ∷ 0x0303 ∷ 0x0101 ∷ 0x00FF ∷ 0x0055 ∷ 0x0033 ∷ 0x0011 ∷ 0x000F ∷ 0x0005 ∷ 0x0003 ∷ 0x0001 ∷ []

-- Those that agree with a value stand as much higher as it says: computed, and none does not.
strays : ℕ → ℕ → Bool
strays care value = not (eqb ((get_or clear care 0 * 2 ^ bit_and value care) % 2 ^ 16) (outs care value))

none_strays : some_below (λ care. some_below (strays care) 16) 16 ≡ false
unfolding some_below outs clear strays
none_strays = refl

-- The outputs that agree are the clear ones, shifted up by the value within the care bits.
pub clear_outs : (care value : ℕ) → care < 16 → value < 16 → (get_or clear care 0 * 2 ^ bit_and value care) % 2 ^ 16 ≡ outs care value
unfolding strays
clear_outs care value h l = eqb-true _ _ (not-false _ (some_none (strays care) 16 (some_none _ 16 none_strays care h) value l))

-- Only the first four bits count.
pub outs_low : (care value : ℕ) → outs (care % 16) (value % 16) ≡ outs care value
unfolding outs
outs_low care value =
    rw (
      bit0 care,
      bit0 value,
      bit1 care,
      bit1 value,
      bit2 care,
      bit2 value,
      bit3 care,
      bit3 value,
    )
  where
    bit0 : (n : ℕ) → n % 16 % 2 ≡ n % 2
    bit0 n = omega arith

    bit1 : (n : ℕ) → n % 16 / 2 % 2 ≡ n / 2 % 2
    bit1 n = omega arith

    bit2 : (n : ℕ) → n % 16 / 4 % 2 ≡ n / 4 % 2
    bit2 n = omega arith

    bit3 : (n : ℕ) → n % 16 / 8 % 2 ≡ n / 8 % 2
    bit3 n = omega arith
