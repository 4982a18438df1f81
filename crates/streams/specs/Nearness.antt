-- Which of two corrections is nearer: 01's "the x' of this kind that differs from x in the fewest bits is taken", and among equals 02's "at the first
-- listed signal in which the two differ, the one that leaves that signal as read wins".
use Rattle.std.specs.Prelude.{◌≡◌, ◌⊎◌, Bool, false, cond, ℕ, zero, suc, ◌+◌, ◌/◌, ◌%◌, ◌<◌, eqb, ltb}
use Rattle.std.specs.Int.Bits.{bit_xor}
use Rattle.std.specs.Int.Count.{ones}

-- In how many bits two values differ.
unfoldable pub distance : ℕ → ℕ → ℕ
distance wanted a = ones (bit_xor wanted a)

-- What a value gives signal i. Bit 0 is the first listed signal.
unfoldable pub signal : ℕ → ℕ → ℕ
signal a zero = a % 2
signal a (suc i) = signal (a / 2) i

-- "at the first listed signal in which the two differ, the one that leaves that signal as read wins": a leaves it, b does not.
pub record Spares (wanted a b : ℕ) : Type 0 where
  pub at : ℕ
  pub before : (i : ℕ) → i < at → signal a i ≡ signal b i
  pub left : signal a at ≡ signal wanted at
  pub changed : signal b at ≡ signal wanted at → ⊥

-- "in the fewest bits"; "When two corrections are equally near", the one that spares the first signal.
abbrev pub NoFarther : ℕ → ℕ → ℕ → Type 0
NoFarther wanted a b =
    (distance wanted a < distance wanted b)
    ⊎ ((distance wanted a ≡ distance wanted b) × ((a ≡ b) ⊎ Spares wanted a b))

-- The test for `Spares`, over the first n signals.
unfoldable pub spares : ℕ → ℕ → ℕ → ℕ → Bool
spares zero wanted a b = false
spares (suc n) wanted a b = cond (eqb (a % 2) (b % 2)) (spares n (wanted / 2) (a / 2) (b / 2)) (eqb (a % 2) (wanted % 2))

-- The test by which a value takes the place of the best so far. Past a + b signals both values have none.
unfoldable pub nearer : ℕ → ℕ → ℕ → Bool
nearer wanted a b = cond (eqb (distance wanted a) (distance wanted b)) (spares (a + b) wanted a b) (ltb (distance wanted a) (distance wanted b))
