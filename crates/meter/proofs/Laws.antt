-- What the proofs of the code share: a station's six numbers, and the totals after a store.
use Rattle.std.proofs.Common.{◌≡◌, ℕ, ◌+◌, ◌≤◌, Bool, true, false, List, [], ◌∷◌, length, get_or, take, drop, set, refl, ap, ◌∙◌, arith, length-take-le, drop_at, leb-true}
use lib.Seq.{set_split}
use Rattle.meter.specs.Meter.{billed, unbilled, risen, fits}

-- The sixth number and what stands past it are left after the state, once the register is stored.
pub sixth : (s : List ℕ) (r : ℕ) → 6 ≤ length s → drop 5 (set s 5 r) ≡ r ∷ drop 6 s
sixth s r h = ap (drop 5) (set_split s 5 r (omega arith)) ∙ drop_at (take 5 s) (r ∷ drop 6 s) 5 (length-take-le 5 s (omega arith))

-- The totals after a store.
first_total : (t : List ℕ) (n : ℕ) → 2 ≤ length t → set t 0 n ≡ n ∷ get_or t 1 0 ∷ drop 2 t
first_total (a ∷ b ∷ t) n h = refl
first_total (a ∷ []) n h = absurd (omega arith)
first_total [] n h = absurd (omega arith)

second_total : (t : List ℕ) (n : ℕ) → 2 ≤ length t → set t 1 n ≡ get_or t 0 0 ∷ n ∷ drop 2 t
second_total (a ∷ b ∷ t) n h = refl
second_total (a ∷ []) n h = absurd (omega arith)
second_total [] n h = absurd (omega arith)

module _ (t : List ℕ) (on : Bool) (n : ℕ) where
  pub first_room : on ≡ true → fits t on n ≡ true → billed t + n ≤ 4294967295
  unfolding fits
  first_room e h = leb-true (billed t + n) 4294967295 (rw e at h)

  pub second_room : on ≡ false → fits t on n ≡ true → unbilled t + n ≤ 4294967295
  unfolding fits
  second_room e h = leb-true (unbilled t + n) 4294967295 (rw e at h)

  pub first_risen : on ≡ true → 2 ≤ length t → set t 0 (billed t + n) ≡ risen t on n
  unfolding risen
  first_risen e h = rw e (first_total t (billed t + n) h)

  pub second_risen : on ≡ false → 2 ≤ length t → set t 1 (unbilled t + n) ≡ risen t on n
  unfolding risen
  second_risen e h = rw e (second_total t (unbilled t + n) h)

pub both_cleared : (t : List ℕ) → 2 ≤ length t → set (set t 0 0) 1 0 ≡ 0 ∷ 0 ∷ drop 2 t
both_cleared (a ∷ b ∷ t) h = refl
both_cleared (a ∷ []) h = absurd (omega arith)
both_cleared [] h = absurd (omega arith)
