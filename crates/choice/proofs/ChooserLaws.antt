-- A turn of the walk along a row of values.
use Rattle.std.specs.Prelude.{◌≡◌, Bool, true, false, List, ◌∷◌, ℕ, ◌+◌, ◌≤◌, ◌<◌, length, get_or, drop}
use Rattle.std.proofs.Common.{add-one, drop-cons, lt-ltb, le-ltb}
use Rattle.std.proofs.Math.ListN.{drop_of_length-le}
use Rattle.std.proofs.Math.Option.{Option, none, some}
use Rattle.streams.specs.Rows.{first_of}

-- The value at place i comes before those behind it.
turn : (row : List ℕ) (i : ℕ) → i < length row → drop i row ≡ get_or row i 0 ∷ drop (i + 1) row
turn row i l = rw (add-one, drop-cons row i 0)

module _ (may : ℕ → Bool) (n : ℕ) (row : List ℕ) (chosen : Option ℕ) where
  -- None of the first i values is below n and may stand: the rest of the row decides.
  abbrev pub LeftOfRow : ℕ → Type 0
  LeftOfRow i = first_of may n (drop i row) ≡ chosen

  pub left_ends : {i : ℕ} → length row ≤ i → LeftOfRow i → none ≡ chosen
  unfolding first_of
  left_ends l e = rw (drop_of_length-le row l) at e

  module _ {i : ℕ} (l : i < length row) where
    pub left_found : LeftOfRow i → get_or row i 0 < n → may (get_or row i 0) ≡ true → some (get_or row i 0) ≡ chosen
    unfolding first_of
    left_found e k m = rw (turn row i l, lt-ltb (get_or row i 0) n k, m) at e

    pub left_out : LeftOfRow i → n ≤ get_or row i 0 → LeftOfRow (i + 1)
    unfolding first_of
    left_out e k = rw (turn row i l, le-ltb (get_or row i 0) n k) at e

    pub left_passed : LeftOfRow i → get_or row i 0 < n → may (get_or row i 0) ≡ false → LeftOfRow (i + 1)
    unfolding first_of
    left_passed e k m = rw (turn row i l, lt-ltb (get_or row i 0) n k, m) at e
