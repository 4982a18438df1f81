-- 02's "fixed table of 256 entries, one row of sixteen for each wanted value, listing all values from nearest to farthest".
use Rattle.std.specs.Prelude.{◌≡◌, refl, List, [], ◌∷◌, ℕ, ◌+◌, ◌*◌, ◌<◌, length, get_or, take, drop}
use Rattle.std.proofs.Common.{arith, length-take, length-drop, get_or-take, get_or-drop}

-- The numbers of the code, row by row.
unfoldable pub table : List ℕ
table =
    0 ∷ 8 ∷ 4 ∷ 2 ∷ 1 ∷ 12 ∷ 10 ∷ 6 ∷ 9 ∷ 5 ∷ 3 ∷ 14 ∷ 13 ∷ 11 ∷ 7 ∷ 15
    ∷ 1 ∷ 9 ∷ 5 ∷ 3 ∷ 0 ∷ 13 ∷ 11 ∷ 7 ∷ 8 ∷ 4 ∷ 2 ∷ 15 ∷ 12 ∷ 10 ∷ 6 ∷ 14
    ∷ 2 ∷ 10 ∷ 6 ∷ 0 ∷ 3 ∷ 14 ∷ 8 ∷ 4 ∷ 11 ∷ 7 ∷ 1 ∷ 12 ∷ 15 ∷ 9 ∷ 5 ∷ 13
    ∷ 3 ∷ 11 ∷ 7 ∷ 1 ∷ 2 ∷ 15 ∷ 9 ∷ 5 ∷ 10 ∷ 6 ∷ 0 ∷ 13 ∷ 14 ∷ 8 ∷ 4 ∷ 12
    ∷ 4 ∷ 12 ∷ 0 ∷ 6 ∷ 5 ∷ 8 ∷ 14 ∷ 2 ∷ 13 ∷ 1 ∷ 7 ∷ 10 ∷ 9 ∷ 15 ∷ 3 ∷ 11
    ∷ 5 ∷ 13 ∷ 1 ∷ 7 ∷ 4 ∷ 9 ∷ 15 ∷ 3 ∷ 12 ∷ 0 ∷ 6 ∷ 11 ∷ 8 ∷ 14 ∷ 2 ∷ 10
    ∷ 6 ∷ 14 ∷ 2 ∷ 4 ∷ 7 ∷ 10 ∷ 12 ∷ 0 ∷ 15 ∷ 3 ∷ 5 ∷ 8 ∷ 11 ∷ 13 ∷ 1 ∷ 9
    ∷ 7 ∷ 15 ∷ 3 ∷ 5 ∷ 6 ∷ 11 ∷ 13 ∷ 1 ∷ 14 ∷ 2 ∷ 4 ∷ 9 ∷ 10 ∷ 12 ∷ 0 ∷ 8
    ∷ 8 ∷ 0 ∷ 12 ∷ 10 ∷ 9 ∷ 4 ∷ 2 ∷ 14 ∷ 1 ∷ 13 ∷ 11 ∷ 6 ∷ 5 ∷ 3 ∷ 15 ∷ 7
    ∷ 9 ∷ 1 ∷ 13 ∷ 11 ∷ 8 ∷ 5 ∷ 3 ∷ 15 ∷ 0 ∷ 12 ∷ 10 ∷ 7 ∷ 4 ∷ 2 ∷ 14 ∷ 6
    ∷ 10 ∷ 2 ∷ 14 ∷ 8 ∷ 11 ∷ 6 ∷ 0 ∷ 12 ∷ 3 ∷ 15 ∷ 9 ∷ 4 ∷ 7 ∷ 1 ∷ 13 ∷ 5
    ∷ 11 ∷ 3 ∷ 15 ∷ 9 ∷ 10 ∷ 7 ∷ 1 ∷ 13 ∷ 2 ∷ 14 ∷ 8 ∷ 5 ∷ 6 ∷ 0 ∷ 12 ∷ 4
    ∷ 12 ∷ 4 ∷ 8 ∷ 14 ∷ 13 ∷ 0 ∷ 6 ∷ 10 ∷ 5 ∷ 9 ∷ 15 ∷ 2 ∷ 1 ∷ 7 ∷ 11 ∷ 3
    ∷ 13 ∷ 5 ∷ 9 ∷ 15 ∷ 12 ∷ 1 ∷ 7 ∷ 11 ∷ 4 ∷ 8 ∷ 14 ∷ 3 ∷ 0 ∷ 6 ∷ 10 ∷ 2
    ∷ 14 ∷ 6 ∷ 10 ∷ 12 ∷ 15 ∷ 2 ∷ 4 ∷ 8 ∷ 7 ∷ 11 ∷ 13 ∷ 0 ∷ 3 ∷ 5 ∷ 9 ∷ 1
    ∷ 15 ∷ 7 ∷ 11 ∷ 13 ∷ 14 ∷ 3 ∷ 5 ∷ 9 ∷ 6 ∷ 10 ∷ 12 ∷ 1 ∷ 2 ∷ 4 ∷ 8 ∷ 0 ∷ []

whole : length table ≡ 256
unfolding table
whole = refl

-- The row of a wanted value.
abbrev pub row : ℕ → List ℕ
row wanted = take 16 (drop (wanted * 16) table)

module _ (w : ℕ) (h : w < 16) where
  -- A row has sixteen entries.
  pub row_length : length (row w) ≡ 16
  row_length = rw (length-take, length-drop, whole) (omega arith)

  -- The i-th entry of a row, by its place in the table.
  pub row_entry : (i : ℕ) → i < 16 → get_or (row w) i 0 ≡ get_or table (w * 16 + i) 0
  row_entry i l = rw (get_or-take, get_or-drop)
