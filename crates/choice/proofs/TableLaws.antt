-- 02's "fixed table of 256 entries, one row of sixteen for each wanted value, listing all values from nearest to farthest".
use Rattle.std.specs.Prelude.{◌≡◌, refl, Bool, true, ℕ, ◌+◌, ◌*◌, ◌≤◌, ◌<◌, get_or}
use Rattle.std.proofs.Common.{arith}
use Rattle.std.specs.Int.Count.{ones, ones_in}
use Rattle.streams.specs.Nearness.{distance, nearer, spares}
use Rattle.streams.specs.Choose.{nearest}
use Rattle.streams.specs.Rows.{first_of, rising, rows, row_at, rising_below, first_nearest}
use Rattle.choice.specs.Table.{table, row, row_length, row_entry}

-- Every row is ordered by distance, then by the first signal kept: one test over the whole table.
ordered : rows 16 16 0 table ≡ true
unfolding table rows rising nearer distance spares ones ones_in
ordered = refl

module _ (w : ℕ) (h : w < 16) where
  row_rising : rising 16 w (row w) ≡ true
  row_rising = let e : 0 + w ≡ w = omega arith in rw e at (row_at 16 16 0 table ordered w h)

  -- Each entry is below 16.
  pub entry_below : (i : ℕ) → i < 16 → get_or table (w * 16 + i) 0 < 16
  entry_below i l = rw (row_entry w h i l) at (rising_below w 16 (row w) row_rising i (omega (arith, (row_length w h))))

  -- The first of the row that is below n and may stand is the nearest.
  pub row_nearest : (may : ℕ → Bool) (n : ℕ) → n ≤ 16 → first_of may n (row w) ≡ nearest may w n
  row_nearest may n l = first_nearest w may n 16 (row w) row_rising (row_length w h) l
