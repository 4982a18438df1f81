-- The first sets are full, and the others as they were.
use Rattle.std.proofs.Common.{refl, List, ◌++◌, ℕ, zero, suc, ◌≤◌, ◌<◌, length, drop, replicate, arith, add-one, length-take-le}
use Rattle.std.proofs.lemmas.List.Edits.{fill_more}
use Rattle.choice.specs.Changed.{Changed, changed_none, changed_more}
use Rattle.choice.proofs.sets.room.Goals as goal

filled : (v n : ℕ) (xs : List ℕ) → n ≤ length xs → Changed (λ _. v) n xs (replicate n v ++ drop n xs)
filled v zero xs l = changed_none _ xs
filled v (suc n) xs l =
    let before = filled v n xs (omega arith) in
    let short : n < length (replicate n v ++ drop n xs) = omega (arith, before.size) in
    rw (fill_more n v xs (omega arith), add-one) at (changed_more short refl before)

pub returns : goal.returns
returns c =
    let size = length-take-le c.args.inputs (replicate {A = ℕ} 16 0) c.requires.0 in
    rw (c.fill.ensures.after (λ y e. e), size, c.all_below.ensures) (filled _ c.args.inputs _ c.requires.0)
