-- Laws of what is kept, and of its new numbers.
use Rattle.std.specs.Prelude.{◌≡◌, refl, Bool, true, false, List, [], ◌∷◌, map, ℕ, zero, suc, ◌≤◌, ◌<◌, length}
use Rattle.std.proofs.Common.{ap, zero-le, le_refl, arith}
use Rattle.std.proofs.lemmas.Bool.{false≢true}
use Rattle.std.proofs.Math.Logic.{by_cases}
use Rattle.std.proofs.Math.Option
use Rattle.std.proofs.Math.Decide.{dec_lt}
use Rattle.usage.specs.Sift.{All, count, flag, kept, nth, rank, sift}

-- A new number is not above the old one.
pub rank_le : (L : List Bool) (i : ℕ) → rank L i ≤ i
rank_le L zero = le_refl 0
rank_le [] (suc i) = zero-le
rank_le (true ∷ L) (suc i) = omega (arith, rank_le L i)
rank_le (false ∷ L) (suc i) = omega (arith, rank_le L i)

-- The new number of what is kept is below how many are kept.
pub rank_kept : (L : List Bool) (i : ℕ) → flag L i ≡ true → rank L i < kept L
rank_kept [] i h = absurd (false≢true h)
rank_kept (true ∷ L) zero h = omega arith
rank_kept (false ∷ L) zero h = absurd (false≢true h)
rank_kept (true ∷ L) (suc i) h = omega (arith, rank_kept L i h)
rank_kept (false ∷ L) (suc i) h = rank_kept L i h

-- What is kept keeps its order.
pub rank_less : (L : List Bool) (i j : ℕ) → flag L i ≡ true → i < j → rank L i < rank L j
rank_less [] i j h l = absurd (false≢true h)
rank_less (b ∷ L) i zero h l = absurd (omega arith)
rank_less (true ∷ L) zero (suc j) h l = omega arith
rank_less (false ∷ L) zero (suc j) h l = absurd (false≢true h)
rank_less (true ∷ L) (suc i) (suc j) h l = omega (arith, rank_less L i j h (omega arith))
rank_less (false ∷ L) (suc i) (suc j) h l = rank_less L i j h (omega arith)

-- No two that are kept have the same new number.
pub rank_same : (L : List Bool) (i j : ℕ) → flag L i ≡ true → flag L j ≡ true → rank L i ≡ rank L j → i ≡ j
rank_same L i j p q e =
    by_cases (dec_lt i j) (λ l. absurd (omega (arith, rank_less L i j p l)))
    (λ g. by_cases (dec_lt j i) (λ l. absurd (omega (arith, rank_less L j i q l))) (λ h. omega arith))

-- Each new number is the number of something kept.
pub rank_from : (L : List Bool) (k : ℕ) → k < kept L → (i : ℕ) × (flag L i ≡ true) × (rank L i ≡ k)
rank_from [] k l = absurd (omega arith)
rank_from (true ∷ L) zero l = (0, refl, refl)
rank_from (true ∷ L) (suc k) l = let r = rank_from L k (omega arith) in (suc r.0, r.1, ap suc r.2)
rank_from (false ∷ L) k l = let r = rank_from L k l in (suc r.0, r.1, r.2)

-- What is kept of a list stands at its new number.
pub nth_sift : {A : Type 0} (L : List Bool) (xs : List A) (i : ℕ) → flag L i ≡ true → nth (sift L xs) (rank L i) ≡ nth xs i
nth_sift [] xs i h = absurd (false≢true h)
nth_sift (b ∷ L) [] i h = refl
nth_sift (true ∷ L) (x ∷ xs) zero h = refl
nth_sift (true ∷ L) (x ∷ xs) (suc i) h = nth_sift L xs i h
nth_sift (false ∷ L) (x ∷ xs) zero h = absurd (false≢true h)
nth_sift (false ∷ L) (x ∷ xs) (suc i) h = nth_sift L xs i h

-- An element of a mapped list is what the function makes of the old one.
pub nth_map : {A B : Type 0} (f : A → B) (xs : List A) (i : ℕ) → nth (map f xs) i ≡ Option.map f (nth xs i)
nth_map f [] i = refl
nth_map f (x ∷ xs) zero = refl
nth_map f (x ∷ xs) (suc i) = nth_map f xs i

-- With all flags set every element is kept.
pub sift_all : {A : Type 0} (L : List Bool) (xs : List A) → length L ≡ length xs → All L → sift L xs ≡ xs
sift_all [] [] e h = refl
sift_all [] (x ∷ xs) e h = absurd (omega arith)
sift_all (b ∷ L) [] e h = refl
sift_all (true ∷ L) (x ∷ xs) e h = ap (λ (ys : List _). x ∷ ys) (sift_all L xs (omega arith) (λ i l. h (suc i) (omega arith)))
sift_all (false ∷ L) (x ∷ xs) e h = absurd (false≢true (h 0 (omega arith)))

-- With all flags set as many are kept as there are.
pub kept_all : (L : List Bool) → All L → kept L ≡ length L
kept_all [] h = refl
kept_all (true ∷ L) h = ap suc (kept_all L (λ i l. h (suc i) (omega arith)))
kept_all (false ∷ L) h = absurd (false≢true (h 0 (omega arith)))

-- With all flags set each number stays.
pub rank_all : (L : List Bool) → All L → (i : ℕ) → i < length L → rank L i ≡ i
rank_all L h zero l = refl
rank_all [] h (suc i) l = absurd (omega arith)
rank_all (true ∷ L) h (suc i) l = ap suc (rank_all L (λ i l. h (suc i) (omega arith)) i (omega arith))
rank_all (false ∷ L) h (suc i) l = absurd (false≢true (h 0 (omega arith)))

-- How many are left.
pub length_sift : {A : Type 0} (L : List Bool) (xs : List A) → length L ≡ length xs → length (sift L xs) ≡ kept L
length_sift [] xs e = refl
length_sift (b ∷ L) [] e = absurd (omega arith)
length_sift (true ∷ L) (x ∷ xs) e = ap suc (length_sift L xs (omega arith))
length_sift (false ∷ L) (x ∷ xs) e = length_sift L xs (omega arith)

-- The new number at the end of the list is how many are kept.
pub rank_full : (L : List Bool) → rank L (length L) ≡ kept L
rank_full [] = refl
rank_full (b ∷ L) = ap (count b) (rank_full L)
