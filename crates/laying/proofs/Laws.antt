-- What the proofs of the writers cite of bytes that are laid one by one.
use Rattle.std.proofs.Common.{◌≡◌, refl, sym, List, [], ◌∷◌, ◌++◌, ℕ, zero, suc, ◌+◌, ◌-◌, ◌≤◌, ◌<◌, length, get_or, take, drop, add-one, drop-cons, drop_of_length-le, arith}
use Rattle.std.specs.Int.Bits.{bit_or}
use Rattle.laying.specs.Lay.{LaidAt, bytes_from, either_from}
use Rattle.laying.specs.Laying.{LeftToLay, left_turn, left_end, bytes_part}

-- A turn lays the byte at k, and leaves those after it.
pub left_next : {bytes l m n : List ℕ} {at i j : ℕ} (k : ℕ) → k < length bytes → LeftToLay bytes (drop k bytes) l at m i →
    LaidAt (get_or bytes k 0 ∷ []) m i n j → LeftToLay bytes (drop (k + 1) bytes) l at n j
left_next {bytes} k h g t = left_turn g (rw (add-one, drop-cons bytes k 0)) t

-- After the last byte all are laid.
pub left_all : {bytes l m : List ℕ} {at i : ℕ} (k : ℕ) → length bytes ≤ k → LeftToLay bytes (drop k bytes) l at m i → LaidAt bytes l at m i
left_all {bytes} k h g = left_end g (drop_of_length-le bytes h)

-- The bytes that a range of the file holds.
pub range_bytes : (f : List ℕ) (at n : ℕ) → at + n ≤ length f → take (at + n - at) (drop at f) ≡ bytes_from f at n
range_bytes f at n h = let e : at + n - at ≡ n = omega arith in rw e (sym (bytes_part f at n h))

-- Bytes with the bits of either, pair by pair.
unfoldable pub eithers : List ℕ → List ℕ → List ℕ
eithers [] ys = []
eithers (x ∷ xs) [] = []
eithers (x ∷ xs) (y ∷ ys) = bit_or x y ∷ eithers xs ys

-- A turn takes a byte of each.
pub eithers_next : {xs ys us vs : List ℕ} {x y : ℕ} → xs ≡ x ∷ us → ys ≡ y ∷ vs → eithers xs ys ≡ (bit_or x y ∷ []) ++ eithers us vs
unfolding eithers
eithers_next e f = rw (e, f)

-- With no byte left of the first, nothing is.
pub eithers_end : (xs ys : List ℕ) → length xs ≤ 0 → eithers xs ys ≡ []
unfolding eithers
eithers_end [] ys h = refl
eithers_end (x ∷ xs) ys h = absurd (omega arith)

both_ranges : (f : List ℕ) (p : ℕ) (g : List ℕ) (q n : ℕ) → p + n ≤ length f → q + n ≤ length g →
    either_from f p g q n ≡ eithers (take n (drop p f)) (take n (drop q g))
unfolding eithers either_from
both_ranges f p g q zero h k = refl
both_ranges f p g q (suc n) h k =
    let l : p < length f = omega arith in
    let m : q < length g = omega arith in
    rw (drop-cons f p 0 l, drop-cons g q 0 m, ← add-one p, ← add-one q, both_ranges f (p + 1) g (q + 1) n (omega arith) (omega arith))

-- Two ranges of as many bytes.
pub range_eithers : (f : List ℕ) (p : ℕ) (g : List ℕ) (q n : ℕ) → p + n ≤ length f → q + n ≤ length g →
    either_from f p g q n ≡ eithers (take (p + n - p) (drop p f)) (take (q + n - q) (drop q g))
range_eithers f p g q n h k =
    let d : p + n - p ≡ n = omega arith in
    let e : q + n - q ≡ n = omega arith in rw (d, e) (both_ranges f p g q n h k)
