-- Bytes laid one part after the other, and what bytes that are copied say.
-- In order: parts laid one after the other; the midst of laying, turn by turn; the bytes of a copy, turn by turn; numbers and bounds that are copied;
-- parts of a file.
use Rattle.std.specs.Prelude.{◌≡◌, List, [], ◌∷◌, ◌++◌, length, take, drop, set}
use Rattle.std.proofs.Math.Path.{refl}
use Rattle.std.proofs.Common.{ap, ap₂, sym, ◌∙◌, append_assoc, append-nil, add-one, length-append, length-drop, drop_of_length-le, take_all, drop-drop, drop-cons}
use Prim.Native.Nat.{ℕ, zero, suc, ◌+◌, ◌-◌, ◌*◌, ◌/◌, ◌%◌, ◌≤◌, ◌<◌}
use native.Mathlib.Omega.{arith}
use Rattle.std.proofs.Math.Seq.{set_out, length-sets, take-append_seam, drop-append_seam}
use Rattle.std.proofs.lemmas.List.Edits.{sets, sets-eq}
use Rattle.policy.specs.File.{byte_at, pair_at, part, pairs_from, bounds_from, input_count, outputs_at, output_count, input_tags, output_tags}
use Rattle.policy.specs.Bytes.{pair_bytes, pairs_bytes, bounds_bytes}
use Rattle.policy.specs.Frame.{Framed}
use Rattle.laying.specs.Lay.{LaidAt, bytes_from}

sets_append : (l : List ℕ) (i : ℕ) (xs ys : List ℕ) → sets l i (xs ++ ys) ≡ sets (sets l i xs) (i + length xs) ys
sets_append l i [] ys = ap (λ (k : ℕ). sets l k ys) (omega arith)
sets_append l i (x ∷ xs) ys = sets_append (set l i x) (suc i) xs ys ∙ ap (λ (k : ℕ). sets (sets (set l i x) (suc i) xs) k ys) (omega arith)

-- Where no bytes are laid, slice and position stay.
pub laid_none : (l : List ℕ) (at : ℕ) → LaidAt [] l at l at
laid_none l at = record { ends = omega arith; lies = refl }

-- Two parts laid one after the other are laid as one.
pub laid_more : {xs ys l m n : List ℕ} {at i j : ℕ} → LaidAt xs l at m i → LaidAt ys m i n j → LaidAt (xs ++ ys) l at n j
laid_more {xs} {ys} {l} {m} {n} {at} {i} {j} g h =
    record {
      ends = rw length-append (omega arith);
      lies = h.lies ∙ rw (g.lies, g.ends) (sym (sets_append l at xs ys));
    }

-- The bytes that are laid may be given as any equal list.
pub laid_as : {xs ys l m : List ℕ} {at i : ℕ} → xs ≡ ys → LaidAt xs l at m i → LaidAt ys l at m i
laid_as e g = rw e at g

-- Laying leaves the slice as long as it was.
pub laid_length : {xs l m : List ℕ} {at i : ℕ} → LaidAt xs l at m i → length m ≡ length l
laid_length {xs} {l} {m} {at} g = rw g.lies (length-sets l at xs)

-- Two parts, the second laid into the part of the slice that begins after the first, and put back.
pub laid_parts : {xs ys l m n : List ℕ} {i j : ℕ} → length xs + length ys ≤ length l → LaidAt xs l 0 m i →
    LaidAt ys (take (length m - length xs) (drop (length xs) m)) 0 n j →
    take (length xs) m ++ (n ++ drop (length m - length xs) (drop (length xs) m)) ≡ (xs ++ ys) ++ drop (length (xs ++ ys)) l
laid_parts {xs} {ys} {l} {m} {n} h g k =
    let t : length (drop (length xs) m) ≤ length m - length xs = simp length-drop (omega arith) in
    let e : m ≡ xs ++ drop (length xs) l = g.lies ∙ front xs l (omega arith) in
    let d : take (length m - length xs) (drop (length xs) m) ≡ drop (length xs) l = take_all _ _ t ∙ rw e (drop-append_seam xs _) in
    let w : n ≡ ys ++ drop (length ys) (drop (length xs) l) = k.lies ∙ rw d (front ys (drop (length xs) l) (simp length-drop (omega arith))) in
    rw (drop_of_length-le (drop (length xs) m) t, append-nil, w, e, take-append_seam, drop-drop, length-append, append_assoc)
  where
    front : (vs rs : List ℕ) → length vs ≤ length rs → sets rs 0 vs ≡ vs ++ drop (length vs) rs
    front vs rs b = let z : 0 + length vs ≡ length vs = omega arith in sets-eq vs rs 0 (omega arith) ∙ rw z

-- Bytes past the slice's end change nothing, and a slice with no bytes stays so.
sets_out : (l : List ℕ) (i : ℕ) (xs : List ℕ) → length l ≤ i → sets l i xs ≡ l
sets_out l i [] h = refl
sets_out l i (x ∷ xs) h = rw (set_out l i x h) (sets_out l (suc i) xs (omega arith))

-- Bytes laid from the slice's end on leave it as it was.
pub laid_past : (xs l : List ℕ) (at : ℕ) → length l ≤ at → {end : ℕ} → end ≡ at + length xs → LaidAt xs l at l end
laid_past xs l at h e = record { ends = e; lies = sym (sets_out l at xs h) }

-- A slice with no bytes has none afterwards, whatever is laid into it.
pub laid_nowhere : {xs m : List ℕ} {at i : ℕ} → LaidAt xs [] at m i → m ≡ []
laid_nowhere {xs} {m} {at} g = g.lies ∙ sets_out [] at xs (omega arith)

-- In the midst of laying the whole: what is left, laid from here on, gives what the whole gives.
pub record LeftToLay (whole rest l : List ℕ) (at : ℕ) (m : List ℕ) (i : ℕ) : Type 0 where
  pub ends : i + length rest ≡ at + length whole
  pub lies : sets m i rest ≡ sets l at whole

-- Before the first turn the whole is left.
pub left_start : (whole l : List ℕ) (at : ℕ) → LeftToLay whole whole l at l at
left_start whole l at = record { ends = refl; lies = refl }

module _ {whole rest l m : List ℕ} {at i : ℕ} (g : LeftToLay whole rest l at m i) where
  -- A turn that lays the front of what is left leaves the rest.
  pub left_turn : {xs ys n : List ℕ} {j : ℕ} → rest ≡ xs ++ ys → LaidAt xs m i n j → LeftToLay whole ys l at n j
  left_turn {xs} {ys} {n} {j} e h =
      record {
        ends = omega (arith, simp length-append at (ap length e));
        lies = rw (h.lies, h.ends) (sym (sets_append m i xs ys) ∙ rw (← e) g.lies);
      }

  -- What is left may be given as any equal list.
  pub left_same : {ys : List ℕ} → rest ≡ ys → LeftToLay whole ys l at m i
  left_same e = rw (← e) g

  -- With nothing left the whole is laid.
  pub left_end : rest ≡ [] → LaidAt whole l at m i
  left_end e = record { ends = omega (arith, ap length e, g.ends); lies = sym (sym g.lies ∙ rw e) }

  -- At every turn the slice is as long as it was.
  pub left_length : length m ≡ length l
  left_length = sym (length-sets m i rest) ∙ ap length g.lies ∙ length-sets l at whole

-- What is left of n bytes after i of them; a turn, and the end.
pub bytes_start : (f : List ℕ) (at n : ℕ) → bytes_from f at n ≡ bytes_from f (at + 0) (n - 0)
bytes_start f at n = ap₂ (bytes_from f) (omega arith) (omega arith)

-- As long as i is below n: the byte i is next, and the others follow.
pub bytes_turn : (f : List ℕ) (at n i : ℕ) {v : ℕ} → i < n → v ≡ byte_at f (at + i) →
    bytes_from f (at + i) (n - i) ≡ (v ∷ []) ++ bytes_from f (at + (i + 1)) (n - (i + 1))
unfolding bytes_from
bytes_turn f at n i h v =
    let e : n - i ≡ suc (n - (i + 1)) = omega arith in
    let s : at + i + 1 ≡ at + (i + 1) = omega arith in rw (v, e, s)

-- After n bytes nothing is left.
pub bytes_end : (f : List ℕ) (at n i : ℕ) → n ≤ i → bytes_from f at (n - i) ≡ []
unfolding bytes_from
bytes_end f at n i h = let e : n - i ≡ 0 = omega arith in rw e

-- There are as many bytes as asked for.
pub bytes_length : (f : List ℕ) (at n : ℕ) → length (bytes_from f at n) ≡ n
unfolding bytes_from
bytes_length f at zero = refl
bytes_length f at (suc n) = ap suc (bytes_length f (at + 1) n)

-- Numbers and bounds are copied as the bytes that they are.
module _ (f : List ℕ) (b : (i : ℕ) → byte_at f i < 256) where
  two_copied : (at n : ℕ) → pair_bytes (pair_at f at) ++ bytes_from f (at + 2) n ≡ bytes_from f at (suc (suc n))
  unfolding bytes_from
  two_copied at n =
      let high : pair_at f at / 256 ≡ byte_at f at = omega (arith, b (at + 1)) in
      let low : pair_at f at % 256 ≡ byte_at f (at + 1) = omega (arith, b (at + 1)) in
      let e : at + 1 + 1 ≡ at + 2 = omega arith in rw (high, low, e)

  -- Two-byte numbers that are read and written again are the bytes that were read.
  pub pairs_copied : (at n : ℕ) → pairs_bytes (pairs_from f at n) ≡ bytes_from f at (2 * n)
  unfolding pairs_bytes pairs_from bytes_from
  pairs_copied at zero = refl
  pairs_copied at (suc n) =
      let e : 2 * suc n ≡ suc (suc (2 * n)) = omega arith in rw (e, pairs_copied (at + 2) n) (two_copied at (2 * n))

  -- Bounds that are read and written again are the bytes that were read.
  pub bounds_copied : (at k : ℕ) → bounds_bytes (bounds_from f at k) ≡ bytes_from f at (4 * k)
  unfolding bounds_bytes bounds_from bytes_from
  bounds_copied at zero = refl
  bounds_copied at (suc k) =
      let e : 4 * suc k ≡ suc (suc (suc (suc (4 * k)))) = omega arith in
      let s : at + 4 ≡ at + 2 + 2 = omega arith in
      rw (e, bounds_copied (at + 4) k, s, two_copied (at + 2) (4 * k)) (two_copied at (suc (suc (4 * k))))

-- The bytes of a file, part by part.
pub bytes_add : (f : List ℕ) (at n m : ℕ) → bytes_from f at (n + m) ≡ bytes_from f at n ++ bytes_from f (at + n) m
unfolding bytes_from
bytes_add f at zero m =
    let e : 0 + m ≡ m = omega arith in
    let s : at + 0 ≡ at = omega arith in rw (e, s)
bytes_add f at (suc n) m =
    let e : suc n + m ≡ suc (n + m) = omega arith in
    let s : at + 1 + n ≡ at + suc n = omega arith in rw (e, bytes_add f (at + 1) n m, s)

-- Bytes within the file are a part of it.
pub bytes_part : (f : List ℕ) (at n : ℕ) → at + n ≤ length f → bytes_from f at n ≡ part f at n
unfolding bytes_from
bytes_part f at zero h = refl
bytes_part f at (suc n) h =
    let l : at < length f = omega arith in rw (drop-cons f at 0 l, ← add-one at, bytes_part f (at + 1) n (omega arith))

-- Counts and tags.
pub signals_laid : (f : List ℕ) → Framed f → bytes_from f 0 (2 + input_count f + output_count f) ≡ (input_count f ∷ input_tags f) ++ (output_count f ∷ output_tags f)
unfolding bytes_from
signals_laid f k =
    let n : 2 + input_count f + output_count f ≡ suc (input_count f) + suc (output_count f) = omega arith in
    let s : 0 + suc (input_count f) ≡ outputs_at f = omega arith in
    rw (
      n,
      bytes_add f 0 (suc (input_count f)) (suc (output_count f)),
      s,
      bytes_part f 1 (input_count f) (omega arith),
      bytes_part f (outputs_at f + 1) (output_count f) (omega arith),
    )
