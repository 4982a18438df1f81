-- What the proof of `weight_at` goes by: what is looked at, one tag after the other.
use mathlib.Core.Path.{◌≡◌, refl, sym, ap, ap₂, ◌∙◌}
use mathlib.Core.Bool.{Bool, true, false, ◌&&◌, cond}
use mathlib.Core.List.{List, ◌∷◌}
use Prim.Native.Nat.{ℕ, suc, ◌+◌, ◌*◌, ◌%◌, ◌^◌, ◌≤◌, ◌<◌, min}
use native.Mathlib.Nat.{mul-one, one-mul, mul_assoc, pow-suc}
use native.Mathlib.Omega.{arith}
use denote.Ref.{Bor}
use lib.Dec.{ltb, eqb, lit<}
use lib.ListN.{length, get_or, drop, length-take, length-drop, drop_of_length-le}
use lib.Pow.{shl_exact}
use lib.Seq.{drop-cons, get_or-take, get_or-drop}
use borrow.Author.Tests.{lt-ltb, le-ltb, ltb-true, ltb-false}
use Rattle.std.proofs.Common.{Option, Some, None}
use Rattle.std.specs.List.{HoldsAt}
use Rattle.std.specs.Option.{MatchOption, option_eq}
use Rattle.policy.specs.File.{byte_at, part}
use Rattle.policy.specs.Signals.{weight_of, tags_at}

-- Whether what `get` found is this number.
pub is_found : (o : Option (Bor ℕ)) (t : Bor ℕ) (f : List ℕ) (k : ℕ) → MatchOption o (length f ≤ k) (λ x. (k < length f) × HoldsAt (λ y. x.now ≡ y) f k) →
    option_eq (λ x y. eqb x.now y.now) o (Some t) ≡ (ltb k (length f) && eqb (get_or f k 0) t.now)
is_found None t f k h = rw (le-ltb k (length f) h)
is_found (Some x) t f k h = rw (lt-ltb k (length f) h.0, h.1 0)

module _ (tag : ℕ) (f : List ℕ) (at : ℕ) where
  weight_end : (i : ℕ) → length (tags_at f at) ≤ i → weight_of tag (drop i (tags_at f at)) ≡ 0
  unfolding weight_of
  weight_end i h = rw (drop_of_length-le (tags_at f at) {i = i} h)

  pub file_ends : (i : ℕ) → length f ≤ at + 1 + i → weight_of tag (drop i (tags_at f at)) ≡ 0
  file_ends i h = weight_end i (simp (length-take, length-drop) (omega arith))

  -- No signal is left: there are no more in the section, or four were looked at.
  pub no_more : (i : ℕ) → min (byte_at f at) 4 ≤ i → weight_of tag (drop i (tags_at f at)) ≡ 0
  no_more i h = weight_end i (simp (length-take, length-drop) (omega arith))

  -- The signal at i, if the file has it, and those after it.
  pub weight_turn : (i : ℕ) → i < min (byte_at f at) 4 →
      weight_of tag (drop i (tags_at f at)) ≡ cond (ltb (at + 1 + i) (length f) && eqb (get_or f (at + 1 + i) 0) tag) 1 (2 * weight_of tag (drop (i + 1) (tags_at f at)))
  unfolding weight_of
  weight_turn i h = go (ltb (at + 1 + i) (length f)) refl
    where
      go : (t : Bool) → ltb (at + 1 + i) (length f) ≡ t →
          weight_of tag (drop i (tags_at f at)) ≡ cond (t && eqb (get_or f (at + 1 + i) 0) tag) 1 (2 * weight_of tag (drop (i + 1) (tags_at f at)))
      go true c =
          let w : at + 1 + i < length f = ltb-true _ _ c in
          let l : i < length (tags_at f at) = simp (length-take, length-drop) (omega arith) in
          let e : get_or (tags_at f at) i 0 ≡ get_or f (at + 1 + i) 0 =
          get_or-take 4 (part f (at + 1) (byte_at f at)) i 0 (omega arith) ∙ get_or-take (byte_at f at) (drop (at + 1) f) i 0 (omega arith) ∙ get_or-drop (at + 1) f i 0
          in
          let n : suc i ≡ i + 1 = omega arith in
          ap (weight_of tag) (drop-cons (tags_at f at) i 0 l ∙ ap₂ {C = List ℕ} ◌∷◌ e (ap (λ (k : ℕ). drop k (tags_at f at)) n))
      go false c =
          let w : length f ≤ at + 1 + i = ltb-false _ _ c in
          rw (file_ends i w, file_ends (i + 1) (omega arith))

-- Weights: a shift of 1 in a byte, and the next.
pub one_shl_byte : (i : ℕ) → i < 4 → 1 * 2 ^ i % 256 ≡ 2 ^ i * 1
one_shl_byte i h = shl_exact {a = 1} 1 i 8 (lit< tt) (omega arith) ∙ one-mul (2 ^ i) ∙ sym (mul-one (2 ^ i))

pub twice : (i w : ℕ) → 2 ^ (i + 1) * w ≡ 2 ^ i * (2 * w)
twice i w = let n : i + 1 ≡ suc i = omega arith in rw (n, pow-suc 2 i, mul_assoc (2 ^ i) 2 w)
