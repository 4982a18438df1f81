-- What is written piece by piece.
use Rattle.std.specs.Prelude.{◌≡◌, refl, List, [], ◌∷◌, ◌++◌, ℕ, ◌+◌, ◌≤◌, ◌<◌, length, take, drop, set}
use Rattle.std.proofs.Common.{sym, ap, ◌∙◌, append_assoc, add-zero, arith, length-append, length-take, take_at, drop_at, drop-drop}
use Rattle.std.proofs.lemmas.List.Edits.{sets-eq}
use Rattle.std.proofs.Math.Seq.{paste-zero}
use Rattle.texts.specs.Wrote.{Wrote}

-- Nothing is written.
pub wrote_none : (before : List ℕ) (at : ℕ) → Wrote before at [] at before
wrote_none before at = record { text = paste-zero before at []; next = sym (add-zero at) }

-- A store writes one byte.
pub wrote_byte : (before : List ℕ) (at b : ℕ) → at < length before → Wrote before at (b ∷ []) (at + 1) (set before at b)
wrote_byte before at b h = record { text = sets-eq (b ∷ []) before at (omega arith); next = refl }

module _ {before after bytes : List ℕ} {at r : ℕ} (h : at ≤ length before) (w : Wrote before at bytes r after) where
  front_length : length (take at before ++ bytes) ≡ r
  front_length = simp (length-append, length-take) (omega (arith, w.next))

  -- What is written so far.
  pub wrote_front : take r after ≡ take at before ++ bytes
  wrote_front = rw w.text (take_at _ _ r front_length)

  -- What stood after it.
  pub wrote_rest : (n : ℕ) → drop (r + n) after ≡ drop (r + n) before
  wrote_rest n =
      rw (
        w.text,
        ← drop-drop n r (take at before ++ bytes ++ drop (at + length bytes) before),
        drop_at _ _ r front_length,
        drop-drop,
        ← w.next,
      )

  -- It is within the text, which is as long as it was.
  pub wrote_within : length after ≡ length before → r ≤ length before
  wrote_within e =
      let n = length-append (take at before ++ bytes) (drop (at + length bytes) before) in
      omega (arith, front_length, ap length w.text)

-- What is written in two parts, one after the other.
pub wrote_then :
    {before middle after bytes more : List ℕ} {at r s : ℕ} →
    at ≤ length before → Wrote before at bytes r middle → Wrote middle r more s after → Wrote before at (bytes ++ more) s after
wrote_then {before} {middle} {after} {bytes} {more} {at} {r} {s} h w v =
    let n : r + length more ≡ at + length (bytes ++ more) = simp length-append (omega (arith, w.next)) in record {
      text = rw (v.text, wrote_front h w, wrote_rest h w (length more), n, append_assoc (take at before) bytes more);
      next = v.next ∙ n;
    }
