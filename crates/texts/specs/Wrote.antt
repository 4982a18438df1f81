-- A part of a text that is written.
use Rattle.std.specs.Prelude.{◌≡◌, List, ◌++◌, ℕ, ◌+◌, length, take, drop}
use Rattle.std.proofs.Common.{sym, ◌∙◌}

-- The bytes stand at `at`, r is the position after them, and what stood before and after them stays.
pub record Wrote (before : List ℕ) (at : ℕ) (bytes : List ℕ) (r : ℕ) (after : List ℕ) : Type 0 where
  pub text : after ≡ take at before ++ bytes ++ drop (at + length bytes) before
  pub next : r ≡ at + length bytes

-- One text and one position alone are what was written.
pub wrote_one :
    {before after other bytes : List ℕ} {at r s : ℕ} → Wrote before at bytes r after → Wrote before at bytes s other →
    (r ≡ s) × (after ≡ other)
wrote_one w v = (w.next ∙ sym v.next, w.text ∙ sym v.text)
