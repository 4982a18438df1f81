-- Bytes laid into a slice from a position on, as far as the slice reaches.
use Rattle.std.specs.Prelude.{◌≡◌, List, [], ◌∷◌, ℕ, zero, suc, ◌+◌, length}
use Rattle.std.proofs.Common.{sym, ◌∙◌}
use Rattle.std.specs.Int.Bits.{bit_or}
use Rattle.std.proofs.lemmas.List.Edits.{sets}
use Rattle.policy.specs.File.{byte_at}

-- n bytes from a position on. Past the end stands 0.
unfoldable pub bytes_from : List ℕ → ℕ → ℕ → List ℕ
bytes_from f at zero = []
bytes_from f at (suc n) = byte_at f at ∷ bytes_from f (at + 1) n

-- n bytes, each with the bits of either.
unfoldable pub either_from : List ℕ → ℕ → List ℕ → ℕ → ℕ → List ℕ
either_from f p g q zero = []
either_from f p g q (suc n) = bit_or (byte_at f p) (byte_at g q) ∷ either_from f (p + 1) g (q + 1) n

-- The bytes stand in the slice from `at` on, as far as it reaches, and `end` is the position after them. All else stayed.
pub record LaidAt (bytes before : List ℕ) (at : ℕ) (after : List ℕ) (end : ℕ) : Type 0 where
  pub ends : end ≡ at + length bytes
  pub lies : after ≡ sets before at bytes

-- One slice alone and one position alone meet it.
pub laid_one : {bytes before after also : List ℕ} {at end stop : ℕ} → LaidAt bytes before at after end → LaidAt bytes before at also stop → (after ≡ also) × (end ≡ stop)
laid_one c d = (c.lies ∙ sym d.lies, c.ends ∙ sym d.ends)
