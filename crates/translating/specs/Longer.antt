-- Of a longer text the first 65,536 + 1 bytes decide, and of a longer file the first 5,974 + 1: it is enough to read those.
use Rattle.std.specs.Prelude.{◌≡◌, List, ◌++◌, length}
use Rattle.std.proofs.Math.Path.{refl, ap}
use Prim.Native.Nat.{ℕ, zero, suc, ◌≤◌}
use Rattle.std.proofs.Common.{arith}
use Rattle.std.proofs.Math.ListN.{length-append}
use borrow.Author.Tests.{lt-leb}
use Rattle.policy.specs.Check.{refusal_of}
use Rattle.policy.specs.Frame.{frame, longest}
use Rattle.wording.specs.Writer.{text_of_file}
use Rattle.printing.specs.Text.{unless_refused}
use Rattle.frames.specs.FileFront.{refusal_front}
use Rattle.translating.specs.ToFile.{compiled, file_of, line_of, written, printed}
use Rattle.translating.specs.ToText.{printed as shown}

module _ (front rest : List ℕ) where
  compiled_front : 65537 ≤ length front → compiled (front ++ rest) ≡ compiled front
  unfolding compiled
  compiled_front h =
      let n = length-append front rest in
      rw (lt-leb (length (front ++ rest)) 65536 (omega arith), lt-leb (length front) 65536 (omega arith))

  -- `compile` writes the same for a text and for a front of it of at least 65,537 bytes.
  pub written_front : 65537 ≤ length front → written (front ++ rest) ≡ written front
  unfolding written
  written_front h = ap file_of (compiled_front h)

  -- `compile` prints the same for both.
  pub printed_front : 65537 ≤ length front → printed (front ++ rest) ≡ printed front
  unfolding printed
  printed_front h = ap line_of (compiled_front h)

  -- `show` prints the same for a file and for a front of it of at least 5,975 bytes.
  pub shown_front : 5975 ≤ length front → shown (front ++ rest) ≡ shown front
  unfolding shown
  shown_front h = rw (refusal_front front rest h) (go (refusal_of front) refl)
    where
      go : (n : ℕ) → refusal_of front ≡ n → unless_refused n (text_of_file (front ++ rest)) ≡ unless_refused n (text_of_file front)
      go zero e = absurd (omega (arith, longest front (frame front e)))
      go (suc n) e = refl
