-- Of a file longer than the longest policy the first 5,974 + 1 bytes decide: it is enough to read those.
use Rattle.std.specs.Prelude.{◌≡◌, List, ◌++◌, length}
use Rattle.std.proofs.Math.Path.{refl}
use Prim.Native.Nat.{ℕ, zero, suc, ◌≤◌}
use Rattle.std.proofs.Common.{arith}
use Rattle.policy.specs.File.{policy_of}
use Rattle.policy.specs.Check.{refusal_under}
use Rattle.policy.specs.CheckLaws.{under_none}
use Rattle.policy.specs.Frame.{frame, longest}
use Rattle.cleaning.specs.Entry.{struck_of, cleaned_file}
use Rattle.frames.specs.FileFront.{refusal_front}
use Rattle.printing.specs.Text.{unless_refused}
use Rattle.listing.specs.Listed.{lines, left_line, none_refused, written, printed}

module _ (front rest : List ℕ) (long : 5975 ≤ length front) (reading : ℕ) where
  abbrev whole : List ℕ
  whole = front ++ rest

  under_front : refusal_under reading whole ≡ refusal_under reading front
  unfolding refusal_under
  under_front = rw (refusal_front front rest long)

  refused : ¬ (refusal_under reading front ≡ 0)
  refused e = omega (arith, longest front (frame front ((under_none reading front).0 e).1))

  -- What `clean` prints and writes for the whole file is what it does for its front.
  pub printed_front : printed reading whole ≡ printed reading front
  unfolding printed
  printed_front = rw under_front (go (refusal_under reading front) refl)
    where
      go : (n : ℕ) → refusal_under reading front ≡ n →
          unless_refused n (lines (struck_of (policy_of reading whole)) ++ left_line (length (cleaned_file reading whole)))
          ≡ unless_refused n (lines (struck_of (policy_of reading front)) ++ left_line (length (cleaned_file reading front)))
      go zero e = absurd (refused e)
      go (suc n) e = refl

  -- `clean` writes the same for the whole file and for its front.
  pub written_front : written reading whole ≡ written reading front
  unfolding written
  written_front = rw under_front (go (refusal_under reading front) refl)
    where
      go : (n : ℕ) → refusal_under reading front ≡ n → none_refused n (cleaned_file reading whole) ≡ none_refused n (cleaned_file reading front)
      go zero e = absurd (refused e)
      go (suc n) e = refl
