-- What is written by each outcome of the checks, and by each answer of the writer.
use Rattle.std.proofs.Math.Path.{◌≡◌, sym}
use Rattle.std.proofs.Common.{◌∙◌, zero-add, arith}
use Rattle.std.specs.Prelude.{List, length, take}
use Prim.Native.Nat.{ℕ, zero, suc}
use Rattle.streams.specs.Answer.{refused, gives, answer}
use Rattle.streams.specs.AnswerLaws.{given_only}
use Rattle.prepare.specs.declared.Summary.{Summary}
use Rattle.texts.specs.Wrote.{Wrote}
use Rattle.printing.specs.Text.{refused_line, unless_refused}
use Rattle.frames.specs.Frame.{policy_part, events_part}
use Rattle.console.specs.Outcome.{lent, outcome}
use Rattle.console.specs.OutcomeLaws.{Enforces, lent_length}
use Rattle.drawing.specs.Entry.{text_of, written_over, write_refusal, write_of, written_out}
use Rattle.waves.specs.Promise.{WritePromise}
use Rattle.viewer.specs.Shown.{file_or_line, shown}

-- Of the slice for the text, the writer's refusal depends on its length alone.
module _ (file released before : List ℕ) (room : length before ≡ 508119) where
  room_alike : write_refusal file released (lent 508119) ≡ write_refusal file released before
  unfolding write_refusal
  room_alike = rw (lent_length 508119, room)

  -- The writer gives a length, or refuses.
  pub file_written : {n : ℕ} {after : List ℕ} → WritePromise file released before (gives n) after → Wrote before 0 (file_or_line file released) n after
  unfolding file_or_line write_of written_out
  file_written {n} w =
      let k = given_only (write_refusal file released before) (length (text_of file released)) n (sym w.answers) in
      rw (room_alike, k.0) (record { text = w.writes ∙ rw (k.0, zero-add); next = sym k.1 ∙ sym (zero-add (length (text_of file released))) })

  -- The writer refuses: the line of the refusal is written, and the slice stays as it was.
  pub file_refused : {n : ℕ} {after : List ℕ} → WritePromise file released before (refused n) after →
      (file_or_line file released ≡ refused_line n) × (after ≡ before)
  unfolding file_or_line write_of written_out
  file_refused {n} {after} w = rw room_alike (go (write_refusal file released before) w.answers w.writes)
    where
      go : (k : ℕ) → refused n ≡ answer k (length (text_of file released)) → after ≡ written_over (text_of file released) before k →
          (unless_refused k (text_of file released) ≡ refused_line n) × (after ≡ before)
      go zero e o = let z : ◌≡◌ {A = ℕ} 0 1 = cc in absurd (omega arith)
      go (suc k) e o = let h : n ≡ suc k = cc in (rw h, o)

-- Something is refused; or nothing is, and the file is that of what stands in front of the slice.
pub shown_refused : (reading : ℕ) (input : List ℕ) {n : ℕ} → refused n ≡ outcome reading input → shown reading input ≡ refused_line n
unfolding shown
shown_refused reading input e = rw (← e)

-- What is written where nothing is refused: the file of the policy and the released events.
pub shown_file : {reading : ℕ} {input : List ℕ} {s : Summary} {marks released file events : List ℕ} → Enforces reading input s marks released →
    file ≡ policy_part input → events ≡ events_part input → shown reading input ≡ file_or_line file (take (length events) released)
unfolding shown
shown_file k policy all = rw (← k.said, policy, all, k.front)
