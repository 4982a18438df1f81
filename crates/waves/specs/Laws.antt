-- One answer alone meets each promise, the writer and the reader undo each other, and how large their numbers are.
-- In order: the answer of the writer; the answer, the refusals and the stream of the reader; the refusals and the text of the writer; that each undoes
-- the other.
use Rattle.std.specs.Prelude.{◌≡◌, refl, true, List, ◌++◌, ℕ, ◌≤◌, leb, length, drop}
use Rattle.std.proofs.Common.{sym, ap, ◌∙◌, arith, take_at}
use Rattle.std.proofs.Math.ListN.{take}
use borrow.Author.Tests.{le-leb, leb-true}
use Rattle.streams.specs.Answer.{Answer, refused, gives, unless, UpTo}
use Rattle.streams.specs.AnswerLaws.{none_refused, none_unless, given_only, unless_le, else_le, answer_up_to}
use Rattle.policy.specs.File.{input_tags, output_tags}
use Rattle.policy.specs.Check.{refusal_of, all_pass}
use Rattle.policy.specs.CheckLaws.{refusal_le}
use Rattle.drawing.specs.Checked.{signals}
use Rattle.drawing.specs.Lengths.{text_most}
use Rattle.drawing.specs.Streams.{stream_one}
use Rattle.drawing.specs.Entry.{event_good, text_of, Makes, write_refusal, write_of, written_out, Reads, policy_refused, no_stream, no_room, taken}
use Rattle.waves.specs.Promise.{WritePromise, TakePromise}

-- One answer alone meets the writer's promise, and one later content of the slice.
pub write_one : {file events before after later : List ℕ} {r s : Answer ℕ} →
    WritePromise file events before r after → WritePromise file events before s later → (r ≡ s) × (after ≡ later)
write_one g h = (g.answers ∙ sym h.answers, g.writes ∙ sym h.writes)

module _ (file text out : List ℕ) where
  given_alike : {es others : List ℕ} → es ≡ others →
      (gives (length es) ≡ gives (length others)) × (es ++ drop (length es) out ≡ others ++ drop (length others) out)
  given_alike e = (ap (λ (z : List ℕ). gives (length z)) e, ap (λ (z : List ℕ). z ++ drop (length z) out) e)

  -- One answer alone is right for the reader, and one later content of the slice.
  pub reads_one : {a b : Answer ℕ} {after later : List ℕ} → Reads file text out a after → Reads file text out b later → (a ≡ b) × (after ≡ later)
  reads_one (policy_refused e) (policy_refused f) = (ap refused (sym e ∙ f), refl)
  reads_one (policy_refused e) (no_stream f g) = absurd (omega arith)
  reads_one (policy_refused e) (no_room f m l) = absurd (omega arith)
  reads_one (policy_refused e) (taken f m l) = absurd (omega arith)
  reads_one (no_stream e n) (policy_refused f) = absurd (omega arith)
  reads_one (no_stream e n) (no_stream f g) = (refl, refl)
  reads_one (no_stream e n) (no_room {events} f m l) = absurd (n events m)
  reads_one (no_stream e n) (taken {events} f m l) = absurd (n events m)
  reads_one (no_room e m l) (policy_refused f) = absurd (omega arith)
  reads_one (no_room {events} e m l) (no_stream f g) = absurd (g events m)
  reads_one (no_room e m l) (no_room f n k) = (refl, refl)
  reads_one (no_room e m l) (taken f n k) = absurd (omega (arith, ap length (stream_one file text e m n)))
  reads_one (taken e m l) (policy_refused f) = absurd (omega arith)
  reads_one (taken {events} e m l) (no_stream f g) = absurd (g events m)
  reads_one (taken e m l) (no_room f n k) = absurd (omega (arith, ap length (stream_one file text e m n)))
  reads_one (taken e m l) (taken f n k) = given_alike (stream_one file text e m n)

  -- The reader refuses by 1 to 21 alone.
  pub reads_up_to : {a : Answer ℕ} {after : List ℕ} → Reads file text out a after → UpTo 21 a
  reads_up_to (policy_refused e) = (omega arith, omega (arith, refusal_le file))
  reads_up_to (no_stream e n) = (omega arith, omega arith)
  reads_up_to (no_room e m l) = (omega arith, omega arith)
  reads_up_to (taken e m l) = tt

  -- What it gives is a stream of which the writer makes the text.
  pub record TookStream (n : ℕ) (later : List ℕ) : Type 0 where
    pub passes : refusal_of file ≡ 0
    pub makes : Makes file (take n later) text
    pub count : n ≤ 16384

  -- Where the reader gives n, the first n bytes of the slice are a stream of which the writer makes the text.
  pub took_stream : {a : Answer ℕ} {later : List ℕ} (n : ℕ) → Reads file text out a later → a ≡ gives n → TookStream n later
  took_stream n (policy_refused e) q = let z : ◌≡◌ {A = ℕ} 0 1 = cc in absurd (omega arith)
  took_stream n (no_stream e f) q = let z : ◌≡◌ {A = ℕ} 0 1 = cc in absurd (omega arith)
  took_stream n (no_room e m l) q = let z : ◌≡◌ {A = ℕ} 0 1 = cc in absurd (omega arith)
  took_stream n (taken {events} e m l) q =
      let h : length events ≡ n = cc in
      record { passes = e; makes = rw (take_at events (drop (length events) out) n h) m; count = omega (arith, m.few) }

-- One answer alone meets the reader's promise, and one later content of the slice.
pub take_one : {file text before after later : List ℕ} {r s : Answer ℕ} →
    TakePromise file text before r after → TakePromise file text before s later → (r ≡ s) × (after ≡ later)
take_one {file} {text} {before} g h = reads_one file text before g.reads h.reads

module _ (file events out : List ℕ) where
  -- The writer refuses by 1 to 29 alone.
  refusals_le : write_refusal file events out ≤ 29
  unfolding write_refusal
  refusals_le = let f : refusal_of file ≤ 29 = omega (arith, refusal_le file) in search (else_le, unless_le) depth 7

  -- A refusal of the writer is one of the numbers 1 to 29.
  pub write_up_to : UpTo 29 (write_of file events out)
  unfolding write_of
  write_up_to = answer_up_to (write_refusal file events out) (length (text_of file events)) refusals_le

  granted : write_refusal file events out ≡ 0 → (refusal_of file ≡ 0) × (length events ≤ 16384) × (all_pass (event_good file) events ≡ true)
  unfolding write_refusal
  granted e =
      let p = (none_refused (refusal_of file) _).0 e in
      let few = (none_refused (unless (leb (length events) 16384) 29) _).0 p.1 in
      let good = (none_refused (unless (all_pass (event_good file) events) 15) _).0 few.1 in
      (p.0, leb-true _ _ ((none_unless _ 28).0 few.0), (none_unless _ 14).0 good.0)

  -- What it writes is the text of the stream.
  pub record WroteText (n : ℕ) (later : List ℕ) : Type 0 where
    pub passes : refusal_of file ≡ 0
    pub makes : Makes file events (take n later)
    pub count : n ≤ 508119

  -- Where the writer gives n, the first n bytes of the slice are the text of the stream.
  pub wrote_text : (n : ℕ) (later : List ℕ) → WritePromise file events out (gives n) later → WroteText n later
  unfolding write_of written_out
  wrote_text n later w =
      let text = text_of file events in
      let k = given_only (write_refusal file events out) (length text) n (sym w.answers) in
      let g = granted k.0 in
      let s = signals file g.0 in
      let e : take n later ≡ text = rw (w.writes, k.0) (take_at text (drop (length text) out) n k.1) in
      record {
        passes = g.0;
        makes = record { few = g.1; good = g.2; made = e };
        count = omega (arith, k.1, text_most (input_tags file) (output_tags file) s.few_in s.few_out events g.1);
      }

  makes_written : {text : List ℕ} → refusal_of file ≡ 0 → Makes file events text → length text ≤ length out →
      WritePromise file events out (gives (length text)) (text ++ drop (length text) out)
  unfolding write_of written_out write_refusal
  makes_written {text} p m h =
      let e = le-leb (length events) 16384 m.few in
      let l = le-leb (length (text_of file events)) (length out) (rw m.made at h) in
      rw m.made (record { answers = rw (p, e, m.good, l); writes = rw (p, e, m.good, l) })

-- "each written file reads back as its stream"
pub written_reads : {file events before after out later : List ℕ} {n : ℕ} {r : Answer ℕ} →
    WritePromise file events before (gives n) after → TakePromise file (take n after) out r later → length events ≤ length out →
    (r ≡ gives (length events)) × (later ≡ events ++ drop (length events) out)
written_reads {file} {events} {before} {after} {n = n} w t h =
    let k = wrote_text file events before n after w in take_one t (record { reads = taken k.passes k.makes h })

-- "takes back exactly what the writer makes": what is read is written as the same text.
pub read_writes : {file text out later before after : List ℕ} {n : ℕ} {r : Answer ℕ} →
    TakePromise file text out (gives n) later → WritePromise file (take n later) before r after → length text ≤ length before →
    (r ≡ gives (length text)) × (after ≡ text ++ drop (length text) before)
read_writes {file} {text} {out} {later} {before} {n = n} t w h =
    let g = took_stream file text out n t.reads refl in write_one w (makes_written file (take n later) before g.passes g.makes h)
