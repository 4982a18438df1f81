-- The wave entries by the signals alone, step by step.
use Rattle.std.specs.Prelude.{◌≡◌, refl, Bool, true, false, ◌&&◌, List, ◌++◌, leb, ltb, length, drop, Option, Some, None}
use Rattle.std.proofs.Common.{sym, subst, ◌∙◌, zero-add, arith, le-leb}
use Prim.Native.Nat.{ℕ, zero, suc, ◌-◌, ◌^◌, ◌/◌, ◌%◌, ◌≤◌, ◌<◌}
use Rattle.std.proofs.Math.Nat.{pow-le-pow_right}
use Rattle.std.proofs.lemmas.List.Edits.{sets-eq}
use Rattle.std.proofs.lemmas.Bool.{lt-leb}
use Rattle.streams.specs.Answer.{Answer, gives, refused, ◌or_else◌, unless, answer}
use Rattle.policy.specs.File.{input_tags, output_tags}
use Rattle.policy.specs.Check.{refusal_of, all_pass}
use Rattle.texts.specs.Wrote.{Wrote}
use Rattle.drawing.specs.Checked.{all_fit, fit_all}
use Rattle.drawing.specs.Wave.{wave_text}
use Rattle.drawing.specs.Events.{SignalsGood}
use Rattle.drawing.specs.Steps.{AllFit}
use Rattle.drawing.specs.Streams.{text_one}
use Rattle.drawing.specs.Entry.{Makes, written_over, write_refusal, write_of, written_out, Reads, policy_refused, no_stream, no_room, taken}
use Rattle.tracing.specs.Found.{FoundStream}
use Rattle.waves.specs.Promise.{TakePromise, WritePromise}

-- The event has no bit beyond so many inputs and outputs.
abbrev pub good_for : (inputs outputs : ℕ) → ℕ → Bool
good_for inputs outputs e = ltb (e % 16) (2 ^ inputs) && ltb (e / 16) (2 ^ outputs)

-- The promises of the writer and the reader, by the signals of a policy that passes its checks.
module _ (inputs outputs : List ℕ) where
  -- The refusals of the writer after the policy's own: 29, 15 and 14.
  abbrev pub refusal_by : (events out : List ℕ) → ℕ
  refusal_by events out =
      unless (leb (length events) 16384) 29 or_else unless (all_pass (good_for (length inputs) (length outputs)) events) 15
      or_else unless (leb (length (wave_text inputs outputs events)) (length out)) 14

  -- What the writer answers, and what its slice holds then.
  pub record WrittenBy (events before : List ℕ) (r : Answer ℕ) (after : List ℕ) : Type 0 where
    pub answers : r ≡ answer (refusal_by events before) (length (wave_text inputs outputs events))
    pub writes : after ≡ written_over (wave_text inputs outputs events) before (refusal_by events before)

  -- What the reader answers, and what its slice holds then: no stream has the text, too little room, or the events.
  pub data TakenBy (text out : List ℕ) : Answer ℕ → List ℕ → Type 0 where
    none : ((z : List ℕ) → AllFit inputs outputs z → length z ≤ 16384 → text ≡ wave_text inputs outputs z → ⊥) → TakenBy text out (refused 21) out
    short : (z : List ℕ) → text ≡ wave_text inputs outputs z → AllFit inputs outputs z → length z ≤ 16384 → length out < length z →
        TakenBy text out (refused 14) out
    given : (z : List ℕ) {n : ℕ} → text ≡ wave_text inputs outputs z → AllFit inputs outputs z → length z ≤ 16384 → length z ≤ length out → n ≡ length z →
        TakenBy text out (gives n) (z ++ drop (length z) out)

-- A number above n ones is at least 2 to the power n.
pub past_ones : (n v r : ℕ) → r ≡ 2 ^ n - 1 → r < v → 2 ^ n ≤ v
past_ones n v r e h = omega arith

-- A number that is not above n ones is below 2 to the power n.
pub within_ones : (n v r : ℕ) → r ≡ 2 ^ n - 1 → v ≤ r → v < 2 ^ n
within_ones n v r e h = let p = pow-le-pow_right {n = 2} (omega arith) {i = 0} {j = n} (omega arith) in omega arith

-- What the two readings find, with no room and with room, is the reader's answer.
module _ (inputs outputs : List ℕ) (g : SignalsGood inputs outputs) (text : List ℕ) where
  -- The first reading finds no stream: 21.
  pub taken_none : (out part after : List ℕ) → FoundStream inputs outputs text part None after → TakenBy inputs outputs text out (refused 21) out
  taken_none out part after f = none f

  -- The first reading finds more events than the slice has room for: 14.
  pub taken_short : (out part after : List ℕ) (n : ℕ) → FoundStream inputs outputs text part (Some n) after → length out < n →
      TakenBy inputs outputs text out (refused 14) out
  taken_short out part after n f h = short f.0 f.1 f.2 (omega (arith, f.3, f.4)) (omega (arith, f.3))

  -- The slice has room for the events: the second reading stores them.
  pub taken_all : (out part after given_out : List ℕ) (n : ℕ) (r : Option ℕ) → FoundStream inputs outputs text part (Some n) after → n ≤ length out →
      FoundStream inputs outputs text out r given_out → TakenBy inputs outputs text out (gives n) given_out
  taken_all out part after given_out n None f h k = absurd (k f.0 f.2 (omega (arith, f.3, f.4)) f.1)
  taken_all out part after given_out n (Some m) f h k =
      let z = f.0 in
      let same : k.0 ≡ z =
      text_one inputs outputs g k.0 z (omega (arith, k.3, k.4)) (omega (arith, f.3, f.4)) k.2 f.2 (sym k.1 ∙ f.1) in
      subst (TakenBy inputs outputs text out (gives n)) (sym (k.5 ∙ rw same (sets-eq z out 0 (omega (arith, f.3)) ∙ rw zero-add)))
      (given z f.1 f.2 (omega (arith, f.3, f.4)) (omega (arith, f.3)) f.3)

-- The writer, by what it finds.
module _ (inputs outputs events before : List ℕ) where
  -- There are more than 16,384 events: 29, and nothing is written.
  pub by_long : 16384 < length events → WrittenBy inputs outputs events before (refused 29) before
  by_long h = let e = lt-leb (length events) 16384 h in record { answers = rw e; writes = rw e }

  module _ (few : length events ≤ 16384) where
    -- Some event has a bit beyond the signals: 15, and nothing is written.
    pub by_bad : all_pass (good_for (length inputs) (length outputs)) events ≡ false → WrittenBy inputs outputs events before (refused 15) before
    by_bad g = let e = le-leb (length events) 16384 few in record { answers = rw (e, g); writes = rw (e, g) }

    module _ (good : all_pass (good_for (length inputs) (length outputs)) events ≡ true) where
      -- The slice is shorter than the text: 14, and nothing is written.
      pub by_short : length before < length (wave_text inputs outputs events) → WrittenBy inputs outputs events before (refused 14) before
      by_short h =
          let e = le-leb (length events) 16384 few in
          let l = lt-leb (length (wave_text inputs outputs events)) (length before) h in
          record { answers = rw (e, good, l); writes = rw (e, good, l) }

      -- Nothing is refused: the text is written, and its length is the answer.
      pub by_text : {r : ℕ} {after : List ℕ} → length (wave_text inputs outputs events) ≤ length before → Wrote before 0 (wave_text inputs outputs events) r after →
          WrittenBy inputs outputs events before (gives r) after
      by_text h w =
          let e = le-leb (length events) 16384 few in
          let l = le-leb (length (wave_text inputs outputs events)) (length before) h in
          record {
            answers = rw (e, good, l, w.next, zero-add);
            writes = w.text ∙ rw (e, good, l, zero-add);
          }

module _ {file : List ℕ} where
  -- The policy does not pass its checks: the writer gives that refusal and writes nothing.
  pub write_refused : {events before : List ℕ} (n : ℕ) → n ≡ refusal_of file → (n ≡ 0 → ⊥) → WritePromise file events before (refused n) before
  unfolding write_of written_out write_refusal
  write_refused zero e h = absurd (h refl)
  write_refused (suc n) e h = record { answers = rw (← e); writes = rw (← e) }

  -- The policy passes its checks: what the writer does by the signals is what it promises.
  pub write_by : {events before after : List ℕ} {r : Answer ℕ} → refusal_of file ≡ 0 → WrittenBy (input_tags file) (output_tags file) events before r after →
      WritePromise file events before r after
  unfolding write_of written_out write_refusal
  write_by e w = record { answers = rw e w.answers; writes = rw e w.writes }

  -- The policy does not pass its checks: the reader gives that refusal and stores nothing.
  pub take_refused : {text before : List ℕ} (n : ℕ) → n ≡ refusal_of file → (n ≡ 0 → ⊥) → TakePromise file text before (refused n) before
  take_refused zero e h = absurd (h refl)
  take_refused (suc n) e h = record { reads = policy_refused (sym e) }

  -- The policy passes its checks: what the reader does by the signals is what it promises.
  pub take_by : {text before after : List ℕ} {r : Answer ℕ} → refusal_of file ≡ 0 → TakenBy (input_tags file) (output_tags file) text before r after →
      TakePromise file text before r after
  take_by e (none f) = record { reads = no_stream e (λ events m. f events (all_fit file events m.good) m.few m.made) }
  take_by e (short z q a h l) = record { reads = no_room e (record { few = h; good = fit_all file z a; made = q }) l }
  take_by {text} {before} e (given z {n} q a h l c) =
      let k : Makes file z text = record { few = h; good = fit_all file z a; made = q } in
      record { reads = subst (λ (m : ℕ). Reads file text before (gives m) (z ++ drop (length z) before)) (sym c) (taken e k l) }
