-- What the writer and the reader answer, for any bytes. "Every entry checks the bytes it is given anew."
use Rattle.std.specs.Prelude.{◌≡◌, Bool, true, ◌&&◌, List, ◌++◌, ℕ, zero, suc, ◌^◌, ◌/◌, ◌%◌, ◌≤◌, ◌<◌, leb, ltb, length, drop}
use Rattle.streams.specs.Answer.{Answer, refused, gives, ◌or_else◌, unless, answer}
use Rattle.policy.specs.File.{input_tags, output_tags}
use Rattle.policy.specs.Check.{refusal_of, all_pass}
use Rattle.drawing.specs.Wave.{wave_text}

-- A text written over what a slice holds: a refusal writes nothing, and "Bytes past the written part stay."
abbrev pub written_over : (text out : List ℕ) → ℕ → List ℕ
written_over text out zero = text ++ drop (length text) out
written_over text out (suc n) = out

module _ (file : List ℕ) where
  -- 15: "an event, x or y has a bit beyond its signals".
  abbrev pub event_good : ℕ → Bool
  event_good e = ltb (e % 16) (2 ^ length (input_tags file)) && ltb (e / 16) (2 ^ length (output_tags file))

  -- The text of a stream, with the tags of the file.
  abbrev pub text_of : List ℕ → List ℕ
  text_of events = wave_text (input_tags file) (output_tags file) events

  -- The text is the one that the writer makes of the stream.
  pub record Makes (events text : List ℕ) : Type 0 where
    pub few : length events ≤ 16384
    pub good : all_pass event_good events ≡ true
    pub made : text ≡ text_of events

  module _ (events out : List ℕ) where
    -- "Refusals, after the policy's own: 29 for a stream of over 16,384 events, then 15, then 14 in the writer".
    unfoldable pub write_refusal : ℕ
    write_refusal =
        refusal_of file or_else unless (leb (length events) 16384) 29 or_else unless (all_pass event_good events) 15
        or_else unless (leb (length (text_of events)) (length out)) 14

    -- The length written.
    unfoldable pub write_of : Answer ℕ
    write_of = answer write_refusal (length (text_of events))

    -- What the slice holds then.
    unfoldable pub written_out : List ℕ
    written_out = written_over (text_of events) out write_refusal

  -- "A reader is given the policy and takes back exactly what the writer makes .. 21 where the reader's text is not of this form or holds a time above
  -- 16,384, then 14": its answer, and what the slice `out` for the events holds then.
  pub data Reads (text out : List ℕ) : Answer ℕ → List ℕ → Type 0 where
    policy_refused : {n : ℕ} → refusal_of file ≡ suc n → Reads text out (refused (suc n)) out
    no_stream : refusal_of file ≡ 0 → ((events : List ℕ) → Makes events text → ⊥) → Reads text out (refused 21) out
    no_room : {events : List ℕ} → refusal_of file ≡ 0 → Makes events text → length out < length events → Reads text out (refused 14) out
    taken : {events : List ℕ} → refusal_of file ≡ 0 → Makes events text → length events ≤ length out →
        Reads text out (gives (length events)) (events ++ drop (length events) out)
