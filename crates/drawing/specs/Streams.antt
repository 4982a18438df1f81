-- One stream at most has a text.
use Rattle.std.specs.Prelude.{◌≡◌, ℕ, ◌≤◌, length}
use Rattle.std.proofs.Math.Path.{refl, sym, ap}
use Rattle.std.proofs.Common.{◌∙◌, le_refl, arith, length-append}
use mathlib.Core.List.{List, [], ◌∷◌, ◌++◌, append_assoc, append_cancel_left}
use Rattle.policy.specs.File.{input_tags, output_tags}
use Rattle.policy.specs.Check.{refusal_of}
use Rattle.drawing.specs.Wave.{header, time_line, event_lines, later_lines, wave_text}
use Rattle.drawing.specs.Values.{LinesThere}
use Rattle.drawing.specs.Events.{SignalsGood, EventFits, every_signal, read_event, first_complete}
use Rattle.drawing.specs.Steps.{AllFit, later_apart, later_some, later_one}
use Rattle.drawing.specs.Entry.{Makes}
use Rattle.drawing.specs.Checked.{signals, all_fit}

module _ (inputs outputs : List ℕ) where
  -- What every text begins with, and what follows it where there are events.
  abbrev pub opening : List ℕ
  opening = header inputs outputs ++ time_line 0

  -- What follows the opening where there are events: the lines of time 0, then the later lines.
  abbrev pub body : ℕ → List ℕ → List ℕ
  body e events = event_lines inputs outputs 255 e ++ later_lines inputs outputs 1 e events

  -- The text of a stream with events is the opening and the body.
  pub text_some : (e : ℕ) (events : List ℕ) → wave_text inputs outputs (e ∷ events) ≡ opening ++ body e events
  unfolding wave_text
  text_some e events = append_assoc opening (event_lines inputs outputs 255 e) (later_lines inputs outputs 1 e events)

  -- The text of a stream without events is the opening.
  pub text_none : wave_text inputs outputs [] ≡ opening
  unfolding wave_text
  text_none = refl

  module _ (s : SignalsGood inputs outputs) where
    -- The values at time 0 are read as they stand.
    pub body_read : (e : ℕ) (events : List ℕ) → EventFits inputs outputs e →
        read_event inputs outputs (body e events) ≡ record { shown = every_signal inputs outputs; values = e; rest = later_lines inputs outputs 1 e events }
    body_read e events f =
        let a = later_apart inputs outputs s 1 e events in
        first_complete inputs outputs s e (later_lines inputs outputs 1 e events) f a.0 a.1

    more_text : (e : ℕ) (events : List ℕ) → opening ≡ opening ++ body e events → ⊥
    more_text e events q =
        let b = length-append (event_lines inputs outputs 255 e) (later_lines inputs outputs 1 e events) in
        omega (arith, ap length q, length-append opening (body e events), later_some inputs outputs s 1 e events)

    -- Two streams of at most 16,384 fitting events that have the same text are the same.
    pub text_one : (es others : List ℕ) → length es ≤ 16384 → length others ≤ 16384 → AllFit inputs outputs es → AllFit inputs outputs others →
        wave_text inputs outputs es ≡ wave_text inputs outputs others → es ≡ others
    unfolding AllFit
    text_one [] [] h l a b q = refl
    text_one [] (e ∷ others) h l a b q = absurd (more_text e others (sym text_none ∙ q ∙ text_some e others))
    text_one (e ∷ es) [] h l a b q = absurd (more_text e es (sym text_none ∙ sym q ∙ text_some e es))
    text_one (e ∷ es) (o ∷ others) h l a b q =
        let t = append_cancel_left opening (body e es) (body o others) (sym (text_some e es) ∙ q ∙ text_some o others) in
        let r = sym (body_read e es a.0) ∙ ap (read_event inputs outputs) t ∙ body_read o others b.0 in
        let v : e ≡ o = ap (λ (l : LinesThere). l.values) r in
        let w : later_lines inputs outputs 1 e es ≡ later_lines inputs outputs 1 o others = ap (λ (l : LinesThere). l.rest) r in
        let z : es ≡ others =
        later_one inputs outputs s (length es) 1 e es others (le_refl (length es)) (omega arith) (omega arith) a.0 a.1 b.1 (rw (← v) at w) in
        rw (v, z)

-- Of two streams of which the writer makes the text, neither is another than the other.
pub stream_one : (file text : List ℕ) {es others : List ℕ} → refusal_of file ≡ 0 → Makes file es text → Makes file others text → es ≡ others
stream_one file text {es} {others} p m n =
    text_one (input_tags file) (output_tags file) (signals file p) es others m.few n.few (all_fit file es m.good) (all_fit file others n.good)
    (sym m.made ∙ n.made)
