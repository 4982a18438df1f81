-- What the reader finds in a text: a stream, or that there is none.
use Rattle.std.specs.Prelude.{◌≡◌, ℕ, ◌+◌, ◌-◌, ◌≤◌, length, drop, set, replicate, Option, Some, None}
use Rattle.std.proofs.Math.Path.{refl, sym, ap}
use Rattle.std.proofs.Common.{◌∙◌, drop_of_length-le}
use mathlib.Core.List.{List, [], ◌∷◌, ◌++◌, append-nil, append_cancel_left}
use native.Mathlib.Omega.{arith}
use Rattle.std.proofs.lemmas.List.{length-replicate}
use Rattle.std.proofs.lemmas.List.Edits.{sets}
use Rattle.drawing.specs.Wave.{later_lines, wave_text}
use Rattle.drawing.specs.Streams.{opening, body, text_some, text_none, body_read}
use Rattle.drawing.specs.Events.{SignalsGood, EventFits, every_signal, read_event, event_bound, first_sound}
use Rattle.drawing.specs.Values.{LinesThere}
use Rattle.drawing.specs.Steps.{AllFit, closes, step_in}
use Rattle.tracing.specs.Reached.{ReadSoFar, reached_closes}
use Rattle.tracing.specs.Next.{sets_append}

module _ (inputs outputs : List ℕ) where
  -- The lines after time 0 are those of no stream; or of the one with these events, which are stored.
  abbrev pub LaterFound : (whole : List ℕ) (first : ℕ) (before : List ℕ) → Option ℕ → (after : List ℕ) → Type 0
  LaterFound whole first before None after =
      (z : List ℕ) → AllFit inputs outputs z → 1 + length z ≤ 16384 → whole ≡ later_lines inputs outputs 1 first z → ⊥
  LaterFound whole first before (Some n) after =
      (z : List ℕ) × (whole ≡ later_lines inputs outputs 1 first z) × AllFit inputs outputs z × (n ≡ 1 + length z) × (n ≤ 16384) × (after ≡ sets before 1 z)

  -- What stands after the opening is what follows it in no stream's text; or in that of these events, which are stored.
  abbrev pub BodyFound : (whole before : List ℕ) → Option ℕ → (after : List ℕ) → Type 0
  BodyFound whole before None after =
      (e : ℕ) (z : List ℕ) → EventFits inputs outputs e → AllFit inputs outputs z → 1 + length z ≤ 16384 → whole ≡ body inputs outputs e z → ⊥
  BodyFound whole before (Some n) after =
      (e : ℕ) × (z : List ℕ) × (whole ≡ body inputs outputs e z) × EventFits inputs outputs e × AllFit inputs outputs z × (n ≡ 1 + length z) × (n ≤ 16384)
      × (after ≡ sets before 0 (e ∷ z))

  -- The text is that of no stream; or of the one with these events, which are stored.
  abbrev pub FoundStream : (text before : List ℕ) → Option ℕ → (after : List ℕ) → Type 0
  FoundStream text before None after = (z : List ℕ) → AllFit inputs outputs z → length z ≤ 16384 → text ≡ wave_text inputs outputs z → ⊥
  FoundStream text before (Some n) after =
      (z : List ℕ) × (text ≡ wave_text inputs outputs z) × AllFit inputs outputs z × (n ≡ length z) × (n ≤ 16384) × (after ≡ sets before 0 z)

  module _ (g : SignalsGood inputs outputs) {whole : List ℕ} {first : ℕ} {rest : List ℕ} {count event : ℕ} {s : List ℕ}
      (r : ReadSoFar inputs outputs whole first rest count event s) where
    -- The events stored so far, and those of the next step.
    pub stored_closes : (n : ℕ) (before now after : List ℕ) → step_in inputs outputs count event rest ≡ closes n → now ≡ sets before 1 s →
        after ≡ sets now count (replicate (n - count) event) → LaterFound whole first before (Some n) after
    stored_closes n before now after q a b =
        let k = reached_closes inputs outputs g r n q in
        let l : 1 + length s ≡ count = sym r.counted in (
          s ++ replicate (n - count) event,
          k.whole_is,
          k.fits,
          k.counted,
          k.few,
          b ∙ ap (λ (z : List ℕ). sets z count (replicate (n - count) event)) a ∙ sym (sets_append before 1 s (replicate (n - count) event) ∙ rw l),
        )

    -- At a change: the same event is stored up to its time, and then the new one.
    pub stored_changes : (n e : ℕ) (before now filled : List ℕ) → count ≤ n → now ≡ sets before 1 s → filled ≡ sets now count (replicate (n - count) event) →
        set filled n e ≡ sets before 1 (s ++ (replicate (n - count) event ++ e ∷ []))
    stored_changes n e before now filled h a b =
        let f = replicate (n - count) event in
        let k : count + length f ≡ n = omega (arith, length-replicate (n - count) event) in
        let l : 1 + length s ≡ count = sym r.counted in
        sym (sets_append before 1 s (f ++ e ∷ []) ∙ rw (l, ← a, sets_append now count f (e ∷ []), ← b, k))

  module _ (g : SignalsGood inputs outputs) where
    -- The values at time 0 are not all there.
    pub body_none : (whole before after : List ℕ) → ((read_event inputs outputs whole).shown ≡ every_signal inputs outputs → ⊥) → BodyFound whole before None after
    body_none whole before after d e z f a h q =
        d (ap (λ (t : List ℕ). (read_event inputs outputs t).shown) q ∙ ap (λ (l : LinesThere). l.shown) (body_read inputs outputs g e z f))

    -- They are: the later lines decide.
    pub body_on : (whole before after : List ℕ) (r : Option ℕ) → (read_event inputs outputs whole).shown ≡ every_signal inputs outputs →
        LaterFound (read_event inputs outputs whole).rest (read_event inputs outputs whole).values (set before 0 (read_event inputs outputs whole).values) r after →
        BodyFound whole before r after
    body_on whole before after None s l = λ e z f a h q.
        let b = ap (read_event inputs outputs) q ∙ body_read inputs outputs g e z f in
        let v : (read_event inputs outputs whole).values ≡ e = ap (λ (l : LinesThere). l.values) b in
        l z a h (ap (λ (l : LinesThere). l.rest) b ∙ rw v)
    body_on whole before after (Some n) s l =
        ((read_event inputs outputs whole).values, l.0, first_sound inputs outputs g whole s ∙ rw l.1, (event_bound inputs outputs g whole).1, l.2, l.3, l.4, l.5)

    -- The whole text: it does not begin with the opening, it is the opening, or more follows.
    pub found_none : (text before after : List ℕ) → ((rest : List ℕ) → text ≡ opening inputs outputs ++ rest → ⊥) → FoundStream text before None after
    found_none text before after d [] a h q = d [] (q ∙ text_none inputs outputs ∙ sym (append-nil (opening inputs outputs)))
    found_none text before after d (e ∷ z) a h q = d (body inputs outputs e z) (q ∙ text_some inputs outputs e z)

    -- The text is the opening: it is that of the stream without events.
    pub found_empty : (text before : List ℕ) → text ≡ opening inputs outputs → FoundStream text before (Some 0) before
    unfolding AllFit
    found_empty text before q = ([], q ∙ sym (text_none inputs outputs), tt, refl, omega arith, refl)

    no_text : (text rest : List ℕ) → text ≡ opening inputs outputs ++ rest → (rest ≡ [] → ⊥) → BodyFound rest [] None [] →
        (z : List ℕ) → AllFit inputs outputs z → length z ≤ 16384 → text ≡ wave_text inputs outputs z → ⊥
    unfolding AllFit
    no_text text rest q d b [] a h w =
        d (append_cancel_left (opening inputs outputs) rest [] (sym q ∙ w ∙ text_none inputs outputs ∙ sym (append-nil (opening inputs outputs))))
    no_text text rest q d b (e ∷ z) a h w =
        b e z a.0 a.1 (omega arith) (append_cancel_left (opening inputs outputs) rest (body inputs outputs e z) (sym q ∙ w ∙ text_some inputs outputs e z))

    -- More follows the opening: what is found there decides.
    pub found_body : (text rest before after : List ℕ) (r : Option ℕ) → text ≡ opening inputs outputs ++ rest → (rest ≡ [] → ⊥) → BodyFound rest before r after →
        FoundStream text before r after
    unfolding AllFit
    found_body text rest before after None q d b = no_text text rest q d b
    found_body text rest before after (Some n) q d b =
        (b.0 ∷ b.1, q ∙ ap (λ (t : List ℕ). opening inputs outputs ++ t) b.2 ∙ sym (text_some inputs outputs b.0 b.1), (b.3, b.4), omega (arith, b.5), b.6, b.7)

-- A text that is its opening.
pub opening_only : (text front : List ℕ) (k : ℕ) → text ≡ front ++ drop k text → length text ≤ k → text ≡ front
opening_only text front k e h = e ∙ rw (drop_of_length-le text h, append-nil)
