-- The lines after time 0: the next time that stands there, with a change or as the last, and what each stream's lines begin with.
-- In order: the reader of one step (`step_in`); how the later lines of a stream begin (`split`); that a step which stands there is read, and that the
-- one which is read stands there (`step_says`); that two streams with the same later lines are the same (`later_one`).
use Rattle.std.specs.Prelude.{◌≡◌, Bool, cond, not, ◌&&◌, ◌⊎◌, length, replicate}
use Rattle.std.proofs.Math.Path.{refl}
use Rattle.std.proofs.Common.{sym, ap, ◌∙◌, length-append}
use Rattle.std.proofs.Math.Bool.{true, false, and-eq-true_iff}
use mathlib.Core.List.{List, [], ◌∷◌, ◌++◌, append_assoc, append-nil}
use Rattle.std.proofs.Math.Logic.{inl, inr, ⊎_elim}
use Prim.Native.Nat.{ℕ, zero, suc, ◌+◌, ◌≤◌, ◌<◌}
use native.Mathlib.Omega.{arith}
use Rattle.std.proofs.Math.Nat.{add-zero}
use Rattle.std.proofs.Math.Dec.{leb, eqb}
use Rattle.std.specs.Int.Bits.{bit_and, bit_xor, xor_self}
use Rattle.std.proofs.Math.ListN.{get_or, get_or-append}
use Rattle.std.proofs.lemmas.List.{length-replicate}
use borrow.Author.Tests.{leb-true, eqb-true, eqb-false, le-leb, eq-eqb, ne_eqb, not-true}
use Rattle.texts.specs.Text.{decimal}
use Rattle.texts.specs.Decimal.{digits_alone, no_leading_zero}
use Rattle.drawing.specs.Wave.{time_line, event_lines, later_lines}
use Rattle.drawing.specs.Times.{Timed, read_time, time_sound, time_complete}
use Rattle.drawing.specs.Values.{LinesThere, Apart}
use Rattle.drawing.specs.Events.{SignalsGood, EventFits, read_event, event_bound, event_sound, event_complete, event_shown, xor_fits, xor_back, xor_none}

-- What is read next: no such line; the closing time; a time with the event that begins there, and what stands after its changes.
pub data ReadStep : Type 0 where
  bad : ReadStep
  closes : ℕ → ReadStep
  changes : (time event : ℕ) → (rest : List ℕ) → ReadStep

-- Each event of a stream fits.
unfoldable pub AllFit : (inputs outputs : List ℕ) → List ℕ → Type 0
AllFit inputs outputs [] = Unit {0}
AllFit inputs outputs (e ∷ events) = EventFits inputs outputs e × AllFit inputs outputs events

module _ (inputs outputs : List ℕ) where
  -- A change by the lines that are read: some signal has one, and each says another value than before.
  abbrev pub change_by : (time before : ℕ) → LinesThere → ReadStep
  change_by time before l =
      cond (not (eqb l.shown 0) && eqb (bit_and (bit_xor before l.shown) l.shown) l.values)
      (changes time (bit_xor before l.shown) l.rest) bad

  -- What follows a time line: the end of the text, so that it is the closing one, or a change.
  abbrev pub step_after : (time before : ℕ) → List ℕ → ReadStep
  step_after time before [] = closes time
  step_after time before (b ∷ rest) = change_by time before (read_event inputs outputs (b ∷ rest))

  -- A step by the time line that is read: its time is not before `from`.
  abbrev pub step_by : (from before : ℕ) → Timed → ReadStep
  step_by from before t = cond (t.good && leb from t.time) (step_after t.time before t.rest) bad

  -- The step at the front of a text, after the event `before` and at the time `from` or later.
  unfoldable pub step_in : (from before : ℕ) → List ℕ → ReadStep
  step_in from before text = step_by from before (read_time text)

  -- The lines from a time on: all later events are as the one before, ..
  pub record Closing (time before : ℕ) (events : List ℕ) : Type 0 where
    pub times : ℕ
    pub same : events ≡ replicate times before
    pub lines : later_lines inputs outputs time before events ≡ time_line (time + times)

  -- .. or some are, then comes another.
  pub record Changing (time before : ℕ) (events : List ℕ) : Type 0 where
    pub times : ℕ
    pub event : ℕ
    pub later : List ℕ
    pub same : events ≡ replicate times before ++ event ∷ later
    pub other : bit_xor before event ≡ 0 → ⊥
    pub lines : later_lines inputs outputs time before events
        ≡ time_line (time + times) ++ (event_lines inputs outputs (bit_xor before event) event ++ later_lines inputs outputs (time + times + 1) event later)

  -- The later events are all as the one before, or some are and then comes another.
  pub split : (time before : ℕ) (events : List ℕ) → Closing time before events ⊎ Changing time before events
  unfolding later_lines
  split time before [] = inl (record { times = 0; same = refl; lines = rw add-zero })
  split time before (e ∷ events) = go (eqb (bit_xor before e) 0) refl (split (time + 1) e events)
    where
      go : (t : Bool) → eqb (bit_xor before e) 0 ≡ t → Closing (time + 1) e events ⊎ Changing (time + 1) e events →
          Closing time before (e ∷ events) ⊎ Changing time before (e ∷ events)
      go false d more =
          inr (record {
            times = 0;
            event = e;
            later = events;
            same = refl;
            other = eqb-false _ _ d;
            lines = rw (d, add-zero, append_assoc);
          })
      go true d (inl k) =
          let s : before ≡ e = xor_none before e (eqb-true _ _ d) in
          let n : time + 1 + k.times ≡ time + suc k.times = omega arith in
          inl (record { times = suc k.times; same = rw s (ap (◌∷◌ e) k.same); lines = rw (d, k.lines, n) })
      go true d (inr k) =
          let s : before ≡ e = xor_none before e (eqb-true _ _ d) in
          let n : time + 1 + k.times ≡ time + suc k.times = omega arith in
          inr (record {
            times = suc k.times;
            event = k.event;
            later = k.later;
            same = rw s (ap (◌∷◌ e) k.same);
            other = rw s k.other;
            lines = rw (d, k.lines, n, s);
          })

  -- The lines of a stream that goes on with the same event and ends, or goes on with another.
  pub closing_lines : (time before n : ℕ) → later_lines inputs outputs time before (replicate n before) ≡ time_line (time + n)
  unfolding later_lines
  closing_lines time before zero = rw add-zero
  closing_lines time before (suc n) =
      let a : time + 1 + n ≡ time + suc n = omega arith in
      rw (xor_self, closing_lines (time + 1) before n, a)

  -- Where another event comes after n equal ones, the lines begin with its time and what changes.
  pub changing_lines : (time before n event : ℕ) (events : List ℕ) → (bit_xor before event ≡ 0 → ⊥) →
      later_lines inputs outputs time before (replicate n before ++ event ∷ events)
      ≡ time_line (time + n) ++ (event_lines inputs outputs (bit_xor before event) event ++ later_lines inputs outputs (time + n + 1) event events)
  unfolding later_lines
  changing_lines time before zero event events h = rw (ne_eqb (bit_xor before event) 0 h, add-zero, append_assoc)
  changing_lines time before (suc n) event events h =
      let a : time + 1 + n ≡ time + suc n = omega arith in
      rw (xor_self, changing_lines (time + 1) before n event events h, a)

  module _ (s : SignalsGood inputs outputs) where
    -- No text that begins with a time begins with a value.
    time_apart : (n : ℕ) (rest : List ℕ) → Apart inputs (time_line n ++ rest) × Apart outputs (time_line n ++ rest)
    unfolding time_line
    time_apart n rest =
        let d = digits_alone n 0 (no_leading_zero n).0 in
        let f = get_or-append (decimal n) (10 ∷ rest) 0 0 (no_leading_zero n).0 in
        let l : get_or (decimal n ++ 10 ∷ rest) 0 0 < 65 = rw f (omega arith) in
        rw append_assoc (s.capital_in _ l, s.capital_out _ l)

    -- The second byte of the later lines is no tag, so they begin with no line of a value.
    pub later_apart : (time before : ℕ) (events : List ℕ) →
        Apart inputs (later_lines inputs outputs time before events) × Apart outputs (later_lines inputs outputs time before events)
    later_apart time before events =
        ⊎_elim (λ k. rw (k.lines, ← append-nil (time_line (time + k.times))) (time_apart (time + k.times) []))
        (λ k. rw k.lines (time_apart (time + k.times) _)) (split time before events)

    -- The later lines are never empty.
    pub later_some : (time before : ℕ) (events : List ℕ) → 0 < length (later_lines inputs outputs time before events)
    unfolding time_line
    later_some time before events =
        ⊎_elim (λ k. rw k.lines (omega arith)) (λ k. rw k.lines (omega arith)) (split time before events)

    -- A stream's lines are read as they stand.
    pub closing_read : (from before n : ℕ) → from + n ≤ 16384 → step_in from before (time_line (from + n)) ≡ closes (from + n)
    unfolding step_in
    closing_read from before n h =
        rw (← append-nil (time_line (from + n)), time_complete (from + n) [] h, le-leb from (from + n) (omega arith))

    -- A change is read as its time, the event that begins there, and the lines after it.
    pub changing_read : (from before n event : ℕ) (events : List ℕ) → from + n ≤ 16384 → EventFits inputs outputs before → EventFits inputs outputs event →
        (bit_xor before event ≡ 0 → ⊥) →
        let rest = later_lines inputs outputs (from + n + 1) event events in
        step_in from before (time_line (from + n) ++ (event_lines inputs outputs (bit_xor before event) event ++ rest)) ≡ changes (from + n) event rest
    unfolding step_in
    changing_read from before n event events h f g other =
        let rest = later_lines inputs outputs (from + n + 1) event events in
        rw (time_complete (from + n) (event_lines inputs outputs (bit_xor before event) event ++ rest) h, le-leb from (from + n) (omega arith))
        (go (event_lines inputs outputs (bit_xor before event) event ++ rest) refl)
      where
        shown : ℕ
        shown = bit_xor before event

        event_read : read_event inputs outputs (event_lines inputs outputs shown event ++ later_lines inputs outputs (from + n + 1) event events)
            ≡ record { shown = shown; values = bit_and event shown; rest = later_lines inputs outputs (from + n + 1) event events }
        event_read =
            let a = later_apart (from + n + 1) event events in
            event_complete inputs outputs s shown event (later_lines inputs outputs (from + n + 1) event events) (xor_fits inputs outputs s before event f g) a.0 a.1

        go : (text : List ℕ) → event_lines inputs outputs shown event ++ later_lines inputs outputs (from + n + 1) event events ≡ text →
            step_after (from + n) before text ≡ changes (from + n) event (later_lines inputs outputs (from + n + 1) event events)
        go [] e =
            absurd (omega (arith, later_some (from + n + 1) event events, ap length e, length-append (event_lines inputs outputs shown event) (later_lines inputs outputs (from + n + 1) event events)))
        go (b ∷ text) e = rw (← e, event_read, xor_back before event, ne_eqb shown 0 other, eq-eqb (bit_and event shown) (bit_and event shown) refl)

    -- What is read is what stands there.
    abbrev pub Says : (from before : ℕ) → List ℕ → ReadStep → Type 0
    Says from before text bad = Unit {0}
    Says from before text (closes n) = (text ≡ time_line n) × (from ≤ n) × (n ≤ 16384)
    Says from before text (changes n e rest) =
        (text ≡ time_line n ++ (event_lines inputs outputs (bit_xor before e) e ++ rest)) × (from ≤ n) × (n ≤ 16384) × (bit_xor before e ≡ 0 → ⊥)
        × EventFits inputs outputs e

    -- A step that is read stands at the front of the text.
    pub step_says : (from before : ℕ) (text : List ℕ) → EventFits inputs outputs before → Says from before text (step_in from before text)
    unfolding step_in
    step_says from before text f = go ((read_time text).good && leb from (read_time text).time) refl (read_time text).rest refl
      where
        time : ℕ
        time = (read_time text).time

        go : (t : Bool) → ((read_time text).good && leb from time) ≡ t → (rest : List ℕ) → (read_time text).rest ≡ rest →
            Says from before text (cond t (step_after time before rest) bad)
        go false e rest r = tt
        go true e [] r =
            let k = (and-eq-true_iff (read_time text).good _).0 e in
            let h = time_sound text k.0 in
            (h.0 ∙ rw (r, append-nil), leb-true _ _ k.1, h.1)
        go true e (b ∷ rest) r =
            let k = (and-eq-true_iff (read_time text).good _).0 e in
            let h = time_sound text k.0 in
            change (rw r at h.0) (leb-true _ _ k.1) h.1 (not (eqb shown 0) && eqb (bit_and (bit_xor before shown) shown) l.values) refl
          where
            l : LinesThere
            l = read_event inputs outputs (b ∷ rest)

            shown : ℕ
            shown = l.shown

            change : text ≡ time_line time ++ (b ∷ rest) → from ≤ time → time ≤ 16384 → (t : Bool) →
                (not (eqb shown 0) && eqb (bit_and (bit_xor before shown) shown) l.values) ≡ t →
                Says from before text (cond t (changes time (bit_xor before shown) l.rest) bad)
            change g i j false q = tt
            change g i j true q =
                let m = (and-eq-true_iff (not (eqb shown 0)) _).0 q in
                let v : bit_and (bit_xor before shown) shown ≡ l.values = eqb-true _ _ m.1 in
                let x = xor_back before shown in (
                  g ∙ ap (λ (z : List ℕ). time_line time ++ z) (event_sound inputs outputs s (b ∷ rest) ∙ rw (x, ← v, event_shown inputs outputs s shown (bit_xor before shown))),
                  i,
                  j,
                  rw x (eqb-false shown 0 (not-true _ m.0)),
                  xor_fits inputs outputs s before shown f (event_bound inputs outputs s (b ∷ rest)).0,
                )

    fits_behind : (n before event : ℕ) (events : List ℕ) → AllFit inputs outputs (replicate n before ++ event ∷ events) →
        EventFits inputs outputs event × AllFit inputs outputs events
    unfolding AllFit
    fits_behind zero before event events a = a
    fits_behind (suc n) before event events a = fits_behind n before event events a.1

    changing_length : {from before : ℕ} {events : List ℕ} (k : Changing from before events) → length events ≡ k.times + suc (length k.later)
    changing_length {before = before} k =
        ap length k.same ∙ length-append (replicate k.times before) (k.event ∷ k.later) ∙ rw (length-replicate k.times before)

    -- The lines of a stream are read as they stand, whichever they are.
    pub record ReadClosing (from before : ℕ) (events : List ℕ) : Type 0 where
      pub closing : Closing from before events
      pub read : step_in from before (later_lines inputs outputs from before events) ≡ closes (from + closing.times)

    -- The lines begin with a change and are read so; the events after it fit, and no time is above 16,384.
    pub record ReadChanging (from before : ℕ) (events : List ℕ) : Type 0 where
      pub changing : Changing from before events
      pub read : step_in from before (later_lines inputs outputs from before events)
          ≡ changes (from + changing.times) changing.event (later_lines inputs outputs (from + changing.times + 1) changing.event changing.later)
      pub fits : EventFits inputs outputs changing.event
      pub later_fit : AllFit inputs outputs changing.later
      pub few : from + changing.times + 1 + length changing.later ≤ 16384

    -- The later lines of a stream are read as the closing time or as a change.
    pub later_read : (from before : ℕ) (events : List ℕ) → from + length events ≤ 16384 → EventFits inputs outputs before → AllFit inputs outputs events →
        ReadClosing from before events ⊎ ReadChanging from before events
    later_read from before events h f a = ⊎_elim close change (split from before events)
      where
        close : Closing from before events → ReadClosing from before events ⊎ ReadChanging from before events
        close k =
            let n : length events ≡ k.times = ap length k.same ∙ length-replicate k.times before in
            inl (record { closing = k; read = rw k.lines (closing_read from before k.times (omega arith)) })

        change : Changing from before events → ReadClosing from before events ⊎ ReadChanging from before events
        change k =
            let n = changing_length k in
            let g = fits_behind k.times before k.event k.later (rw k.same at a) in
            inr (record {
              changing = k;
              read = rw k.lines (changing_read from before k.times k.event k.later (omega arith) f g.0 k.other);
              fits = g.0;
              later_fit = g.1;
              few = omega arith;
            })

    -- One stream at most has these lines.
    alike : (from before : ℕ) (es others : List ℕ) → later_lines inputs outputs from before es ≡ later_lines inputs outputs from before others →
        (ReadChanging from before es → ReadChanging from before others → es ≡ others) →
        ReadClosing from before es ⊎ ReadChanging from before es → ReadClosing from before others ⊎ ReadChanging from before others → es ≡ others
    alike from before es others e more (inl k) (inl j) =
        let x = sym k.read ∙ ap (step_in from before) e ∙ j.read in
        let q : from + k.closing.times ≡ from + j.closing.times = cc in
        let t : k.closing.times ≡ j.closing.times = omega arith in
        k.closing.same ∙ rw t (sym j.closing.same)
    alike from before es others e more (inl k) (inr j) = let x = sym k.read ∙ ap (step_in from before) e ∙ j.read in cc
    alike from before es others e more (inr k) (inl j) = let x = sym k.read ∙ ap (step_in from before) e ∙ j.read in cc
    alike from before es others e more (inr k) (inr j) = more k j

    -- Two streams of fitting events that have the same later lines have the same later events.
    pub later_one : (n from before : ℕ) (es others : List ℕ) → length es ≤ n → from + length es ≤ 16384 → from + length others ≤ 16384 →
        EventFits inputs outputs before → AllFit inputs outputs es → AllFit inputs outputs others →
        later_lines inputs outputs from before es ≡ later_lines inputs outputs from before others → es ≡ others
    later_one zero from before es others b h l f a c e =
        alike from before es others e (λ k j. absurd (omega (arith, changing_length k.changing))) (later_read from before es h f a) (later_read from before others l f c)
    later_one (suc n) from before es others b h l f a c e =
        alike from before es others e
        (λ k j.
        let p = k.changing in
        let q = j.changing in
        let x = sym k.read ∙ ap (step_in from before) e ∙ j.read in
        let w : from + p.times ≡ from + q.times = cc in
        let t : p.times ≡ q.times = omega arith in
        let d : p.event ≡ q.event = cc in
        let r : later_lines inputs outputs (from + p.times + 1) p.event p.later ≡ later_lines inputs outputs (from + q.times + 1) q.event q.later = cc in
        let z : p.later ≡ q.later =
        later_one n (from + p.times + 1) p.event p.later q.later (omega (arith, changing_length p)) k.few (rw t j.few) k.fits k.later_fit j.later_fit
        (rw (← t, ← d) at r) in
        p.same ∙ rw (t, d, z) (sym q.same))
        (later_read from before es h f a) (later_read from before others l f c)
