-- The reader on its way: what it has read so far, and that no stream with this text begins otherwise.
use Rattle.std.specs.Prelude.{◌≡◌, ◌⊎◌, length, replicate}
use Rattle.std.proofs.Math.Path.{refl}
use Rattle.std.proofs.Common.{sym, ap, subst, ◌∙◌, inl, inr, arith, length-append}
use mathlib.Core.List.{List, [], ◌∷◌, ◌++◌, append_assoc}
use Prim.Native.Nat.{ℕ, zero, suc, ◌+◌, ◌-◌, ◌≤◌}
use Rattle.std.proofs.lemmas.List.{length-replicate}
use Rattle.drawing.specs.Wave.{later_lines}
use Rattle.drawing.specs.Events.{SignalsGood, EventFits}
use Rattle.drawing.specs.Steps.{bad, closes, changes, AllFit, step_in, Says, step_says, closing_lines, changing_lines, ReadClosing, ReadChanging, later_read}

module _ (inputs outputs : List ℕ) where
  fits_both : (a b : List ℕ) → AllFit inputs outputs a → AllFit inputs outputs b → AllFit inputs outputs (a ++ b)
  unfolding AllFit
  fits_both [] b f g = g
  fits_both (e ∷ a) b f g = (f.0, fits_both a b f.1 g)

  fits_same : (n e : ℕ) → EventFits inputs outputs e → AllFit inputs outputs (replicate n e)
  unfolding AllFit
  fits_same zero e f = tt
  fits_same (suc n) e f = (f, fits_same n e f)

  fits_one : (e : ℕ) → EventFits inputs outputs e → AllFit inputs outputs (e ∷ [])
  unfolding AllFit
  fits_one e f = (f, tt)

  -- The lines after time 0, `whole`, of a stream whose first event is `first`: those of its next events `s` are read, and `rest` is left, with `count`
  -- events so far and `event` the last of them.
  pub record ReadSoFar (whole : List ℕ) (first : ℕ) (rest : List ℕ) (count event : ℕ) (s : List ℕ) : Type 0 where
    pub sound : (es : List ℕ) → rest ≡ later_lines inputs outputs count event es → whole ≡ later_lines inputs outputs 1 first (s ++ es)
    pub complete : (z : List ℕ) → AllFit inputs outputs z → 1 + length z ≤ 16384 → whole ≡ later_lines inputs outputs 1 first z →
        (es : List ℕ) × (z ≡ s ++ es) × AllFit inputs outputs es × (rest ≡ later_lines inputs outputs count event es)
    pub counted : count ≡ 1 + length s
    pub fits : AllFit inputs outputs s
    pub last : EventFits inputs outputs event

  -- Before the first step all later lines are left, and the event of time 0 is the last one.
  pub reached_start : (whole : List ℕ) (first : ℕ) → EventFits inputs outputs first → ReadSoFar whole first whole 1 first []
  unfolding AllFit
  reached_start whole first f =
      record { sound = λ es e. e; complete = λ z a h e. (z, refl, a, e); counted = refl; fits = tt; last = f }

  module _ (g : SignalsGood inputs outputs) {whole : List ℕ} {first : ℕ} {rest : List ℕ} {count event : ℕ} {s : List ℕ} (r : ReadSoFar whole first rest count event s) where
    left : (z es : List ℕ) → 1 + length z ≤ 16384 → z ≡ s ++ es → count + length es ≤ 16384
    left z es h e = omega (arith, r.counted, ap length e, length-append s es)

    -- What is left of a stream with this text, as it is read.
    pub left_read : (z : List ℕ) → AllFit inputs outputs z → 1 + length z ≤ 16384 → whole ≡ later_lines inputs outputs 1 first z →
        (es : List ℕ) × (z ≡ s ++ es) × (rest ≡ later_lines inputs outputs count event es)
        × (ReadClosing inputs outputs g count event es ⊎ ReadChanging inputs outputs g count event es)
    left_read z a h e =
        let c = r.complete z a h e in
        (c.0, c.1, c.3, later_read inputs outputs g count event c.0 (left z c.0 h c.1) r.last c.2)

    -- No line that may stand there does.
    pub reached_bad : step_in inputs outputs count event rest ≡ bad → (z : List ℕ) → AllFit inputs outputs z → 1 + length z ≤ 16384 →
        whole ≡ later_lines inputs outputs 1 first z → ⊥
    reached_bad q z a h e = let c = left_read z a h e in go c.0 c.2 c.3
      where
        go : (es : List ℕ) → rest ≡ later_lines inputs outputs count event es →
            ReadClosing inputs outputs g count event es ⊎ ReadChanging inputs outputs g count event es → ⊥
        go es l (inl k) =
            let x = sym k.read ∙ ap (step_in inputs outputs count event) (sym l) ∙ q in
            let z : ◌≡◌ {A = ℕ} 0 1 = cc in omega arith
        go es l (inr k) =
            let x = sym k.read ∙ ap (step_in inputs outputs count event) (sym l) ∙ q in
            let z : ◌≡◌ {A = ℕ} 0 1 = cc in omega arith

    -- The closing time stands there.
    pub record ClosedAt (n : ℕ) : Type 0 where
      pub whole_is : whole ≡ later_lines inputs outputs 1 first (s ++ replicate (n - count) event)
      pub fits : AllFit inputs outputs (s ++ replicate (n - count) event)
      pub counted : n ≡ 1 + length (s ++ replicate (n - count) event)
      pub few : n ≤ 16384
      pub from : count ≤ n

    -- A closing time that is read ends the stream: up to it the last event stays the same.
    pub reached_closes : (n : ℕ) → step_in inputs outputs count event rest ≡ closes n → ClosedAt n
    reached_closes n q =
        let w = subst (Says inputs outputs g count event rest) q (step_says inputs outputs g count event rest r.last) in
        let t : count + (n - count) ≡ n = omega arith in
        record {
          whole_is = r.sound (replicate (n - count) event) (w.0 ∙ rw (closing_lines inputs outputs count event (n - count), t));
          fits = fits_both s (replicate (n - count) event) r.fits (fits_same (n - count) event r.last);
          counted = simp (length-append, length-replicate) (omega (arith, r.counted));
          few = w.2;
          from = w.1;
        }

    -- A change stands there.
    pub reached_changes : (n e : ℕ) (more : List ℕ) → step_in inputs outputs count event rest ≡ changes n e more →
        ReadSoFar whole first more (n + 1) e (s ++ (replicate (n - count) event ++ e ∷ [])) × (count ≤ n) × (n ≤ 16384)
    reached_changes n e more q =
        let w = subst (Says inputs outputs g count event rest) q (step_says inputs outputs g count event rest r.last) in
        let t : count + (n - count) ≡ n = omega arith in (
          record {
            sound = λ es l.
                r.sound (replicate (n - count) event ++ e ∷ es) (w.0 ∙ rw (changing_lines inputs outputs count event (n - count) e es w.3, t, ← l))
                ∙ ap (later_lines inputs outputs 1 first) (sym (together es));
            complete = λ z a h l. let c = left_read z a h l in pick c.0 z c.1 c.2 c.3;
            counted = simp (length-append, length-replicate) (omega (arith, r.counted));
            fits = fits_both s (replicate (n - count) event ++ e ∷ []) r.fits (fits_both (replicate (n - count) event) (e ∷ []) (fits_same (n - count) event r.last) (fits_one e w.4));
            last = w.4;
          },
          w.1,
          w.2,
        )
      where
        together : (es : List ℕ) → (s ++ (replicate (n - count) event ++ e ∷ [])) ++ es ≡ s ++ (replicate (n - count) event ++ e ∷ es)
        together es = simp append_assoc

        pick : (es z : List ℕ) → z ≡ s ++ es → rest ≡ later_lines inputs outputs count event es →
            ReadClosing inputs outputs g count event es ⊎ ReadChanging inputs outputs g count event es →
            (later : List ℕ) × (z ≡ (s ++ (replicate (n - count) event ++ e ∷ [])) ++ later) × AllFit inputs outputs later
            × (more ≡ later_lines inputs outputs (n + 1) e later)
        pick es z p l (inl k) =
            let x = sym k.read ∙ ap (step_in inputs outputs count event) (sym l) ∙ q in
            let o : ◌≡◌ {A = ℕ} 0 1 = cc in absurd (omega arith)
        pick es z p l (inr k) =
            let x = sym k.read ∙ ap (step_in inputs outputs count event) (sym l) ∙ q in
            let c = k.changing in
            let t : count + c.times ≡ n = cc in
            let d : c.event ≡ e = cc in
            let m : later_lines inputs outputs (count + c.times + 1) c.event c.later ≡ more = cc in
            let u : n - count ≡ c.times = omega arith in
            (c.later, p ∙ ap (λ (z : List ℕ). s ++ z) c.same ∙ rw (together c.later, u, d), k.later_fit, sym m ∙ rw (t, d))
