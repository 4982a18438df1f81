-- What the search for the next time says, and the stores of events.
use Rattle.std.specs.Prelude.{◌≡◌, refl, not, List, [], ◌∷◌, ◌++◌, ℕ, zero, suc, ◌+◌, ◌-◌, ◌≤◌, ◌<◌, eqb, length, drop, set, replicate, Option, Some, None}
use Rattle.std.proofs.Math.Path.{sym}
use Rattle.std.proofs.Common.{ap, ◌∙◌, arith, drop_of_length-le, drop-cons}
use Rattle.std.proofs.Math.Bool.{and-false}
use Rattle.std.specs.Int.Bits.{bit_and, bit_xor}
use Rattle.std.proofs.lemmas.List.{length-replicate}
use Rattle.std.proofs.lemmas.List.Edits.{sets}
use borrow.Author.Tests.{le-leb, lt-leb, eq-eqb, ne_eqb}
use Rattle.drawing.specs.Times.{read_time}
use Rattle.drawing.specs.Events.{read_event}
use Rattle.drawing.specs.Steps.{ReadStep, bad, closes, changes, change_by, step_after, step_in}
use Rattle.tracing.specs.Read.{Between, TimeThere, TimeRead, EventRead}
use Rattle.tracing.specs.declared.read.Time.{Time}
use Rattle.tracing.specs.declared.read.Lines as Code
use Rattle.tracing.specs.declared.next.Next.{Next}
use Rattle.tracing.specs.declared.next.Next.TheVariants.{Closes, Changes}

-- The answer of the code as a step of the reader, with the text after it in place of a position.
abbrev pub next_said : List ℕ → Option Next → ReadStep
next_said text None = bad
next_said text (Some (Closes n)) = closes n
next_said text (Some (Changes n e next)) = changes n e (drop next text)

-- After a change the reader stands further on, within the text.
abbrev pub NextBetween : List ℕ → ℕ → Option Next → Type 0
NextBetween text at None = Unit {0}
NextBetween text at (Some (Closes n)) = Unit {0}
NextBetween text at (Some (Changes n e next)) = Between text (at + 1) next

-- The answer is the step that stands at the position.
pub record NextRead (inputs outputs text : List ℕ) (at from before : ℕ) (r : Option Next) : Type 0 where
  pub said : next_said text r ≡ step_in inputs outputs from before (drop at text)
  pub between : NextBetween text at r

-- No time line stands there: no step is read.
pub next_untimed : (inputs outputs text : List ℕ) (at from before : ℕ) → TimeRead text at None → step_in inputs outputs from before (drop at text) ≡ bad
unfolding step_in
next_untimed inputs outputs text at from before e = rw e

module _ (inputs outputs text : List ℕ) (at from before : ℕ) {t : Time} (r : TimeThere text at t) where
  -- The time is one that has passed: no step is read.
  pub next_early : t.time < from → step_in inputs outputs from before (drop at text) ≡ bad
  unfolding step_in
  next_early h = rw (← r.time, lt-leb from t.time h, and-false (read_time (drop at text)).good)

  next_after : from ≤ t.time → step_in inputs outputs from before (drop at text) ≡ step_after inputs outputs t.time before (drop t.next text)
  unfolding step_in
  next_after h = rw (← r.time, r.good, le-leb from t.time h, ← r.rest)

  -- The text ends after the time line: it is the closing one.
  pub next_closes : from ≤ t.time → t.next ≡ length text → step_in inputs outputs from before (drop at text) ≡ closes t.time
  next_closes h q = next_after h ∙ rw (drop_of_length-le text {i = t.next} (omega arith))

  next_lines : from ≤ t.time → t.next < length text →
      step_in inputs outputs from before (drop at text) ≡ change_by inputs outputs t.time before (read_event inputs outputs (drop t.next text))
  next_lines h q = next_after h ∙ rw (drop-cons text t.next 0 q)

  module _ (h : from ≤ t.time) (q : t.next < length text) {l : Code.Lines} (k : EventRead inputs outputs text t.next l) where
    -- More text follows, but no line of a value: no step is read.
    pub next_none : l.shown ≡ 0 → step_in inputs outputs from before (drop at text) ≡ bad
    next_none z = next_lines h q ∙ rw (← k.shown, z)

    -- Some line says the value that its signal has already: no step is read.
    pub next_other : (bit_and (bit_xor before l.shown) l.shown ≡ l.values → ⊥) → step_in inputs outputs from before (drop at text) ≡ bad
    next_other z =
        next_lines h q ∙ rw (← k.shown, ← k.values, ne_eqb (bit_and (bit_xor before l.shown) l.shown) l.values z, and-false (not (eqb l.shown 0)))

    -- Lines follow, and each says another value than before: a change is read.
    pub next_changes : (l.shown ≡ 0 → ⊥) → bit_and (bit_xor before l.shown) l.shown ≡ l.values →
        changes t.time (bit_xor before l.shown) (drop l.next text) ≡ step_in inputs outputs from before (drop at text)
    next_changes z w =
        sym (next_lines h q ∙ rw (← k.shown, ← k.values, ← k.rest, ne_eqb l.shown 0 z, eq-eqb (bit_and (bit_xor before l.shown) l.shown) l.values w))

-- Stores one after the other.
pub sets_append : (l : List ℕ) (i : ℕ) (xs ys : List ℕ) → sets l i (xs ++ ys) ≡ sets (sets l i xs) (i + length xs) ys
sets_append l i [] ys = ap (λ (k : ℕ). sets l k ys) (omega arith)
sets_append l i (x ∷ xs) ys = sets_append (set l i x) (suc i) xs ys ∙ ap (λ (k : ℕ). sets (sets (set l i x) (suc i) xs) k ys) (omega arith)

same_more : (n e : ℕ) → replicate (suc n) e ≡ replicate n e ++ (e ∷ [])
same_more zero e = refl
same_more (suc n) e = ap (◌∷◌ e) (same_more n e)

-- One more of the same event.
pub fill_more : (l : List ℕ) (from i e : ℕ) → from ≤ i → sets l from (replicate (i + 1 - from) e) ≡ set (sets l from (replicate (i - from) e)) i e
fill_more l from i e h =
    let n : i + 1 - from ≡ suc (i - from) = omega arith in
    let k : from + length (replicate (i - from) e) ≡ i = omega (arith, length-replicate (i - from) e) in
    rw (n, same_more (i - from) e, sets_append l from (replicate (i - from) e) (e ∷ []), k)

-- A run of stores that ends where it begins stores nothing.
pub fill_none : (l : List ℕ) (from e : ℕ) → l ≡ sets l from (replicate (from - from) e)
fill_none l from e = let z : from - from ≡ 0 = omega arith in rw z
