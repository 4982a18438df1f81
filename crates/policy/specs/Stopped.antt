-- A clock that stops at its ceiling changes no answer.
use Rattle.std.specs.Prelude.{◌≡◌, Bool, ◌&&◌, ◌||◌, ◌⊎◌, leb, eqb, length, replicate}
use Rattle.std.proofs.Math.Path.{refl, ap}
use Rattle.std.proofs.Common.{sym, ◌∙◌, ⊎_elim, le-leb, eq-eqb, leb-true, leb-false}
use Rattle.std.proofs.Math.Bool.{true, false, cond}
use mathlib.Core.List.{List, [], ◌∷◌}
use Rattle.std.proofs.Math.Option.{Option, none, some, bind}
use Prim.Native.Nat.{ℕ, suc, ◌≤◌, ◌<◌, ◌%◌, ◌/◌, min}
use native.Mathlib.Omega.{arith}
use Rattle.std.proofs.lemmas.Bool.{lt-leb}
use Rattle.streams.specs.Stream.{Event, Stream}
use Rattle.policy.specs.Rules.{Bound, Rule, Policy, Place, start, within, hold, fires, decides, unlimited, stopped, advance, tested, looked, taken, step, steps}
use Rattle.policy.specs.Stop.{mins, shown, stop}

-- The bounds of a checked file: low is at most the ceiling; high is below it, or is no bound.
pub record Lawful (c : ℕ) (b : Bound) : Type 0 where
  pub low : b.low ≤ c
  pub high : (b.high < c) ⊎ (b.high ≡ 65535)

-- There is a bound for each ceiling, and each is lawful.
pub data AllLawful : List ℕ → List Bound → Type 0 where
  lawful_none : AllLawful [] []
  lawful_more : {c : ℕ} {cs : List ℕ} {b : Bound} {bs : List Bound} → Lawful c b → AllLawful cs bs → AllLawful (c ∷ cs) (b ∷ bs)

-- The bounds of each rule are lawful.
pub data LawfulRules (cs : List ℕ) : List Rule → Type 0 where
  checked_none : LawfulRules cs []
  checked_more : {r : Rule} {rs : List Rule} → AllLawful cs r.bounds → LawfulRules cs rs → LawfulRules cs (r ∷ rs)

above : (a v c : ℕ) → a ≤ c → leb a (min v c) ≡ leb a v
above a v c h = go (leb a v) refl
  where
    go : (t : Bool) → leb a v ≡ t → leb a (min v c) ≡ leb a v
    go true e = let k : a ≤ v = leb-true _ _ e in le-leb a (min v c) (omega arith) ∙ sym e
    go false e = let k : v < a = leb-false _ _ e in lt-leb a (min v c) (omega arith) ∙ sym e

below : (h v c : ℕ) → h < c → leb (min v c) h ≡ leb v h
below h v c l = go (leb v h) refl
  where
    go : (t : Bool) → leb v h ≡ t → leb (min v c) h ≡ leb v h
    go true e = let k : v ≤ h = leb-true _ _ e in le-leb (min v c) h (omega arith) ∙ sym e
    go false e = let k : h < v = leb-false _ _ e in lt-leb (min v c) h (omega arith) ∙ sym e

or_same : (t : Bool) (a b : Bool) → (t ≡ true) ⊎ (a ≡ b) → (t || a) ≡ (t || b)
or_same t a b = ⊎_elim (λ e. ap (λ (z : Bool). z || a) e ∙ sym (ap (λ (z : Bool). z || b) e)) (λ e. ap (λ (z : Bool). t || z) e)

within_same : (c v : ℕ) (b : Bound) → Lawful c b → within b (min v c) ≡ within b v
unfolding within
within_same c v b l =
    ap (λ (z : Bool). z && (eqb b.high 65535 || leb (min v c) b.high)) (above b.low v c l.low)
    ∙ ap (λ (z : Bool). leb b.low v && z) (or_same (eqb b.high 65535) _ _ (way l.high))
  where
    way : (b.high < c) ⊎ (b.high ≡ 65535) → (eqb b.high 65535 ≡ true) ⊎ (leb (min v c) b.high ≡ leb v b.high)
    way (◌⊎◌.inl h) = ◌⊎◌.inr (below b.high v c h)
    way (◌⊎◌.inr e) = ◌⊎◌.inl (eq-eqb _ _ e)

-- Lawful bounds hold of stopped clocks exactly if they hold without limit.
pub hold_same : {cs : List ℕ} {bs : List Bound} → AllLawful cs bs → (vs : List ℕ) → hold bs (mins cs vs) ≡ hold bs vs
unfolding hold mins
hold_same lawful_none vs = refl
hold_same (lawful_more l ls) [] = refl
hold_same (lawful_more {c = c} {cs = cs} {b = b} {bs = bs} l ls) (v ∷ vs) =
    ap (λ (z : Bool). z && hold bs (mins cs vs)) (within_same c v b l) ∙ ap (λ (z : Bool). within b v && z) (hold_same ls vs)

one_same : (t : Bool) (c v : ℕ) → cond t 0 (min (suc (min v c)) c) ≡ min (cond t 0 (suc v)) c
one_same true c v = omega arith
one_same false c v = omega arith

advance_same : (mask : ℕ) (cs vs : List ℕ) → advance stopped mask cs (mins cs vs) ≡ mins cs (advance unlimited mask cs vs)
unfolding advance mins
advance_same mask [] vs = refl
advance_same mask (c ∷ cs) [] = refl
advance_same mask (c ∷ cs) (v ∷ vs) =
    ap (λ (z : ℕ). z ∷ advance stopped (mask / 2) cs (mins cs vs)) (one_same (eqb (mask % 2) 1) c v)
    ∙ ap (λ (z : List ℕ). min (cond (eqb (mask % 2) 1) 0 (suc v)) c ∷ z) (advance_same (mask / 2) cs vs)

module _ (p : Policy) where
  decides_same : {rs : List Rule} → LawfulRules p.ceilings rs → (s : Place) (e : Event) → decides rs (stop p s) e ≡ decides rs s e
  unfolding decides fires
  decides_same checked_none s e = refl
  decides_same (checked_more {r = r} {rs = rs} l ls) s e = rw (hold_same l s.clocks, decides_same ls s e)

  -- Under either reading the values looked at are the stopped ones of those looked at without limit.
  pub tested_same : (vs : List ℕ) → tested stopped p (mins p.ceilings vs) ≡ mins p.ceilings (tested unlimited p vs)
  unfolding tested
  tested_same vs = go (eqb p.reading 2)
    where
      go : (t : Bool) →
          cond t (advance stopped 0 p.ceilings (mins p.ceilings vs)) (mins p.ceilings vs)
          ≡ mins p.ceilings (cond t (advance unlimited 0 p.ceilings vs) vs)
      go true = advance_same 0 p.ceilings vs
      go false = refl

  looked_same : LawfulRules p.ceilings p.rules → (s : Place) (e : Event) →
      decides p.rules (looked stopped p (stop p s)) e ≡ decides p.rules (looked unlimited p s) e
  looked_same ok s e = rw (tested_same s.clocks) (decides_same ok (looked unlimited p s) e)

  taken_same : (s : Place) (r : Rule) → taken stopped p (stop p s) r ≡ shown p (taken unlimited p s r)
  unfolding taken shown
  taken_same s r = go (eqb r.target 255)
    where
      go : (t : Bool) →
          cond t none (some (record { location = r.target; clocks = advance stopped r.reset p.ceilings (mins p.ceilings s.clocks) }))
          ≡ shown p (cond t none (some (record { location = r.target; clocks = advance unlimited r.reset p.ceilings s.clocks })))
      go true = refl
      go false = ap (λ (z : List ℕ). some (record { location = r.target; clocks = z })) (advance_same r.reset p.ceilings s.clocks)

  -- One tick with stopped clocks shows what one tick without limit shows.
  pub step_same : LawfulRules p.ceilings p.rules → (s : Place) (e : Event) → step stopped p (stop p s) e ≡ shown p (step unlimited p s e)
  unfolding step bind shown
  step_same ok s e = rw (looked_same ok s e) (go (decides p.rules (looked unlimited p s) e))
    where
      go : (d : Option Rule) → bind d (taken stopped p (stop p s)) ≡ shown p (bind d (taken unlimited p s))
      go none = refl
      go (some r) = taken_same s r

  -- A stream with stopped clocks shows what it shows without limit.
  pub steps_same : LawfulRules p.ceilings p.rules → (s : Place) (es : Stream) → steps stopped p (stop p s) es ≡ shown p (steps unlimited p s es)
  unfolding steps shown bind
  steps_same ok s [] = refl
  steps_same ok s (e ∷ es) = rw (step_same ok s e) (go (λ t. steps_same ok t es) (step unlimited p s e))
    where
      go : ((t : Place) → steps stopped p (stop p t) es ≡ shown p (steps unlimited p t es)) →
          (d : Option Place) → bind (shown p d) (λ t. steps stopped p t es) ≡ shown p (bind d (λ t. steps unlimited p t es))
      go ih none = refl
      go ih (some t) = ih t

  -- The start is shown as it is.
  pub start_stops : stop p (start p) ≡ start p
  unfolding mins
  start_stops = ap (λ (z : List ℕ). record { location = 0; clocks = z }) (zeros p.ceilings)
    where
      none_yet : (c : ℕ) → min 0 c ≡ 0
      none_yet c = omega arith

      zeros : (cs : List ℕ) → mins cs (replicate (length cs) 0) ≡ replicate (length cs) 0
      zeros [] = refl
      zeros (c ∷ cs) = ap (λ (z : ℕ). z ∷ mins cs (replicate (length cs) 0)) (none_yet c) ∙ ap (λ (z : List ℕ). 0 ∷ z) (zeros cs)
