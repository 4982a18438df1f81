-- Why a half of an event was edited. What a reason is, over streams and "clocks that never stop counting".
-- In order: exact counts of ticks and of rests; the kinds of reason; the reason for an event (`SaysWhy`), for an input (`SaysIn`) and for both halves of
-- a tick (`Explained`); that one reason alone is true of each.
use Rattle.std.specs.Prelude.{◌≡◌, refl, List, [], ◌∷◌, ℕ, zero, suc, ◌+◌, ◌-◌, ◌≤◌, ◌<◌, length}
use Rattle.std.proofs.Common.{sym, ap, subst, ◌∙◌, le_antisymm, arith}
use Rattle.std.proofs.Math.Logic.{⊎_map, by_cases}
use Rattle.std.proofs.Math.Option.{Option, none, some, bind, none-ne-some, some-injective}
use Rattle.std.proofs.Math.Decide.{dec_lt}
use borrow.Author.Tests.{eq-eqb}
use Rattle.streams.specs.Stream.{Event, Stream, Rested}
use Rattle.policy.specs.Rules.{Rule, Policy, Place, output_values, unlimited, decides, looked, taken, step, Runs, Rests}
use Rattle.stepping.specs.Tick.{input_choice, output_choice}
use Rattle.stepping.specs.Code.{event_xy, decider}

-- "the stream could have gone on for at most k more ticks after it, with k exact": a permitted stream from the place t has k events, none has more.
pub record TicksLeft (p : Policy) (t : Place) (k : ℕ) : Type 0 where
  pub some : (v : Stream) × Runs p t v × (length v ≡ k)
  pub most : (v : Stream) → Runs p t v → length v ≤ k

-- "the stream could go on for ever": permitted streams of every length leave the place.
abbrev pub Lasting : Policy → Place → Type 0
Lasting p t = (n : ℕ) → (v : Stream) × Runs p t v × (length v ≡ n)

-- "where the stream could go on for ever: with at most k later events ending at rest, k exact".
pub record RestsLeft (p : Policy) (t : Place) (k : ℕ) : Type 0 where
  pub lasts : Lasting p t
  pub some : (v : Stream) × Runs p t v × Rested (Rests p t) k v
  pub most : (v : Stream) → Runs p t v → Rested (Rests p t) (suc k) v → ⊥

-- `kept`: not edited.
pub data Reason : Type 0 where
  kept : Reason
  rule : ℕ → Reason
  unmatched : Reason
  ticks : ℕ → Reason
  rests : ℕ → Reason

-- As the C interface says them: 0 not edited, 1 rule, 2 no rule, 3 ticks, 4 rests; and the rule's number or the count.
abbrev pub kind_of : Reason → ℕ
kind_of kept = 0
kind_of (rule i) = 1
kind_of unmatched = 2
kind_of (ticks k) = 3
kind_of (rests k) = 4

-- The rule's number or the count; 0 where there is none.
abbrev pub count_of : Reason → ℕ
count_of kept = 0
count_of (rule i) = i
count_of unmatched = 0
count_of (ticks k) = k
count_of (rests k) = k

module _ (p : Policy) (s : Place) where
  -- "the number (from 0) of the rule that sent it to 255, or that no rule matched, or that the stream could have gone on for at most k more ticks after it"; "a
  -- further reason holds where the stream could go on for ever". The event itself is not counted.
  pub data SaysWhy (e : Event) : Reason → Type 0 where
    by_rule : {i : ℕ} {r : Rule} → decider p.rules (looked unlimited p s) e ≡ some i → decides p.rules (looked unlimited p s) e ≡ some r → r.target ≡ 255 → SaysWhy e (rule i)
    by_none : decides p.rules (looked unlimited p s) e ≡ none → SaysWhy e unmatched
    by_ticks : {k : ℕ} {t : Place} → step unlimited p s e ≡ some t → TicksLeft p t k → SaysWhy e (ticks k)
    by_rests : {k : ℕ} {t : Place} → step unlimited p s e ≡ some t → RestsLeft p t k → SaysWhy e (rests k)

  -- "For an input, the greatest k over all outputs, or that every output is a violation at once, with the reason for the lowest output." A count of rests "goes
  -- before a count of ticks, with the greatest such k". The outputs are those below n.
  pub data SaysIn (n x : ℕ) : Reason → Type 0 where
    most_rests : {k y : ℕ} → y < n → SaysWhy (event_xy x y) (rests k) → ((z j : ℕ) → z < n → SaysWhy (event_xy x z) (rests j) → j ≤ k) → SaysIn n x (rests k)
    most_ticks : {k y : ℕ} → y < n → SaysWhy (event_xy x y) (ticks k) → ((z j : ℕ) → z < n → SaysWhy (event_xy x z) (ticks j) → j ≤ k) →
        ((z : ℕ) (t : Place) → z < n → step unlimited p s (event_xy x z) ≡ some t → Lasting p t → ⊥) → SaysIn n x (ticks k)
    at_once : {r : Reason} → ((z : ℕ) → z < n → step unlimited p s (event_xy x z) ≡ none) → SaysWhy (event_xy x 0) r → SaysIn n x r

-- "It is .. given exactly for an edited half."
pub data Given (says : Reason → Type 0) (wanted released : ℕ) : Reason → Type 0 where
  forwarded : wanted ≡ released → Given says wanted released kept
  edited : {r : Reason} → (wanted ≡ released → ⊥) → says r → Given says wanted released r

-- The reasons for x and y as read, at the place s: x' and y' are what the halves release, and the output is judged with x'.
pub record Explained (p : Policy) (marks : List ℕ) (s : Place) (x y : ℕ) (input output : Reason) : Type 0 where
  pub x' : ℕ
  pub y' : ℕ
  pub passed : input_choice p marks s x ≡ some x'
  pub released : output_choice p marks s x' y ≡ some y'
  pub for_input : Given (SaysIn p s (output_values p) x) x x' input
  pub for_output : Given (SaysWhy p s (event_xy x' y)) y y' output

-- ---- One reason alone is true.
module _ {p : Policy} {t : Place} where
  -- A place has one exact count of ticks.
  pub ticks_one : {k j : ℕ} → TicksLeft p t k → TicksLeft p t j → k ≡ j
  ticks_one h g =
      let a = h.some in
      let b = g.some in
      omega (arith, h.most b.0 b.1, g.most a.0 a.1, a.2, b.2)

  -- A stream that goes on for ever has no last tick.
  pub not_lasting : {k : ℕ} → TicksLeft p t k → Lasting p t → ⊥
  not_lasting {k} h l = let v = l (suc k) in omega (arith, h.most v.0 v.1, v.2)

-- What has suc k events at rest has k.
pub rested_less : {A : Type 0} (P : List A → Type 0) (v : List A) (k : ℕ) → Rested P (suc k) v → Rested P k v
unfolding Rested
rested_less P v zero r = tt
rested_less P [] (suc k) r = absurd r
rested_less P (e ∷ v) (suc k) r = ⊎_map (λ p. (p.0, rested_less (λ u. P (e ∷ u)) v k p.1)) (rested_less (λ u. P (e ∷ u)) v (suc k)) r

-- What has j events at rest has each smaller number of them.
pub rested_few : {A : Type 0} (P : List A → Type 0) (v : List A) (d k : ℕ) {j : ℕ} → j ≡ d + k → Rested P j v → Rested P k v
rested_few P v zero k {j} e r = let q : j ≡ k = omega arith in subst (λ (n : ℕ). Rested P n v) q r
rested_few P v (suc d) k {j} e r =
    let q : j ≡ suc (d + k) = omega arith in
    rested_few P v d k refl (rested_less P v (d + k) (subst (λ (n : ℕ). Rested P n v) q r))

rests_le : {p : Policy} {t : Place} {k j : ℕ} → RestsLeft p t k → RestsLeft p t j → k ≤ j
rests_le {p} {t} {k} {j} h g =
    by_cases (dec_lt j k) (λ l. let v = h.some in absurd (g.most v.0 v.1 (rested_few (Rests p t) v.0 (k - suc j) (suc j) (omega arith) v.2))) (λ n. omega arith)

-- A place has one exact count of rests.
pub rests_one : {p : Policy} {t : Place} {k j : ℕ} → RestsLeft p t k → RestsLeft p t j → k ≡ j
rests_one h g = le_antisymm (rests_le h g) (rests_le g h)

module _ (p : Policy) (s : Place) (e : Event) where
  -- Where a rule leads to 255, or none decides, there is no next place.
  pub rule_stops : {r : Rule} → decides p.rules (looked unlimited p s) e ≡ some r → r.target ≡ 255 → step unlimited p s e ≡ none
  unfolding step bind taken
  rule_stops d t = rw (d, eq-eqb _ _ t)

  -- An event that no rule decides has no next place.
  pub none_stops : decides p.rules (looked unlimited p s) e ≡ none → step unlimited p s e ≡ none
  unfolding step bind
  none_stops d = rw d

clash : {A : Type 0} {d : Option A} {a : A} → d ≡ none → d ≡ some a → ⊥
clash {a} n h = none-ne-some a (sym n ∙ h)

same : {A : Type 0} {d : Option A} {a b : A} → d ≡ some a → d ≡ some b → a ≡ b
same {a} {b} h g = some-injective a b (sym h ∙ g)

module _ {p : Policy} {s : Place} {e : Event} where
  -- An event has one reason.
  pub says_one : {r q : Reason} → SaysWhy p s e r → SaysWhy p s e q → r ≡ q
  says_one (by_rule i d t) (by_rule j c u) = ap rule (same i j)
  says_one (by_rule i d t) (by_none n) = absurd (clash n d)
  says_one (by_rule i d t) (by_ticks h g) = absurd (clash (rule_stops p s e d t) h)
  says_one (by_rule i d t) (by_rests h g) = absurd (clash (rule_stops p s e d t) h)
  says_one (by_none n) (by_rule i d t) = absurd (clash n d)
  says_one (by_none n) (by_none m) = refl
  says_one (by_none n) (by_ticks h g) = absurd (clash (none_stops p s e n) h)
  says_one (by_none n) (by_rests h g) = absurd (clash (none_stops p s e n) h)
  says_one (by_ticks h g) (by_rule i d t) = absurd (clash (rule_stops p s e d t) h)
  says_one (by_ticks h g) (by_none n) = absurd (clash (none_stops p s e n) h)
  says_one (by_ticks {k = k} h g) (by_ticks {k = j} c f) = ap ticks (ticks_one (subst (λ (t : Place). TicksLeft p t k) (same h c) g) f)
  says_one (by_ticks {k = k} h g) (by_rests c f) = absurd (not_lasting (subst (λ (t : Place). TicksLeft p t k) (same h c) g) f.lasts)
  says_one (by_rests h g) (by_rule i d t) = absurd (clash (rule_stops p s e d t) h)
  says_one (by_rests h g) (by_none n) = absurd (clash (none_stops p s e n) h)
  says_one (by_rests h g) (by_ticks {k = j} c f) = absurd (not_lasting (subst (λ (t : Place). TicksLeft p t j) (same c h) f) g.lasts)
  says_one (by_rests {k = k} h g) (by_rests c f) = ap rests (rests_one (subst (λ (t : Place). RestsLeft p t k) (same h c) g) f)

  -- The next place, if ticks or rests are said.
  pub ticks_next : {k : ℕ} → SaysWhy p s e (ticks k) → (t : Place) × (step unlimited p s e ≡ some t) × TicksLeft p t k
  ticks_next (by_ticks {t = t} h g) = (t, h, g)

  -- A count of rests is that of the place after the event.
  pub rests_next : {k : ℕ} → SaysWhy p s e (rests k) → (t : Place) × (step unlimited p s e ≡ some t) × RestsLeft p t k
  rests_next (by_rests {t = t} h g) = (t, h, g)

  some_kind : {r : Reason} → SaysWhy p s e r → 0 < kind_of r
  some_kind (by_rule i d t) = omega arith
  some_kind (by_none n) = omega arith
  some_kind (by_ticks h g) = omega arith
  some_kind (by_rests h g) = omega arith

  -- A kept half has no reason of its own.
  pub never_kept : SaysWhy p s e kept → ⊥
  never_kept h = omega (arith, some_kind h)

module _ {p : Policy} {s : Place} {n x : ℕ} where
  -- An input has one reason.
  pub says_in_one : {r q : Reason} → SaysIn p s n x r → SaysIn p s n x q → r ≡ q
  says_in_one (most_rests {k = k} {y = y} l h m) (most_rests {k = j} {y = z} o g c) = ap rests (le_antisymm (c y k l h) (m z j o g))
  says_in_one (most_rests {y = y} l h m) (most_ticks o g c f) = let a = rests_next h in absurd (f y a.0 l a.1 a.2.lasts)
  says_in_one (most_rests {y = y} l h m) (at_once c g) = let a = rests_next h in absurd (none-ne-some _ (sym (c y l) ∙ a.1))
  says_in_one (most_ticks l h m f) (most_rests {y = y} o g c) = let a = rests_next g in absurd (f y a.0 o a.1 a.2.lasts)
  says_in_one (most_ticks {k = k} {y = y} l h m f) (most_ticks {k = j} {y = z} o g c d) = ap ticks (le_antisymm (c y k l h) (m z j o g))
  says_in_one (most_ticks {y = y} l h m f) (at_once c g) = let a = ticks_next h in absurd (none-ne-some _ (sym (c y l) ∙ a.1))
  says_in_one (at_once c g) (most_rests {y = y} l h m) = let a = rests_next h in absurd (none-ne-some _ (sym (c y l) ∙ a.1))
  says_in_one (at_once c g) (most_ticks {y = y} l h m f) = let a = ticks_next h in absurd (none-ne-some _ (sym (c y l) ∙ a.1))
  says_in_one (at_once c g) (at_once m h) = says_one g h

-- A half has one reason, if an edited one has.
pub given_one : {says : Reason → Type 0} {w v : ℕ} {r q : Reason} → ((a b : Reason) → says a → says b → a ≡ b) → Given says w v r → Given says w v q → r ≡ q
given_one one (forwarded e) (forwarded d) = refl
given_one one (forwarded e) (edited n h) = absurd (n e)
given_one one (edited n h) (forwarded e) = absurd (n e)
given_one one (edited {r = a} n h) (edited {r = b} m g) = one a b h g

-- One pair of reasons alone explains a tick.
pub explained_one : {p : Policy} {marks : List ℕ} {s : Place} {x y : ℕ} {i j o q : Reason} →
    Explained p marks s x y i o → Explained p marks s x y j q → (i ≡ j) × (o ≡ q)
explained_one {p} {marks} {s} {x} {y} {q = q} h g =
    let a = some-injective h.x' g.x' (sym h.passed ∙ g.passed) in
    let r = subst (λ (z : ℕ). output_choice p marks s z y ≡ some h.y') a h.released in
    let b = some-injective h.y' g.y' (sym r ∙ g.released) in (
      given_one (λ a b. says_in_one) h.for_input (subst (λ (z : ℕ). Given (SaysIn p s (output_values p) x) x z _) (sym a) g.for_input),
      given_one (λ a b. says_one) h.for_output
          (subst (λ (z : ℕ). Given (SaysWhy p s (event_xy h.x' y)) y z q) (sym b)
          (subst (λ (z : ℕ). Given (SaysWhy p s (event_xy z y)) y g.y' q) (sym a) g.for_output)),
    )
