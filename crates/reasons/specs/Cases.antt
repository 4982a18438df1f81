-- Cases by hand, each a whole tick with the marks of prepare: a rule, no rule, and ticks; and what counts are shown by. Ticks that count down stand in `DownCases`, rests in `RestCases`.
-- In order: a rule (`S`); no rule (`D`); how counts are shown; ticks (`T`); no rule for any output (`lone`).
use Rattle.std.specs.Prelude.{◌≡◌, refl, false, ◌↔◌}
use Rattle.std.proofs.Common.{sym, subst, ◌∙◌}
use Rattle.std.proofs.Math.Path.{ap}
use Rattle.std.proofs.Math.Bool.{true≢false}
use mathlib.Core.List.{[], ◌∷◌}
use Rattle.std.proofs.Math.Logic.{⊎_elim}
use Rattle.std.proofs.Math.Option.{none, some, bind, none-ne-some, some-injective}
use Prim.Native.Nat.{ℕ, zero, suc, ◌≤◌}
use native.Mathlib.Omega.{arith}
use Rattle.std.proofs.Math.ListN.{length}
use Rattle.streams.specs.Stream.{Event, Stream, Rested}
use Rattle.streams.specs.Laws.{rested_same}
use Rattle.policy.specs.Rules.{Bound, Policy, Place, fires, decides, unlimited, step, steps, FitsOne, fits_none, Runs, Rests, rests as at_rest}
use Rattle.policy.specs.Number.{states_of}
use Rattle.stepping.specs.Code.{event_xy, decider}
use Rattle.trimming.specs.Table.{marks_of}
use Rattle.trimming.specs.Live.{runs_more}
use Rattle.explaining.specs.Reasons.{Reason, kept, rule, unmatched, ticks, TicksLeft, Lasting, RestsLeft, SaysWhy, by_rule, by_none, by_ticks, SaysIn, Given, forwarded, edited, Explained}
use Rattle.explaining.specs.Better.{better, best_first, best_more}
use Rattle.prepare.specs.Computing.{a_step, the_marks, the_run}

-- A bound that every clock value meets.
abbrev pub free : Bound
free = record { low = 0; high = 65535 }

-- "not A with B, not B with R"
abbrev pub S : Policy
S =
    record {
      reading = 1;
      inputs = 0x41 ∷ 0x42 ∷ [];
      outputs = 0x52 ∷ [];
      ceilings = [];
      locations = 1;
      left = 0 ∷ [];
      rules =
          record { source = 0; in_care = 3; in_value = 3; out_care = 0; out_value = 0; reset = 0; target = 255; bounds = [] }
          ∷ record { source = 0; in_care = 2; in_value = 2; out_care = 1; out_value = 1; reset = 0; target = 255; bounds = [] }
          ∷ record { source = 0; in_care = 0; in_value = 0; out_care = 0; out_value = 0; reset = 0; target = 0; bounds = [] } ∷ [];
    }

-- The tick x, y at s has these two reasons, with the marks of prepare.
abbrev pub Tells : Policy → Place → ℕ → ℕ → Reason → Reason → Type 0
Tells p = Explained p (marks_of p)

-- An edited input, of a policy with two outputs.
pub judged : {p : Policy} {s : Place} {x v : ℕ} {r q : Reason} → (x ≡ v → ⊥) → SaysWhy p s (event_xy x 0) r → SaysWhy p s (event_xy x 1) q → Given (SaysIn p s 2 x) x v (better r q)
judged n a b = edited n (best_more (omega arith) (best_first a) b)

-- Location 0 of a policy without clocks.
abbrev pub here : Place
here = record { location = 0; clocks = [] }

-- A with B: every output is a violation at once, by the first rule; A is passed on, and R with it stays. B with R: by the second.
pub S-cases : Tells S here 3 1 (rule 0) kept × Tells S here 2 1 kept (rule 1)
unfolding a_step the_marks the_run at_rest states_of decider
S-cases = (
  record {
    x' = 1;
    y' = 1;
    passed = refl;
    released = refl;
    for_input = judged (λ e. omega arith) (by_rule refl refl refl) (by_rule {i = 0} refl refl refl);
    for_output = forwarded refl;
  },
  record { x' = 2; y' = 0; passed = refl; released = refl; for_input = forwarded refl; for_output = edited (λ e. omega arith) (by_rule refl refl refl) },
)

-- "after R, C at latest on the fourth tick": on the fourth no rule matches without C; under reading 2 on the third.
abbrev pub D : ℕ → Policy
D reading =
    record {
      reading = reading;
      inputs = 0x52 ∷ [];
      outputs = 0x43 ∷ [];
      ceilings = 3 ∷ [];
      locations = 2;
      left = 0 ∷ 0 ∷ [];
      rules =
          record { source = 0; in_care = 1; in_value = 1; out_care = 0; out_value = 0; reset = 1; target = 1; bounds = free ∷ [] }
          ∷ record { source = 0; in_care = 0; in_value = 0; out_care = 0; out_value = 0; reset = 1; target = 0; bounds = free ∷ [] }
          ∷ record { source = 1; in_care = 0; in_value = 0; out_care = 1; out_value = 1; reset = 1; target = 0; bounds = free ∷ [] }
          ∷ record { source = 1; in_care = 0; in_value = 0; out_care = 1; out_value = 0; reset = 0; target = 1; bounds = record { low = 0; high = 2 } ∷ [] } ∷ [];
    }

-- Location 1 with its one clock at v.
abbrev pub waits : ℕ → Place
waits v = record { location = 1; clocks = v ∷ [] }

-- The output is edited because no rule matches without C: at clock value 3 under reading 1, at 2 under reading 2.
pub D-cases : Tells (D 1) (waits 3) 0 0 kept unmatched × Tells (D 2) (waits 2) 0 0 kept unmatched
unfolding a_step the_marks the_run at_rest states_of
D-cases = (
  record { x' = 0; y' = 1; passed = refl; released = refl; for_input = forwarded refl; for_output = edited (λ e. omega arith) (by_none refl) },
  record { x' = 0; y' = 1; passed = refl; released = refl; for_input = forwarded refl; for_output = edited (λ e. omega arith) (by_none refl) },
)

-- ---- Counts, by where each event leads.
module _ (p : Policy) where
  -- Where every event is a violation, no tick is left.
  pub ended : (s : Place) → ((e : Event) → step unlimited p s e ≡ none) → TicksLeft p s 0
  unfolding Runs steps
  ended s stops = record { some = ([], (fits_none, (s, refl)), refl); most = most }
    where
      most : (w : Stream) → Runs p s w → length w ≤ 0
      most [] r = omega arith
      most (e ∷ w) r = let m = (runs_more p s e w).0 r in absurd (none-ne-some m.0 (sym (stops e) ∙ m.2))

  -- Every event leads from s to t.
  module _ (quiet : FitsOne p (event_xy 0 0)) (s t : Place) (goes : (e : Event) → step unlimited p s e ≡ some t) where
    -- A permitted stream from t with an empty event before it is permitted from s.
    pub on : (v : Stream) → Runs p t v → Runs p s (event_xy 0 0 ∷ v)
    on v r = (runs_more p s (event_xy 0 0) v).1 (t, quiet, goes (event_xy 0 0), r)

    -- What follows the first event of a permitted stream from s is permitted from t.
    pub past : (e : Event) (w : Stream) → Runs p s (e ∷ w) → Runs p t w
    past e w r =
        let m = (runs_more p s e w).0 r in
        subst (λ (z : Place). Runs p z w) (some-injective m.0 t (sym m.2 ∙ goes e)) m.3

    -- From s one tick more is left than from t.
    pub one_more : {n : ℕ} → TicksLeft p t n → TicksLeft p s (suc n)
    one_more {n} h = record { some = let v = h.some in (event_xy 0 0 ∷ v.0, on v.0 v.1, ap suc v.2); most = most }
      where
        most : (w : Stream) → Runs p s w → length w ≤ suc n
        most [] r = omega arith
        most (e ∷ w) r = omega (arith, h.most w (past e w r))

    -- What comes to rest after the event e is what comes to rest from t.
    pub rests_past : (e : Event) (w : Stream) → Rests p s (e ∷ w) ↔ Rests p t w
    unfolding Rests steps bind
    rests_past e w = rw (goes e) (λ r. r, λ r. r)

    -- As many later events end at rest after e as from t.
    pub rested_past : (e : Event) (k : ℕ) (w : Stream) → Rested (λ u. Rests p s (e ∷ u)) k w ↔ Rested (Rests p t) k w
    rested_past e k w = (rested_same (λ u. (rests_past e u).0) k w, rested_same (λ u. (rests_past e u).1) k w)

  -- Before any event, a location that must be left is not at rest.
  pub unrested : (s : Place) → at_rest p s.location ≡ false → Rests p s [] → ⊥
  unfolding Rests steps
  unrested s h a =
      let e = some-injective s a.0 a.1 in
      true≢false (sym a.2 ∙ ap (λ (t : Place). at_rest p t.location) (sym e) ∙ h)

  -- Every event leads from s to s, which must be left.
  module _ (quiet : FitsOne p (event_xy 0 0)) (s : Place) (goes : (e : Event) → step unlimited p s e ≡ some s) (left : at_rest p s.location ≡ false) where
    -- Where every event leads back to the same place, the stream can go on for ever.
    pub circles : Lasting p s
    unfolding Runs steps
    circles zero = ([], (fits_none, (s, refl)), refl)
    circles (suc n) = let v = circles n in (event_xy 0 0 ∷ v.0, on quiet s s goes v.0 v.1, ap suc v.2)

    -- From such a place, which must be left, no event ends at rest.
    pub never : (v : Stream) → Runs p s v → Rested (Rests p s) 1 v → ⊥
    unfolding Rested
    never [] r q = q
    never (e ∷ v) r q =
        ⊎_elim (λ a. unrested s left ((rests_past quiet s s goes e []).0 a.0))
        (λ a. never v (past quiet s s goes e v r) ((rested_past quiet s s goes e 1 v).0 a)) q

    -- From such a place the stream can go on for ever, with no rest left.
    pub circling : RestsLeft p s 0
    unfolding Rested Runs steps
    circling = record { lasts = circles; some = ([], (fits_none, (s, refl)), tt); most = never }

-- T: the input 1 leads to a location without rules, with either output.
abbrev pub T : Policy
T =
    record {
      reading = 1;
      inputs = 0x41 ∷ [];
      outputs = 0x42 ∷ [];
      ceilings = [];
      locations = 2;
      left = 0 ∷ 0 ∷ [];
      rules =
          record { source = 0; in_care = 1; in_value = 1; out_care = 0; out_value = 0; reset = 0; target = 1; bounds = [] }
          ∷ record { source = 0; in_care = 0; in_value = 0; out_care = 0; out_value = 0; reset = 0; target = 0; bounds = [] } ∷ [];
    }

abbrev stuck : Place
stuck = record { location = 1; clocks = [] }

T-left : TicksLeft T stuck 0
unfolding step bind decides fires
T-left = ended T stuck (λ e. refl)

-- The input 1 is edited, since with either output no tick could follow.
pub T-case : Tells T here 1 1 (ticks 0) kept
unfolding a_step the_marks the_run at_rest states_of
T-case =
    record {
      x' = 0;
      y' = 1;
      passed = refl;
      released = refl;
      for_input = judged (λ e. omega arith) (by_ticks refl T-left) (by_ticks refl T-left);
      for_output = forwarded refl;
    }

-- No rule matches the input 1, whatever the output.
abbrev pub lone : Policy
lone =
    record {
      reading = 1;
      inputs = 0x41 ∷ [];
      outputs = 0x42 ∷ [];
      ceilings = [];
      locations = 1;
      left = 0 ∷ [];
      rules = record { source = 0; in_care = 1; in_value = 0; out_care = 0; out_value = 0; reset = 0; target = 0; bounds = [] } ∷ [];
    }

-- The input 1 is edited, since no output will do, and with the lowest no rule matches.
pub lone_case : Tells lone here 1 0 unmatched kept
unfolding a_step the_marks the_run at_rest states_of
lone_case =
    record {
      x' = 0;
      y' = 0;
      passed = refl;
      released = refl;
      for_input = judged (λ e. omega arith) (by_none refl) (by_none refl);
      for_output = forwarded refl;
    }
