-- From what the code finds to the reason: the rule that decides, where it leads, and what the tables say of the state there.
-- In order: reasons with small numbers, for an event and for an input; what the tables say of a state; the reason for an event by the
-- rule that decides it.
use Rattle.std.specs.Prelude.{◌≡◌, refl, Bool, true, false, List, ℕ, suc, ◌+◌, ◌-◌, ◌≤◌, ◌<◌, get_or}
use Rattle.std.proofs.Math.Path.{sym, ap}
use Rattle.std.proofs.Common.{subst, ◌∙◌, ⊎_elim, arith}
use Rattle.std.proofs.Math.Option.{Option, none, some, bind}
use Rattle.streams.specs.Stream.{Event}
use Rattle.policy.specs.Rules.{Rule, Policy, Place, unlimited, stopped, decides, looked, taken, step}
use Rattle.policy.specs.Stop.{stop}
use Rattle.policy.specs.Number.{states, number_of}
use Rattle.policy.specs.Sound.{WellFormed, In, Inside}
use Rattle.policy.specs.Stays.{stop_same}
use Rattle.policy.specs.Checked.{well_rising, well_checked}
use Rattle.policy.specs.Own.{below, own, decides_own}
use Rattle.stepping.specs.Code.{event_xy, decider}
use Rattle.stepping.specs.Tick.{arrives, reaches}
use Rattle.stepping.specs.Pass.{Led}
use Rattle.resting.specs.Table.{bit}
use Rattle.resting.specs.Marks.{bit_le}
use Rattle.resting.specs.Machine.{Machine}
use Rattle.resting.specs.Keeps.{is_marked}
use Rattle.resting.specs.Leads.{unmarked}
use Rattle.trimming.specs.Table.{machine_of, marks_of}
use Rattle.trimming.specs.Live.{within, marks_bits}
use Rattle.planning.specs.Deciding.{on_from, decider_own}
use Rattle.counting.specs.Exact.{Exact, exact_few, calm, within_calm}
use Rattle.counting.specs.Tables.{endless}
use Rattle.counting.specs.Loops.{LastsLong}
use Rattle.explaining.specs.Reasons.{Reason, rule, unmatched, ticks, rests, count_of, SaysWhy, by_rule, by_none, by_ticks, by_rests, SaysIn}
use Rattle.explaining.specs.Better.{better, better_few, best_first, best_more}
use Rattle.explaining.specs.Deciding.{decider_same, decides_same}
use Rattle.explaining.specs.Shown.{ticks_left, lasting, rests_left, led_some, led_none, next_shown}
use Rattle.counting.specs.Counted.{CountsOf}

-- A true reason whose number is below that of the states that a policy can have.
pub record ToldWhy (p : Policy) (s : Place) (e : Event) (r : Reason) : Type 0 where
  pub says : SaysWhy p s e r
  pub few : count_of r < 65536

-- The same for an input, by the outputs below n.
pub record ToldIn (p : Policy) (s : Place) (n x : ℕ) (r : Reason) : Type 0 where
  pub says : SaysIn p s n x r
  pub few : count_of r < 65536

-- The lowest output alone, and one output more.
module _ {p : Policy} {s : Place} {x : ℕ} where
  -- With the lowest output alone, the reason for the input is that of the event.
  pub told_first : {r : Reason} → ToldWhy p s (event_xy x 0) r → ToldIn p s 1 x r
  told_first t = record { says = best_first t.says; few = t.few }

  -- One output more: the reason for the input is the better of the two.
  pub told_more : {n : ℕ} {b r : Reason} → 0 < n → ToldIn p s n x b → ToldWhy p s (event_xy x n) r → ToldIn p s (suc n) x (better b r)
  told_more {b = b} {r = r} o h t = record { says = best_more o h.says t.says; few = better_few b r h.few t.few }

-- What they say of a state that is not live.
pub data SaidCount (a : Machine) (n : ℕ) : Reason → Type 0 where
  ends : {k : ℕ} → Exact (calm a) k n → SaidCount a n (ticks k)
  lasts : {k : ℕ} → LastsLong a n → Exact a k n → SaidCount a n (rests k)

module _ {p : Policy} (ok : WellFormed p) {T R : List ℕ} (c : CountsOf p T R) {n : ℕ} (l : n < states p) where
  -- An entry below that of a state without an end is one more than the number of ticks.
  pub counted_ticks : get_or T n 0 < endless → SaidCount (machine_of p) n (ticks (get_or T n 0 - 1)) × (0 < get_or T n 0)
  counted_ticks h =
      ⊎_elim (λ q. absurd (omega (arith, q.0)))
      (λ x. (subst (λ (k : ℕ). SaidCount (machine_of p) n (ticks k)) (omega (arith, x.1)) (ends x.2), omega (arith, x.1))) (c.ticks.each n l)

  -- Else the other table has the state's own rest and those after it.
  pub counted_rests : endless ≤ get_or T n 0 → get_or (marks_of p) n 0 ≡ 0 → {k : ℕ} → get_or R n 0 ≡ bit ((machine_of p).rest n) + k → SaidCount (machine_of p) n (rests k)
  counted_rests h z {k} e =
      let x = c.rests.each n l z in
      ⊎_elim (λ q. lasts q.1 (subst (λ (j : ℕ). Exact (machine_of p) j n) (omega (arith, x.1)) x.2))
      (λ y. absurd (omega (arith, y.1, few y.2))) (c.ticks.each n l)
    where
      few : {k : ℕ} → Exact (calm (machine_of p)) k n → suc k < endless
      few x = omega (arith, ok.states, exact_few (calm (machine_of p)) (within_calm (machine_of p) (within p ok)) l x)

  -- A state at rest that is not live has an entry above 0 in the table of rests.
  pub rests_some : get_or (marks_of p) n 0 ≡ 0 → (machine_of p).rest n ≡ true → 0 < get_or R n 0
  rests_some z e = let x = c.rests.each n l z in omega (arith, x.1, ap bit e)

  -- A state that is not live has an entry of at most 65,536 in the table of rests.
  pub rests_few : get_or (marks_of p) n 0 ≡ 0 → get_or R n 0 ≤ 65536
  rests_few z =
      let x = c.rests.each n l z in
      omega (arith, x.1, bit_le ((machine_of p).rest n), ok.states, exact_few (machine_of p) (within p ok) l x.2)

-- Where a rule leads, with an equal answer to whether it leads on.
pub led_as : {s : Place} {p : Policy} {r : Rule} {b c : Bool} {to : ℕ} → b ≡ c → Led s p r b to → Led s p r c to
led_as {s} {p} {r} {to = to} e w = subst (λ (z : Bool). Led s p r z to) e w

module _ (p : Policy) (ok : WellFormed p) (s : Place) (i : Inside p s) (e : Event) where
  -- The rule that decides with stopped clocks decides without limit.
  looked_as : {o : Option Rule} → decides (own s.location p.rules) (looked stopped p s) e ≡ o → decides p.rules (looked unlimited p s) e ≡ o
  looked_as q =
      sym (decides_same p s e (well_checked p ok)) ∙ ap (λ (t : Place). decides p.rules (looked stopped p t) e) (stop_same p s i)
      ∙ sym (decides_own (looked stopped p s) e (well_rising p ok)) ∙ q

  decider_as : {o : Option ℕ} → decider (own s.location p.rules) (looked stopped p s) e ≡ o →
      decider p.rules (looked unlimited p s) e ≡ on_from (below s.location p.rules) o
  decider_as q =
      sym (decider_same p s e (well_checked p ok)) ∙ ap (λ (t : Place). decider p.rules (looked stopped p t) e) (stop_same p s i)
      ∙ decider_own (looked stopped p s) e (well_rising p ok) ∙ ap (on_from (below s.location p.rules)) q

  -- No rule of the location decides the event: the reason is that none matches.
  pub told_none : decides (own s.location p.rules) (looked stopped p s) e ≡ none → ToldWhy p s e unmatched
  told_none q = record { says = by_none (looked_as q); few = omega arith }

  module _ {r : Rule} (q : decides (own s.location p.rules) (looked stopped p s) e ≡ some r) where
    -- The rule that decides leads to a violation: the reason is its number among all rules.
    pub told_rule : {j to n : ℕ} → decider (own s.location p.rules) (looked stopped p s) e ≡ some j → Led s p r false to → below s.location p.rules + j ≡ n → n < 65536 → ToldWhy p s e (rule n)
    told_rule d w c few = record { says = by_rule (decider_as d ∙ ap some c) (looked_as q) (led_none w); few = few }

    -- It leads to the state with the number `to`.
    module _ {to : ℕ} (w : Led s p r true to) where
      stepped : (u : Place) × (step unlimited p s e ≡ some u) × (number_of p (stop p u) ≡ to) × In p u
      unfolding step bind
      stepped =
          let t = led_some w in
          let d : decides p.rules (looked stopped p s) e ≡ some r = sym (decides_own (looked stopped p s) e (well_rising p ok)) ∙ q in
          let u = next_shown p ok i e {t = t.0} (ap (λ (o : Option Rule). bind o (taken stopped p s)) d ∙ t.1) in
          (u.0, u.1, ap (number_of p) u.2 ∙ t.2, u.3)

      -- The rule leads to a state with a count: the reason is that count.
      pub told_counted : {q : Reason} → SaidCount (machine_of p) to q → ToldWhy p s e q
      told_counted (ends x) =
          let u = stepped in
          record {
            says = by_ticks u.1 (ticks_left p ok u.0 u.3 (subst (Exact (calm (machine_of p)) _) (sym u.2) x));
            few = omega (arith, ok.states, exact_few (calm (machine_of p)) (within_calm (machine_of p) (within p ok)) (w.below refl) x);
          }
      told_counted (lasts long x) =
          let u = stepped in
          record {
            says =
                by_rests u.1
                (rests_left p ok u.0 u.3 (lasting p ok u.0 u.3 (subst (LastsLong (machine_of p)) (sym u.2) long)) (subst (Exact (machine_of p) _) (sym u.2) x));
            few = omega (arith, ok.states, exact_few (machine_of p) (within p ok) (w.below refl) x);
          }

      -- An event that reaches no live state leads to one that is not.
      pub led_dead : reaches p (marks_of p) s e.x e.y ≡ false → get_or (marks_of p) to 0 ≡ 0
      unfolding reaches step bind
      led_dead h =
          let t = led_some w in
          let d : decides p.rules (looked stopped p s) e ≡ some r = sym (decides_own (looked stopped p s) e (well_rising p ok)) ∙ q in
          let n = ap (λ (o : Option Rule). bind o (taken stopped p s)) d ∙ t.1 in
          unmarked (marks_of p) (marks_bits p) to (ap (is_marked (marks_of p)) (sym t.2) ∙ ap (arrives p (marks_of p)) (sym n) ∙ h)
