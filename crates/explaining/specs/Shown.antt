-- What the counts of a numbered state say of a place that shows it, over clocks without limit.
use Rattle.std.specs.Prelude.{◌≡◌, Bool, false, cond, ℕ, suc, ◌≤◌, eqb, length}
use Rattle.std.proofs.Math.Path.{refl}
use Rattle.std.proofs.Common.{sym, ap, subst, ◌∙◌, true≢false, arith, eqb-true}
use Rattle.std.proofs.Math.Bool.{true}
use Rattle.std.proofs.lemmas.Bool.{false≢true}
use Rattle.std.proofs.Math.Logic.{by_cases}
use Rattle.std.proofs.Math.Option.{Option, none, some}
use Rattle.std.proofs.Math.Decide.{dec_lt}
use Rattle.streams.specs.Stream.{Event, Stream, Rested}
use Rattle.streams.specs.Laws.{rested_same}
use Rattle.policy.specs.Rules.{Rule, Policy, Place, unlimited, stopped, advance, taken, step, Runs}
use Rattle.policy.specs.Stop.{stop}
use Rattle.policy.specs.Number.{number_of}
use Rattle.policy.specs.Sound.{WellFormed, In, Inside}
use Rattle.policy.specs.Stays.{Of, step_in, stop_same}
use Rattle.policy.specs.Checked.{well_sound}
use Rattle.stepping.specs.Tick.{arrives}
use Rattle.stepping.specs.Ways.{leads}
use Rattle.stepping.specs.Pass.{Led}
use Rattle.resting.specs.Machine as Machine
use Rattle.resting.specs.Walk.{Visits, visits_of, visits_runs, visits_rested}
use Rattle.trimming.specs.Table.{machine_of}
use Rattle.trimming.specs.Live.{there_numbered, numbered_there, unlimited_step}
use Rattle.stepping.specs.Only.{only, only_one, only_marked}
use Rattle.counting.specs.Exact.{Exact, visits_down, calm, calm_length, calm_all, calm_visits}
use Rattle.counting.specs.Loops.{LastsLong}
use Rattle.explaining.specs.Reasons.{TicksLeft, Lasting, RestsLeft}

module _ (p : Policy) (ok : WellFormed p) (t : Place) (i : In p t) where
  abbrev n : ℕ
  n = number_of p (stop p t)

  abbrev a : Machine.Machine
  a = machine_of p

  runs : {k : ℕ} {v : Stream} → Visits a k n v → Runs p t v
  runs {v = v} w = (numbered_there p ok t i).permits v (visits_runs a w)

  walks : (v : Stream) → Runs p t v → Visits a 0 n v
  unfolding Rested
  walks v r = visits_of a v n 0 ((there_numbered p ok t i).permits v r) tt

  -- The exact count of ticks from the numbered state is that from the place.
  pub ticks_left : {k : ℕ} → Exact (calm a) k n → TicksLeft p t k
  ticks_left {k} x =
      let v = x.some in
      record {
        some = (v.0, runs (calm_visits a v.1), omega (arith, calm_length a v.1, most v.0 (runs (calm_visits a v.1))));
        most = most;
      }
    where
      most : (v : Stream) → Runs p t v → length v ≤ k
      most v r =
          by_cases (dec_lt k (length v)) (λ l. absurd (x.most v (visits_down (calm a) l (calm_all a (walks v r))))) (λ g. omega arith)

  -- If streams of every length leave the numbered state, they leave the place.
  pub lasting : LastsLong a n → Lasting p t
  lasting l m = let v = l m in (v.0, runs (calm_visits a v.1), v.2)

  -- The exact count of rests from the numbered state is that from the place, if the stream can go on for ever.
  pub rests_left : {k : ℕ} → Lasting p t → Exact a k n → RestsLeft p t k
  rests_left {k} l x =
      let v = x.some in
      record {
        lasts = l;
        some = (v.0, runs v.1, rested_same (numbered_there p ok t i).rests k v.0 (visits_rested a v.1));
        most = λ u r h. x.most u (visits_of a u n (suc k) ((there_numbered p ok t i).permits u r) (rested_same (there_numbered p ok t i).rests (suc k) u h));
      }

-- Where a rule leads, by the number that the code finds.
module _ {s : Place} {p : Policy} {r : Rule} {to : ℕ} where
  -- A rule that leads on takes the place to the state with that number.
  pub led_some : Led s p r true to → (t : Place) × (taken stopped p s r ≡ some t) × (number_of p t ≡ to)
  unfolding leads
  led_some l = go (taken stopped p s r) refl (l.mark (only to) ∙ only_marked to)
    where
      go : (d : Option Place) → taken stopped p s r ≡ d → arrives p (only to) d ≡ true → (t : Place) × (taken stopped p s r ≡ some t) × (number_of p t ≡ to)
      go none q h = absurd (false≢true h)
      go (some t) q h = (t, q, only_one to (number_of p t) (eqb-true _ 1 h))

  -- A rule that does not lead on has the violation for its target.
  pub led_none : Led s p r false to → r.target ≡ 255
  unfolding leads taken
  led_none l = go (eqb r.target 255) refl
    where
      t : Place
      t = record { location = r.target; clocks = advance stopped r.reset p.ceilings s.clocks }

      go : (b : Bool) → eqb r.target 255 ≡ b → r.target ≡ 255
      go true q = eqb-true _ _ q
      go false q = absurd (true≢false (sym (only_marked (number_of p t)) ∙ ap (arrives p (only (number_of p t))) (sym (lands q)) ∙ l.mark (only (number_of p t))))
        where
          lands : eqb r.target 255 ≡ false → cond (eqb r.target 255) none (some t) ≡ some t
          lands q = rw q

module _ (p : Policy) (ok : WellFormed p) {s : Place} (i : Inside p s) (e : Event) where
  -- The place after the event, over clocks without limit, shows the one after it with stopped clocks.
  pub next_shown : {t : Place} → step stopped p s e ≡ some t → (u : Place) × (step unlimited p s e ≡ some u) × (stop p u ≡ t) × In p u
  next_shown {t} h =
      let u = unlimited_step p ok s e t (rw (stop_same p s i) h) in
      (u.0, u.1, u.2, subst (Of (In p)) u.1 (step_in unlimited p (well_sound p ok) s (record { location = i.location; clocks = i.clocks }) e))
