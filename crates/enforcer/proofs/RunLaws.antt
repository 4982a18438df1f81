-- What the proofs of the run cite: where its loop stands, a turn, and the two ends; and that a state in range is that of its place.
use mathlib.Core.Path.{◌≡◌, refl, sym, ap, ◌∙◌}
use mathlib.Core.Bool.{Bool, true, false, cond, and-eq-true_iff}
use mathlib.Core.Option.{Option}
use mathlib.Core.List.{List, [], ◌++◌, map}
use Prim.Native.Nat.{ℕ, zero, suc, ◌+◌, ◌-◌, ◌*◌, ◌≤◌, ◌<◌, zero-le}
use native.Mathlib.Nat.{add-zero, zero-add}
use native.Mathlib.Numerals.{add-one}
use native.Mathlib.Omega.{arith}
use lib.Dec.{ltb}
use lib.ListN.{length, get_or, take, drop, set, length-set, take-append-drop, drop_of_length-le, length-take}
use lib.Seq.{drop-cons, append_snoc, drop-set-lt, take-suc-set}
use borrow.Author.Tests.{le-leb}
use Rattle.std.specs.Prelude as Code
use Rattle.streams.specs.Answer.{unless}
use Rattle.refusals.specs.Refused.{number_of}
use Rattle.refusals.specs.Laws.{number_above}
use Rattle.refusals.specs.declared.Refusal.{Refusal}
use Rattle.policy.specs.Rules.{Policy}
use Rattle.policy.specs.File.{policy_of}
use Rattle.policy.specs.Check.{all_pass}
use Rattle.policy.specs.Stays.{of_some}
use Rattle.policy.specs.Sound.{Inside}
use Rattle.policy.specs.declared.Layout.{Layout}
use Rattle.stepping.specs.State.{state_of, state_good, place}
use Rattle.stepping.specs.Tick as Spec
use Rattle.stepping.specs.Ticks.{ticked, ticked_fits, ran_on, ran_none}
use Rattle.enforcer.specs.Entries.{event_of, byte_of, event_good, RunAnswer, marks_refusal, state_refusal, run_from, run_refusal, run_of}
use Rattle.stepping.specs.Ready.{Laid, Standing}
use Rattle.stepping.specs.Laid.{laid_clocks, laid_inputs, laid_outputs, place_back, next_inside}
use Rattle.enforcer.specs.States.{good_inside, clocks_back}
use Rattle.correcting.specs.Chosen.{tick_from, tick_none, tick_some}
use Rattle.enforcer.specs.Promises.{RunPromise, ran_said, ran_told, ran_or_none}
use Rattle.stepping.specs.declared.state.State.{State}
use Rattle.correcting.specs.declared.tick.Ticked.{Ticked}

-- What a run answers that has written i events to `out` and goes on as r.
abbrev goes_on : ℕ → List ℕ → Spec.Progress → RunAnswer
goes_on i out r =
    record {
      refusal = cond r.stuck 17 0;
      count = i + length r.released;
      state = state_of r.place;
      out = take i out ++ (map byte_of r.released ++ drop (i + length r.released) out);
    }

goes_put : (p : Policy) (marks : List ℕ) (t : Spec.ReleasedTick) (r : Spec.Progress) (i : ℕ) (out : List ℕ) → i < length out →
    goes_on i out (Spec.put p marks t r) ≡ goes_on (suc i) (set out i (byte_of t.event)) r
goes_put p marks t r i out h =
    let n : i + suc (length r.released) ≡ suc i + length r.released = omega arith in
    rw (n, drop-set-lt (suc i + length r.released) out i (byte_of t.event) (omega arith), take-suc-set, append_snoc)

goes_ends : (i : ℕ) (out : List ℕ) (k : ℕ) (s : State) (b : Bool) → state_of (place k s) ≡ s →
    goes_on i out (record { released = []; place = place k s; stuck = b }) ≡ record { refusal = cond b 17 0; count = i; state = s; out = out }
goes_ends i out k s b w =
    rw (add-zero, take-append-drop) (ap (λ (u : State). record { refusal = cond b 17 0; count = i; state = u; out = out }) w)

-- A run from s₀ over the events has written the first i that it releases to `out`, and stands in s.
pub record Going (f : List ℕ) (l : Layout) (marks events out₀ : List ℕ) (s₀ : State) (i : ℕ) (out : List ℕ) (s : State) : Type 0 where
  pub most : i ≤ length events
  pub long : length out ≡ length out₀
  pub standing : Standing f l marks s
  pub whole : state_of (place l.clocks s) ≡ s
  pub answer :
      run_from s₀ out₀ 0 (Spec.ran (policy_of l.reading f) marks (place l.clocks s₀) (map event_of events))
      ≡ goes_on i out (Spec.ran (policy_of l.reading f) marks (place l.clocks s) (map event_of (drop i events)))

pub going_starts : {f : List ℕ} {l : Layout} {marks : List ℕ} (events out : List ℕ) {s : State} → Standing f l marks s → state_of (place l.clocks s) ≡ s →
    Going f l marks events out s 0 out s
going_starts events out k w = record { most = zero-le; long = refl; standing = k; whole = w; answer = rw zero-add }

module _ {f : List ℕ} {l : Layout} {marks events out₀ : List ℕ} {s₀ : State} {i : ℕ} {out : List ℕ} {s : State}
    (g : Going f l marks events out₀ s₀ i out s) where
  abbrev said : Code.Option Refusal → Type 0
  said n =
      ran_said (ran_told (record { refusal = n; count = i; state = s })) out
      ≡ run_from s₀ out₀ 0 (Spec.ran (policy_of l.reading f) marks (place l.clocks s₀) (map event_of events))

  pub going_ends : length events ≤ i → said Code.None
  unfolding Spec.ran
  going_ends h = sym (g.answer ∙ rw (drop_of_length-le events) (goes_ends i out l.clocks s false g.whole))

  -- By the answer of the tick at the event i.
  module _ (h : i < length events) where
    abbrev there : Option Spec.ReleasedTick
    there = Spec.tick (policy_of l.reading f) marks (place l.clocks s) (event_of (get_or events i 0))

    pub going_stuck : Code.None ≡ tick_from there → said (Code.Some Refusal.NothingStands)
    going_stuck e =
        sym (g.answer ∙ rw (drop-cons events i 0, ran_none _ _ _ _ _ (tick_none _ e)) (goes_ends i out l.clocks s true g.whole))

    pub going_turn : {r : Ticked} → Code.Some r ≡ tick_from there → i < length out →
        (r.x < 16) × (r.y < 16) × Going f l marks events out₀ s₀ (i + 1) (set out i (r.x + r.y * 16)) r.state
    going_turn e o =
        let k = g.standing.laid in
        let t = tick_some _ e in
        let p = ticked (policy_of l.reading f) marks (place l.clocks s) (event_of (get_or events i 0)) t.0 t.1 in
        let z = ticked_fits (policy_of l.reading f) marks (place l.clocks s) p in
        let d = of_some (Inside (policy_of l.reading f)) p.moves (next_inside k s t.0.event g.standing.inside) in
        let b = place_back k d in
        rw t.2 (
          omega (arith, z, laid_inputs k),
          omega (arith, z, laid_outputs k),
          record {
            most = omega arith;
            long = length-set out i _ ∙ g.long;
            standing = record { laid = k; enough = g.standing.enough; inside = rw b d };
            whole = ap state_of b;
            answer =
                g.answer
                ∙ rw (b, add-one, drop-cons events i 0, ran_on _ _ _ _ _ _ t.1)
                (goes_put (policy_of l.reading f) marks t.0 (Spec.ran (policy_of l.reading f) marks t.0.place (map event_of (drop (suc i) events))) i out o);
          },
        )

-- A state whose unused clocks are 0 is that of its place.
pub good_back : {f : List ℕ} {l : Layout} → Laid f l → (s : State) → length s.clocks ≡ 4 → state_good (policy_of l.reading f) s ≡ true →
    state_of (place l.clocks s) ≡ s
unfolding state_good
good_back {f} {l} k s n e =
    let cs = (policy_of l.reading f).ceilings in
    let g = ((and-eq-true_iff (ltb s.location (policy_of l.reading f).locations) _).0 e).1 in
    let i = (good_inside (policy_of l.reading f) s e).clocks in
    ap (λ (vs : List ℕ). record { location = s.location; clocks = vs }) (rw (laid_clocks k, i, ← n) (clocks_back cs s.clocks (length s.clocks - length cs) (omega (arith, i, length-take (length cs) s.clocks)) g))

-- Past 10, 14 and 16 only 15 is left to ask; l is the layout under the reading that was named.
pub run_past : (reading : ℕ) (file marks events out : List ℕ) (s : State) (l : Layout) → l.reading ≡ reading → marks_refusal reading file marks ≡ 0 →
    length events ≤ length out → state_refusal l.reading file marks s ≡ 0 →
    run_refusal reading file marks s events out ≡ unless (all_pass (event_good l.reading file) events) 15
unfolding run_refusal
run_past reading file marks events out s l e m n z =
    let w : state_refusal reading file marks s ≡ 0 = rw e at z in
    rw (m, le-leb _ _ n, e, w)

-- A refusal is answered with the state that was given, and nothing is written.
pub run_refused : {reading : ℕ} {file marks events out : List ℕ} {s : State} (n : Refusal) → run_refusal reading file marks s events out ≡ number_of n →
    RunPromise reading file marks s events out (ran_told (ran_or_none s (Code.Err n))) out
unfolding run_of
run_refused {out = out} {s = s} n e = record { said = rw e (go (number_of n) (number_above n) _) }
  where
    go : (m : ℕ) → 0 < m → (q : Spec.Progress) → record { refusal = m; count = 0; state = s; out = out } ≡ run_from s out m q
    go zero h q = absurd (omega arith)
    go (suc m) h q = refl
