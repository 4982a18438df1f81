-- What stays true from tick to tick: a place stays in its policy, and what may follow a stream depends on the place alone, as the stopped clocks show it.
-- In order: what holds of the next place; places over clocks without limit; places over clocks that stop; streams joined and split; what may follow a
-- stream; places that are shown alike.
use Rattle.std.specs.Prelude.{◌≡◌, Bool, ◌⊎◌, ◌↔◌, length, get_or, take}
use Rattle.std.proofs.Math.Path.{refl, ap, sym}
use Rattle.std.proofs.Common.{ap₂, ◌∙◌, subst, ⊎_elim, arith}
use Rattle.std.proofs.Math.Bool.{true, false, cond}
use mathlib.Core.List.{List, [], ◌∷◌, ◌++◌}
use Rattle.std.proofs.Math.Option.{Option, none, some, bind, bind-eq-some_iff, none-ne-some, some-injective}
use Prim.Native.Nat.{ℕ, zero, suc, ◌/◌, ◌%◌, ◌≤◌, ◌<◌, min}
use Rattle.std.proofs.Math.Dec.{eqb}
use Rattle.std.proofs.lemmas.List.{length-replicate}
use Rattle.std.proofs.lemmas.Bool.{eqb-false}
use Rattle.streams.specs.Stream.{Event, Stream, ◌after◌, GoesOn, Ends}
use Rattle.streams.specs.Laws.{goes_on, ends}
use Rattle.streams.specs.Languages.{◌narrows◌, Closed}
use Rattle.policy.specs.Rules.{Rule, Policy, Place, start, fires, decides, unlimited, stopped, advance, looked, taken, step, steps, Fits, fits_none, fits_more, Runs, Rests, from, Live, Dead}
use Rattle.policy.specs.Stopped.{LawfulRules, steps_same, start_stops}
use Rattle.policy.specs.Stop.{mins, stop, shown}
use Rattle.policy.specs.Sound.{Each, each_none, each_more, Formed, Sound, In, Inside}

-- What holds of a decision or of a place, if there is one.
abbrev pub Of : {A : Type 0} → (A → Type 0) → Option A → Type 0
Of P none = Unit {0}
Of P (some a) = P a

-- What holds if there is one holds of the one that there is.
pub of_some : {A : Type 0} (P : A → Type 0) {d : Option A} {a : A} → d ≡ some a → Of P d → P a
of_some P e = subst (Of P) e

-- What holds of each rule holds of the one that decides, if one does.
pub decides_of : {P : Rule → Type 0} {rs : List Rule} → Each P rs → (s : Place) (e : Event) → Of P (decides rs s e)
unfolding decides
decides_of each_none s e = tt
decides_of {P} (each_more {r = r} {rs = rs} p h) s e = go (fires r s e) (decides_of h s e)
  where
    go : (t : Bool) → Of P (decides rs s e) → Of P (cond t (some r) (decides rs s e))
    go true k = p
    go false k = k

-- A target that is no violation is a location.
pub is_location : (a l : ℕ) → (a < l) ⊎ (a ≡ 255) → eqb a 255 ≡ false → a < l
is_location a l p e = ⊎_elim (λ (h : a < l). h) (λ h. absurd (eqb-false _ _ e h)) p

module _ (on : ℕ → ℕ → ℕ) where
  -- After a tick there are as many clocks as before.
  pub advance_length : (mask : ℕ) (cs vs : List ℕ) → length vs ≡ length cs → length (advance on mask cs vs) ≡ length cs
  unfolding advance
  advance_length mask [] vs e = refl
  advance_length mask (c ∷ cs) [] e = e
  advance_length mask (c ∷ cs) (v ∷ vs) e = ap suc (advance_length (mask / 2) cs vs (omega arith))

  -- The first k clocks go on as if they were alone.
  pub advance_take : (mask k : ℕ) (cs vs : List ℕ) → take k (advance on mask cs vs) ≡ advance on mask (take k cs) (take k vs)
  unfolding advance
  advance_take mask zero cs vs = refl
  advance_take mask (suc k) [] vs = refl
  advance_take mask (suc k) (c ∷ cs) [] = refl
  advance_take mask (suc k) (c ∷ cs) (v ∷ vs) = ap (λ (us : List ℕ). cond (eqb (mask % 2) 1) 0 (on c v) ∷ us) (advance_take (mask / 2) k cs vs)

  module _ (p : Policy) where
    -- What holds at each location once the clocks have gone on holds of the next place.
    pub step_of : (P : Place → Type 0) → Sound p → (s : Place) →
        ((to mask : ℕ) → to < p.locations → P (record { location = to; clocks = advance on mask p.ceilings s.clocks })) →
        (e : Event) → Of P (step on p s e)
    unfolding step bind taken
    step_of P k s w e = go (decides p.rules (looked on p s) e) (decides_of k.rules (looked on p s) e)
      where
        at : (r : Rule) → Formed (length p.ceilings) p.locations r → (t : Bool) → eqb r.target 255 ≡ t →
            Of P (cond t none (some (record { location = r.target; clocks = advance on r.reset p.ceilings s.clocks })))
        at r f true d = tt
        at r f false d = w r.target r.reset (is_location r.target p.locations f.target d)

        go : (d : Option Rule) → Of (Formed (length p.ceilings) p.locations) d → Of P (bind d (taken on p s))
        go none f = tt
        go (some r) f = at r f (eqb r.target 255) refl

    -- What a step keeps, a stream keeps.
    pub steps_of : (P : Place → Type 0) → ((s : Place) → P s → (e : Event) → Of P (step on p s e)) →
        (s : Place) → P s → (w : Stream) → Of P (steps on p s w)
    unfolding steps bind
    steps_of P k s h [] = h
    steps_of P k s h (e ∷ es) = go (λ t i. steps_of P k t i es) (step on p s e) (k s h e)
      where
        go : ((t : Place) → P t → Of P (steps on p t es)) → (d : Option Place) → Of P d → Of P (bind d (λ t. steps on p t es))
        go ih none h = tt
        go ih (some t) h = ih t h

    -- A place in a sound policy is followed by one in it, or by a violation.
    pub step_in : Sound p → (s : Place) → In p s → (e : Event) → Of (In p) (step on p s e)
    step_in k s h =
        step_of (In p) k s (λ to mask l. record { location = l; clocks = advance_length mask p.ceilings s.clocks h.clocks })

    -- So it is at the end of a stream.
    pub steps_in : Sound p → (s : Place) → In p s → (w : Stream) → Of (In p) (steps on p s w)
    steps_in k = steps_of (In p) (step_in k)

    -- Two streams, one after the other, lead where the second leads from the end of the first.
    pub steps_append : (s : Place) (w v : Stream) → steps on p s (w ++ v) ≡ bind (steps on p s w) (λ t. steps on p t v)
    unfolding steps bind
    steps_append s [] v = refl
    steps_append s (e ∷ w) v = go (λ t. steps_append t w v) (step on p s e)
      where
        go : ((t : Place) → steps on p t (w ++ v) ≡ bind (steps on p t w) (λ u. steps on p u v)) → (d : Option Place) →
            bind d (λ t. steps on p t (w ++ v)) ≡ bind (bind d (λ t. steps on p t w)) (λ u. steps on p u v)
        go ih none = refl
        go ih (some t) = ih t

-- The start of a sound policy is in it.
pub start_in : (p : Policy) → Sound p → In p (start p)
start_in p k = record { location = k.start; clocks = length-replicate {A = ℕ} (length p.ceilings) 0 }

-- Clocks that stop are at their ceilings or below.
pub advance_stopped : (mask : ℕ) (cs vs : List ℕ) (i : ℕ) → get_or (advance stopped mask cs vs) i 0 ≤ get_or cs i 0
unfolding advance
advance_stopped mask [] vs i = omega arith
advance_stopped mask (c ∷ cs) [] i = omega arith
advance_stopped mask (c ∷ cs) (v ∷ vs) zero = go (eqb (mask % 2) 1)
  where
    go : (t : Bool) → cond t 0 (min (suc v) c) ≤ c
    go true = omega arith
    go false = omega arith
advance_stopped mask (c ∷ cs) (v ∷ vs) (suc i) = advance_stopped (mask / 2) cs vs i

mins_length : (cs vs : List ℕ) → length vs ≡ length cs → length (mins cs vs) ≡ length cs
unfolding mins
mins_length [] vs e = refl
mins_length (c ∷ cs) [] e = e
mins_length (c ∷ cs) (v ∷ vs) e = ap suc (mins_length cs vs (omega arith))

mins_below : (cs vs : List ℕ) (i : ℕ) → get_or (mins cs vs) i 0 ≤ get_or cs i 0
unfolding mins
mins_below [] vs i = omega arith
mins_below (c ∷ cs) [] i = omega arith
mins_below (c ∷ cs) (v ∷ vs) zero = omega arith
mins_below (c ∷ cs) (v ∷ vs) (suc i) = mins_below cs vs i

mins_same : (cs vs : List ℕ) → length vs ≡ length cs → ((i : ℕ) → get_or vs i 0 ≤ get_or cs i 0) → mins cs vs ≡ vs
unfolding mins
mins_same [] [] e h = refl
mins_same [] (v ∷ vs) e h = absurd (omega arith)
mins_same (c ∷ cs) [] e h = refl
mins_same (c ∷ cs) (v ∷ vs) e h = ap₂ {C = List ℕ} ◌∷◌ (omega (arith, h 0)) (mins_same cs vs (omega arith) (λ i. h (suc i)))

mins_twice : (cs vs : List ℕ) → mins cs (mins cs vs) ≡ mins cs vs
unfolding mins
mins_twice [] vs = refl
mins_twice (c ∷ cs) [] = refl
mins_twice (c ∷ cs) (v ∷ vs) = ap₂ {C = List ℕ} ◌∷◌ (omega arith) (mins_twice cs vs)

module _ (p : Policy) where
  -- Over clocks that stop, a place inside a sound policy is followed by one inside it, or by a violation.
  pub step_inside : Sound p → (s : Place) → Inside p s → (e : Event) → Of (Inside p) (step stopped p s e)
  step_inside k s h =
      step_of stopped p (Inside p) k s (λ to mask l.
      record {
        location = l;
        clocks = advance_length stopped mask p.ceilings s.clocks h.clocks;
        stopped = advance_stopped mask p.ceilings s.clocks;
      })

  -- A place in the policy, as the stopped clocks show it, is inside it.
  pub stop_inside : (s : Place) → In p s → Inside p (stop p s)
  stop_inside s h =
      record {
        location = h.location;
        clocks = mins_length p.ceilings s.clocks h.clocks;
        stopped = mins_below p.ceilings s.clocks;
      }

  -- The start of a sound policy is inside it.
  pub start_inside : Sound p → Inside p (start p)
  start_inside k = subst (Inside p) (start_stops p) (stop_inside (start p) (start_in p k))

  -- At a place inside the policy no clock is left to stop.
  pub stop_same : (s : Place) → Inside p s → stop p s ≡ s
  stop_same s h = ap (λ (z : List ℕ). record { location = s.location; clocks = z }) (mins_same p.ceilings s.clocks h.clocks h.stopped)

  -- To stop the clocks twice is to stop them once.
  pub stop_twice : (s : Place) → stop p (stop p s) ≡ stop p s
  stop_twice s = ap (λ (z : List ℕ). record { location = s.location; clocks = z }) (mins_twice p.ceilings s.clocks)

  -- Two streams that fit the signals do so one after the other.
  pub fits_append : {w v : Stream} → Fits p w → Fits p v → Fits p (w ++ v)
  fits_append fits_none k = k
  fits_append (fits_more h f) k = fits_more h (fits_append f k)

  -- Where two streams, one after the other, fit the signals, each does.
  pub fits_split : (w : Stream) {v : Stream} → Fits p (w ++ v) → Fits p w × Fits p v
  fits_split [] f = (fits_none, f)
  fits_split (e ∷ w) (fits_more h f) = let k = fits_split w f in (fits_more h k.0, k.1)

  -- What may follow a stream is what may leave the place that it leads to.
  module _ (s t : Place) (w : Stream) (e : steps unlimited p s w ≡ some t) (f : Fits p w) where
    -- After w a stream runs exactly if it runs from t.
    pub runs_append : (v : Stream) → Runs p s (w ++ v) ↔ Runs p t v
    unfolding Runs bind
    runs_append v = (λ r. ((fits_split w r.0).1, (r.1.0, sym k ∙ r.1.1)), λ r. (fits_append f r.0, (r.1.0, k ∙ r.1.1)))
      where
        k : steps unlimited p s (w ++ v) ≡ steps unlimited p t v
        k = steps_append unlimited p s w v ∙ ap (λ (d : Option Place). bind d (λ u. steps unlimited p u v)) e

    -- After w a stream rests exactly if it rests from t.
    pub rests_append : (v : Stream) → Rests p s (w ++ v) ↔ Rests p t v
    unfolding Rests bind
    rests_append v = (λ r. (r.0, sym k ∙ r.1, r.2), λ r. (r.0, k ∙ r.1, r.2))
      where
        k : steps unlimited p s (w ++ v) ≡ steps unlimited p t v
        k = steps_append unlimited p s w v ∙ ap (λ (d : Option Place). bind d (λ u. steps unlimited p u v)) e

    after_there : from p s after w narrows from p t
    after_there = record { permits = λ v. (runs_append v).0; rests = λ v. (rests_append v).0 }

    there_after : from p t narrows from p s after w
    there_after = record { permits = λ v. (runs_append v).1; rests = λ v. (rests_append v).1 }

    -- The stream w can go on for ever exactly if t is live.
    pub goes_on_live : GoesOn (from p s) w ↔ Live p t
    unfolding GoesOn
    goes_on_live = (goes_on (from p s after w) (from p t) after_there [], goes_on (from p t) (from p s after w) there_after [])

    -- It ends exactly if t is dead.
    pub ends_dead : Ends (from p s) w ↔ Dead p t
    unfolding Ends
    ends_dead = (ends (from p t) (from p s after w) there_after [], ends (from p s after w) (from p t) after_there [])

  -- What a permitted stream begins with is permitted.
  pub closed : (s : Place) → Closed (from p s)
  unfolding Runs
  closed s w v r =
      let b = (bind-eq-some_iff (steps unlimited p s w) (λ t. steps unlimited p t v)).0 (sym (steps_append unlimited p s w v) ∙ r.1.1) in
      ((fits_split w r.0).0, (b.0, b.1))

  -- Places that are shown alike are at the same location.
  shown_some : (d c : Option Place) → shown p d ≡ shown p c → (t : Place) → d ≡ some t → (u : Place) × (c ≡ some u) × (t.location ≡ u.location)
  unfolding shown
  shown_some none c k t r = absurd (none-ne-some t r)
  shown_some (some s) none k t r = absurd (none-ne-some (stop p s) (sym k))
  shown_some (some s) (some u) k t r =
      (u, refl, ap (λ (z : Place). z.location) (sym (some-injective s t r)) ∙ ap (λ (z : Place). z.location) (some-injective (stop p s) (stop p u) k))

  module _ (ok : LawfulRules p.ceilings p.rules) where
    -- From two places that the stopped clocks show alike the same streams run, and rest.
    module _ (s t : Place) (k : stop p s ≡ stop p t) where
      ends_alike : (w : Stream) (u : Place) → steps unlimited p s w ≡ some u → (v : Place) × (steps unlimited p t w ≡ some v) × (u.location ≡ v.location)
      ends_alike w u =
          shown_some (steps unlimited p s w) (steps unlimited p t w)
          (sym (steps_same p ok s w) ∙ ap (λ (z : Place). steps stopped p z w) k ∙ steps_same p ok t w) u

      -- What runs or rests from s does so from t.
      pub alike : from p s narrows from p t
      unfolding Runs Rests
      alike =
          record {
            permits = λ w r. let v = ends_alike w r.1.0 r.1.1 in (r.0, (v.0, v.1));
            rests = λ w r. let v = ends_alike w r.0 r.1 in (v.0, v.1, rw v.2 at r.2);
          }

    stop_alike : (s : Place) → (from p s narrows from p (stop p s)) × (from p (stop p s) narrows from p s)
    stop_alike s = (alike s (stop p s) (sym (stop_twice s)), alike (stop p s) s (stop_twice s))

    -- A place is live exactly if it is so as the stopped clocks show it.
    pub live_stop : (s : Place) → Live p s ↔ Live p (stop p s)
    live_stop s = let h = stop_alike s in (goes_on (from p s) (from p (stop p s)) h.0 [], goes_on (from p (stop p s)) (from p s) h.1 [])

    -- A place is dead exactly if it is so as the stopped clocks show it.
    pub dead_stop : (s : Place) → Dead p s ↔ Dead p (stop p s)
    dead_stop s = let h = stop_alike s in (ends (from p (stop p s)) (from p s) h.1 [], ends (from p s) (from p (stop p s)) h.0 [])
