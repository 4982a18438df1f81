-- Each stream leads to the same place in the cleaned policy, at its new number. For any flags that are meant so.
-- In order: the rule that decides, by its number, before and after; rules that are used; one event; a stream; events that fit; the places that
-- permitted streams lead to.
use Rattle.std.specs.Prelude.{◌≡◌, Bool, cond, ◌&&◌, ◌⊎◌, length}
use Rattle.std.proofs.Math.Path.{refl, ap}
use Rattle.std.proofs.Common.{sym, ◌∙◌, inl, inr, arith}
use Rattle.std.proofs.Math.Bool.{true, false, and-eq-true_iff}
use Rattle.std.proofs.lemmas.Bool.{false≢true}
use mathlib.Core.List.{List, [], ◌∷◌, map}
use Rattle.std.proofs.Math.Logic.{by_cases}
use Rattle.std.proofs.Math.Option
use Rattle.std.proofs.Math.Option.{Option, none, some, bind, map-eq-some_iff, some-injective, none-ne-some}
use Prim.Native.Nat.{ℕ, zero, suc, ◌<◌}
use Rattle.std.proofs.Math.Decide.{dec_lt}
use Rattle.std.proofs.Math.Dec.{eqb}
use Rattle.std.specs.Int.Bits.{bit_and}
use Rattle.std.proofs.Math.ListN.{get_or-eq_default}
use borrow.Author.Tests.{eqb-true, eqb-false, eq-eqb, ne_eqb}
use Rattle.streams.specs.Stream.{Event, Stream}
use Rattle.policy.specs.Rules.{Rule, Policy, Place, start, hold, fires, decides, unlimited, advance, tested, looked, taken, step, steps, FitsOne, Fits, fits_none, fits_more}
use Rattle.policy.specs.Reached.{After, Reached, reached_start, reached_more}
use Rattle.stepping.specs.Code.{decider}
use Rattle.planning.specs.Deciding.{first_decides, later_decides}
use Rattle.usage.specs.Sift.{flag, nth, sift, rank}
use Rattle.cleaning.specs.SiftLaws.{rank_le, rank_same, nth_sift, nth_map}
use Rattle.usage.specs.Clean.{Used, Entered, Meant, renamed, cleaned, moved}

-- A flag that is set is one of the list.
pub flag_below : (L : List Bool) (i : ℕ) → flag L i ≡ true → i < length L
flag_below L i h = by_cases (dec_lt i (length L)) (λ l. l) (λ g. absurd (false≢true (sym (get_or-eq_default L false {n = i} (omega arith)) ∙ h)))

-- The deciding rule by its number.
decides_nth : (rs : List Rule) (s : Place) (e : Event) → decides rs s e ≡ bind (decider rs s e) (nth rs)
unfolding decides decider bind
decides_nth [] s e = refl
decides_nth (r ∷ rs) s e = go (fires r s e) (decider rs s e) (decides_nth rs s e)
  where
    go : (b : Bool) (d : Option ℕ) → decides rs s e ≡ bind d (nth rs) →
        cond b (some r) (decides rs s e) ≡ bind (cond b (some 0) (Option.map suc d)) (nth (r ∷ rs))
    go true d h = refl
    go false none h = h
    go false (some i) h = h

module _ (L : List Bool) where
  -- A rule of a location that is kept fires at a place of such a location as before.
  fires_renamed :
      (r : Rule) (s : Place) (e : Event) → flag L r.source ≡ true → flag L s.location ≡ true → fires (renamed L r) (moved L s) e ≡ fires r s e
  unfolding fires
  fires_renamed r s e p q =
      ap (λ (b : Bool). b && eqb (bit_and e.x r.in_care) r.in_value && eqb (bit_and e.y r.out_care) r.out_value && hold r.bounds s.clocks)
      (go (eqb r.source s.location) refl)
    where
      go : (b : Bool) → eqb r.source s.location ≡ b → eqb (rank L r.source) (rank L s.location) ≡ b
      go true h = eq-eqb _ _ (ap (rank L) (eqb-true r.source s.location h))
      go false h = ne_eqb _ _ (λ k. eqb-false r.source s.location h (rank_same L r.source s.location p q k))

  module _ (s : Place) (e : Event) (here : flag L s.location ≡ true) where
    -- The rule that decides is kept, and so is its source: it decides under its new number.
    decider_sift :
        (U : List Bool) (rs : List Rule) → ((i : ℕ) → decider rs s e ≡ some i → flag U i ≡ true) →
        ((i : ℕ) (r : Rule) → flag U i ≡ true → nth rs i ≡ some r → flag L r.source ≡ true) →
        decider (map (renamed L) (sift U rs)) (moved L s) e ≡ Option.map (rank U) (decider rs s e)
    unfolding decider
    decider_sift [] [] k f = refl
    decider_sift [] (r ∷ rs) k f = go (decider (r ∷ rs) s e) k
      where
        go : (d : Option ℕ) → ((i : ℕ) → d ≡ some i → flag [] i ≡ true) → none ≡ Option.map (rank []) d
        go none h = refl
        go (some i) h = absurd (false≢true (h i refl))
    decider_sift (b ∷ U) [] k f = refl
    decider_sift (true ∷ U) (r ∷ rs) k f = go (λ h. decider_sift U rs h (λ i. f (suc i))) (fires r s e) refl
      where
        new : Option ℕ
        new = decider (map (renamed L) (sift U rs)) (moved L s) e

        shift : (d : Option ℕ) → Option.map suc (Option.map (rank U) d) ≡ Option.map (rank (true ∷ U)) (Option.map suc d)
        shift none = refl
        shift (some i) = refl

        go : (((i : ℕ) → decider rs s e ≡ some i → flag U i ≡ true) → new ≡ Option.map (rank U) (decider rs s e)) → (b : Bool) → fires r s e ≡ b →
            cond (fires (renamed L r) (moved L s) e) (some 0) (Option.map suc new)
            ≡ Option.map (rank (true ∷ U)) (cond (fires r s e) (some 0) (Option.map suc (decider rs s e)))
        go ih true q = rw (fires_renamed r s e (f 0 r refl refl) here, q)
        go ih false q =
            rw (fires_renamed r s e (f 0 r refl refl) here, q)
            (ap (Option.map suc) (ih (λ i h. k (suc i) (rw q (ap (Option.map suc) h)))) ∙ shift (decider rs s e))
    decider_sift (false ∷ U) (r ∷ rs) k f = go (λ h. decider_sift U rs h (λ i. f (suc i))) (fires r s e) refl
      where
        new : Option ℕ
        new = decider (map (renamed L) (sift U rs)) (moved L s) e

        shift : (d : Option ℕ) → Option.map (rank U) d ≡ Option.map (rank (false ∷ U)) (Option.map suc d)
        shift none = refl
        shift (some i) = refl

        go : (((i : ℕ) → decider rs s e ≡ some i → flag U i ≡ true) → new ≡ Option.map (rank U) (decider rs s e)) → (b : Bool) → fires r s e ≡ b →
            new ≡ Option.map (rank (false ∷ U)) (cond (fires r s e) (some 0) (Option.map suc (decider rs s e)))
        go ih true q = absurd (false≢true (k 0 (rw q refl)))
        go ih false q = rw q (ih (λ i h. k (suc i) (rw q (ap (Option.map suc) h))) ∙ shift (decider rs s e))

-- The deciding rule fires, and so its source is the location.
decider_fires : (rs : List Rule) (s : Place) (e : Event) (i : ℕ) (r : Rule) → decider rs s e ≡ some i → nth rs i ≡ some r → fires r s e ≡ true
unfolding decider
decider_fires [] s e i r d h = absurd (none-ne-some i d)
decider_fires (a ∷ rs) s e zero r d h = ap (λ (x : Rule). fires x s e) (sym (some-injective a r h)) ∙ first_decides (fires a s e) (decider rs s e) d
decider_fires (a ∷ rs) s e (suc i) r d h = decider_fires rs s e i r (later_decides (fires a s e) (decider rs s e) i d) h

fires_source : (r : Rule) (s : Place) (e : Event) → fires r s e ≡ true → r.source ≡ s.location
unfolding fires
fires_source r s e h =
    eqb-true r.source s.location ((and-eq-true_iff here ins).0 ((and-eq-true_iff (here && ins) outs).0 ((and-eq-true_iff (here && ins && outs) (hold r.bounds s.clocks)).0 h).0).0).0
  where
    here : Bool
    here = eqb r.source s.location

    ins : Bool
    ins = eqb (bit_and e.x r.in_care) r.in_value

    outs : Bool
    outs = eqb (bit_and e.y r.out_care) r.out_value

-- A rule that is used is of a location that is entered, and leads to such a one or to the violation.
pub used_rule : (p : Policy) (i : ℕ) (r : Rule) → Used p i → nth p.rules i ≡ some r → Entered p r.source × ((r.target ≡ 255) ⊎ Entered p r.target)
unfolding step taken bind
used_rule p i r u h = (
  record {
    place = u.place;
    reached = u.reached;
    here = sym (fires_source r seen u.event (decider_fires p.rules seen u.event i r u.decides h));
  },
  go (eqb r.target 255) refl,
)
  where
    seen : Place
    seen = looked unlimited p u.place

    there : Place
    there = record { location = r.target; clocks = advance unlimited r.reset p.ceilings u.place.clocks }

    decided : decides p.rules seen u.event ≡ some r
    decided = decides_nth p.rules seen u.event ∙ ap (λ (o : Option ℕ). bind o (nth p.rules)) u.decides ∙ h

    go : (b : Bool) → eqb r.target 255 ≡ b → (r.target ≡ 255) ⊎ Entered p r.target
    go true q = inl (eqb-true r.target 255 q)
    go false q =
        let e : step unlimited p u.place u.event ≡ some there = ap (λ (o : Option Rule). bind o (taken unlimited p u.place)) decided ∙ rw q refl in
        inr (record { place = there; reached = reached_more p u.event u.reached u.fits e; here = refl })

-- The cleaned policy is read as the old one, and has its clocks: bounds are tested against the same values.
looked_moved : (p : Policy) (L U : List Bool) (s : Place) → looked unlimited (cleaned p L U) (moved L s) ≡ moved L (looked unlimited p s)
unfolding tested
looked_moved p L U s = refl

module _ {p : Policy} {L U : List Bool} (meant : Meant p L U) where
  -- The location of a reached place is kept.
  pub entered_here : {s : Place} → Reached p s → flag L s.location ≡ true
  entered_here {s} r = (meant.entered s.location).1 (record { place = s; reached = r; here = refl })

  -- A rule that is kept is one of a location that is kept.
  pub used_source : (i : ℕ) (r : Rule) → flag U i ≡ true → nth p.rules i ≡ some r → flag L r.source ≡ true
  used_source i r h q = (meant.entered r.source).1 (used_rule p i r ((meant.used i).0 h) q).0

  module _ (s : Place) (e : Event) (r : Reached p s) (f : FitsOne p e) where
    used_here : (i : ℕ) → decider p.rules (looked unlimited p s) e ≡ some i → flag U i ≡ true
    used_here i h = (meant.used i).1 (record { place = s; event = e; reached = r; fits = f; decides = h })

    -- At a reached place the same rule decides in the cleaned policy, under its new number.
    pub decider_cleaned :
        decider (cleaned p L U).rules (looked unlimited (cleaned p L U) (moved L s)) e ≡ Option.map (rank U) (decider p.rules (looked unlimited p s) e)
    decider_cleaned =
        ap (λ (z : Place). decider (cleaned p L U).rules z e) (looked_moved p L U s)
        ∙ decider_sift L (looked unlimited p s) e (entered_here r) U p.rules used_here used_source

    decides_cleaned :
        decides (cleaned p L U).rules (looked unlimited (cleaned p L U) (moved L s)) e
        ≡ Option.map (renamed L) (decides p.rules (looked unlimited p s) e)
    unfolding bind
    decides_cleaned =
        decides_nth (cleaned p L U).rules (looked unlimited (cleaned p L U) (moved L s)) e
        ∙ ap (λ (d : Option ℕ). bind d (nth (cleaned p L U).rules)) decider_cleaned
        ∙ go (decider p.rules (looked unlimited p s) e) used_here ∙ ap (Option.map (renamed L)) (sym (decides_nth p.rules (looked unlimited p s) e))
      where
        go : (d : Option ℕ) → ((i : ℕ) → d ≡ some i → flag U i ≡ true) →
            bind (Option.map (rank U) d) (nth (cleaned p L U).rules) ≡ Option.map (renamed L) (bind d (nth p.rules))
        go none h = refl
        go (some i) h = nth_map (renamed L) (sift U p.rules) (rank U i) ∙ ap (Option.map (renamed L)) (nth_sift U p.rules i (h i refl))

    -- The target is a location that is kept, so that its new number is not 255.
    target_below : (t : Place) → step unlimited p s e ≡ some t → rank L t.location < 255
    target_below t h = omega (arith, rank_le L t.location, flag_below L t.location (entered_here (reached_more p e r f h)), meant.few)

    -- From a reached place an event leads to the same place at its new number, or to a violation in both.
    pub step_cleaned : step unlimited (cleaned p L U) (moved L s) e ≡ Option.map (moved L) (step unlimited p s e)
    unfolding step bind taken
    step_cleaned =
        ap (λ (d : Option Rule). bind d (taken unlimited (cleaned p L U) (moved L s))) decides_cleaned
        ∙ go (decides p.rules (looked unlimited p s) e) target_below
      where
        go : (d : Option Rule) → ((t : Place) → bind d (taken unlimited p s) ≡ some t → rank L t.location < 255) →
            bind (Option.map (renamed L) d) (taken unlimited (cleaned p L U) (moved L s)) ≡ Option.map (moved L) (bind d (taken unlimited p s))
        go none h = refl
        go (some a) h = by_target (eqb a.target 255) refl
          where
            by_target : (b : Bool) → eqb a.target 255 ≡ b →
                taken unlimited (cleaned p L U) (moved L s) (renamed L a) ≡ Option.map (moved L) (taken unlimited p s a)
            by_target true q = rw q
            by_target false q =
                let t : Place = record { location = a.target; clocks = advance unlimited a.reset p.ceilings s.clocks } in
                let l : rank L a.target < 255 = h t (rw q refl) in
                let n : eqb (rank L a.target) 255 ≡ false = ne_eqb (rank L a.target) 255 (λ z. omega arith) in
                rw (q, n)

  -- From a reached place a stream leads to the same place at its new number, or to a violation in both.
  pub steps_cleaned :
      (w : Stream) (s : Place) → Reached p s → Fits p w →
      steps unlimited (cleaned p L U) (moved L s) w ≡ Option.map (moved L) (steps unlimited p s w)
  unfolding steps bind
  steps_cleaned [] s r fits_none = refl
  steps_cleaned (e ∷ w) s r (fits_more f g) =
      ap (λ (o : Option Place). bind o (λ t. steps unlimited (cleaned p L U) t w)) (step_cleaned s e r f)
      ∙ go (step unlimited p s e) (λ t h. steps_cleaned w t (reached_more p e r f h) g)
    where
      go : (o : Option Place) →
          ((t : Place) → o ≡ some t → steps unlimited (cleaned p L U) (moved L t) w ≡ Option.map (moved L) (steps unlimited p t w)) →
          bind (Option.map (moved L) o) (λ t. steps unlimited (cleaned p L U) t w) ≡ Option.map (moved L) (bind o (λ t. steps unlimited p t w))
      go none h = refl
      go (some t) h = h t refl

  -- From the start a stream leads to the same place at its new number, or to a violation in both.
  pub from_start : (w : Stream) → Fits p w →
      steps unlimited (cleaned p L U) (start (cleaned p L U)) w ≡ Option.map (moved L) (steps unlimited p (start p) w)
  from_start w f = steps_cleaned w (start p) (reached_start p) f

-- Events fit by the numbers of signals alone.
pub fits_cleaned : {p : Policy} (L U : List Bool) {w : Stream} → Fits p w → Fits (cleaned p L U) w
fits_cleaned L U fits_none = fits_none
fits_cleaned L U (fits_more f g) = fits_more (record { x = f.x; y = f.y }) (fits_cleaned L U g)

-- A stream that fits the cleaned policy fits the old one.
pub cleaned_fits : (p : Policy) (L U : List Bool) {w : Stream} → Fits (cleaned p L U) w → Fits p w
cleaned_fits p L U fits_none = fits_none
cleaned_fits p L U (fits_more f g) = fits_more (record { x = f.x; y = f.y }) (cleaned_fits p L U g)

module _ {p : Policy} {L U : List Bool} (meant : Meant p L U) where
  -- Each permitted stream leads to the same place, at its new number, and no other is permitted.
  pub after_cleaned : (w : Stream) (s : Place) → After p w s → After (cleaned p L U) w (moved L s)
  after_cleaned w s a = (fits_cleaned L U a.0, from_start meant w a.0 ∙ ap (Option.map (moved L)) a.1)

  -- A place that a stream leads to in the cleaned policy is one that it leads to in the old one, renumbered.
  pub cleaned_after : (w : Stream) (t : Place) → After (cleaned p L U) w t → (s : Place) × After p w s × (moved L s ≡ t)
  cleaned_after w t a =
      let f = cleaned_fits p L U a.0 in
      let h = (map-eq-some_iff (moved L) (steps unlimited p (start p) w)).0 (sym (from_start meant w f) ∙ a.1) in
      (h.0, (f, h.1), h.2)

  -- A reached place is reached in the cleaned policy, at its new number.
  pub reached_cleaned : {s : Place} → Reached p s → Reached (cleaned p L U) (moved L s)
  reached_cleaned {s} r = (r.0, after_cleaned r.0 s r.1)
