-- What the layout of a checked file makes sure of: its counts are the policy's, and a location's own rules lie within the file.
-- In order: clocks that are not used; where a layout comes from; its counts and limits; the rules, and a location's own; states, places and their
-- numbers; one step.
use Rattle.std.specs.Prelude.{◌≡◌, Bool, ℕ, zero, suc, ◌+◌, ◌-◌, ◌*◌, ◌^◌, ◌≤◌, ◌<◌, eqb, ltb, length, get_or, take, replicate}
use Rattle.std.proofs.Math.Path.{refl, sym, ap}
use Rattle.std.proofs.Common.{◌∙◌, subst, add-zero, div-one, arith, length-append, take_at, get_or-take, get_or-append-add, ltb-true, ltb-false}
use Rattle.std.proofs.Math.Bool.{true, false, cond}
use mathlib.Core.List.{List}
use Rattle.std.specs.Prelude.{Some}
use Rattle.std.proofs.Math.Option.{Option, none, some}
use Rattle.std.proofs.Math.Nat.{mod-one, pow-le-pow_right}
use Rattle.std.proofs.Math.Seq.{append_snoc}
use Rattle.streams.specs.Stream.{Event}
use Rattle.policy.specs.Rules.{Policy, Place, input_values, output_values, stopped, advance, tested, looked, step}
use Rattle.policy.specs.File.{part, rule_size, rules_from, rules_of, ceilings_of, clocks_at, clock_count, rule_count, rules_start, policy_of}
use Rattle.policy.specs.Check.{refusal_of, refusal_under}
use Rattle.policy.specs.CheckLaws.{under_none}
use Rattle.policy.specs.Number.{four, states, number_from, location_from, clocks_from, number_of, place_of}
use Rattle.policy.specs.Numbered.{number_take, number_ceilings, location_ceilings, clocks_ceilings, clocks_length, number_of_below}
use Rattle.policy.specs.Sound.{WellFormed, Each, Inside}
use Rattle.policy.specs.Frame.{Framed, frame, inputs_length, outputs_length, pairs_length}
use Rattle.policy.specs.Checked.{checked_file, well_rising, well_sound, well_ceiling}
use Rattle.policy.specs.Stays.{Of, advance_take, step_inside}
use Rattle.policy.specs.Parts.{rules_part}
use Rattle.policy.specs.Own.{own, own_of, own_sources, own_ends, own_reads}
use Rattle.policy.specs.Layout.{layout_of, checked_under}
use Rattle.policy.specs.LayoutLaws.{under_says}
use Rattle.policy.specs.declared.Layout.{Layout}
use Rattle.policy.specs.Layout.{Checked}
use Rattle.policy.specs.declared.own.Own.{Own}
use Rattle.index.specs.Sections.{Sections, sections_filled, sections_rules}
use Rattle.choice.specs.Changed.{zeros}
use Rattle.stepping.specs.State.{place_in, state_of, is_marked, place}
use Rattle.stepping.specs.Tick.{arrives, reaches}
use Rattle.stepping.specs.Code.{event_xy, state_at, seen_by, step_from}
use Rattle.stepping.specs.Ready.{Laid, Standing, HereOf}
use Rattle.stepping.specs.declared.state.State.{State}
use Rattle.stepping.specs.declared.here.Here.{Here}

-- The number of a state, as the code works it out.
abbrev pub state_number : Layout → State → ℕ
state_number l s = number_from l.ceilings l.clocks s.location s.clocks

-- n is the number of a state, and m says whether that is marked.
pub record Numbered (reading : ℕ) (f marks : List ℕ) (n : ℕ) (m : Bool) : Type 0 where
  pub number : n < states (policy_of reading f)
  pub mark : is_marked marks n ≡ m

-- An unused clock, with the ceiling 0 and the value 0, leaves the number as it is.
number_unused : (cs vs : List ℕ) (k n location : ℕ) → ((i : ℕ) → k ≤ i → (get_or cs i 0 ≡ 0) × (get_or vs i 0 ≡ 0)) →
    number_from cs (k + n) location vs ≡ number_from cs k location vs
unfolding number_from
number_unused cs vs k zero location h = rw add-zero
number_unused cs vs k (suc n) location h =
    let e : k + suc n ≡ suc (k + n) = omega arith in
    let z = h (k + n) (omega arith) in
    rw (e, z.0, z.1) (omega (arith, number_unused cs vs k n location h))

-- Nor does it change the state with a number.
state_unused : (cs : List ℕ) (k n number : ℕ) → k + n ≤ 4 → ((i : ℕ) → k ≤ i → get_or cs i 0 ≡ 0) → state_at cs (k + n) number ≡ state_at cs k number
unfolding location_from clocks_from
state_unused cs k zero number l h = rw add-zero
state_unused cs k (suc n) number l h =
    let e : k + suc n ≡ suc (k + n) = omega arith in
    ap (λ (m : ℕ). state_at cs m number) e ∙ one (k + n) (omega arith) (h (k + n) (omega arith)) ∙ state_unused cs k n number (omega arith) h
  where
    one : (m : ℕ) → m < 4 → get_or cs m 0 ≡ 0 → state_at cs (suc m) number ≡ state_at cs m number
    one m u z =
        let e : 4 - m ≡ suc (4 - (m + 1)) = omega arith in
        rw (z, div-one, mod-one, length-append, clocks_length cs m number, e, append_snoc)

four_past : (vs : List ℕ) (i : ℕ) → length vs ≤ i → get_or (four vs) i 0 ≡ 0
four_past vs i h =
    let e : i ≡ length vs + (i - length vs) = omega arith in
    rw e (get_or-append-add vs (replicate (4 - length vs) 0) (i - length vs) 0 ∙ zeros (4 - length vs) (i - length vs))

-- For a file that passes the check, `layout_of` gives its layout.
pub laid_out : (reading : ℕ) (f : List ℕ) → refusal_of f ≡ 0 → Laid f (layout_of reading f)
unfolding policy_of
laid_out reading f p =
    record {
      passes = p;
      inputs = refl;
      outputs = refl;
      clocks = refl;
      locations = refl;
      rules = refl;
      start = refl;
      end = refl;
      ceilings = refl;
      states = rw pairs_length;
    }

-- What the check answers without a refusal is the layout, under the reading that was named.
pub laid_of : (reading : ℕ) (f : List ℕ) (r : Checked) → r ≡ checked_under reading f → r.refusal ≡ 0 → Laid f r.layout × (r.layout.reading ≡ reading)
laid_of reading f r e z =
    let n : refusal_under reading f ≡ 0 = sym (under_says reading f).0 ∙ sym (ap (λ (c : Checked). c.refusal) e) ∙ z in
    let l : r.layout ≡ layout_of reading f = ap (λ (c : Checked). c.layout) e ∙ (under_says reading f).1 n in
    (subst (Laid f) (sym l) (laid_out reading f ((under_none reading f).0 n).1), ap (λ (c : Layout). c.reading) l)

-- The state that a place of the policy is stands for that place.
pub place_in_state_of : (p : Policy) {t : Place} → Inside p t → place_in p (state_of t) ≡ t
place_in_state_of p {t} i =
    ap (λ (vs : List ℕ). record { location = t.location; clocks = vs }) (take_at t.clocks _ (length p.ceilings) i.clocks)

-- The location of a state in range is one of the layout's.
pub standing_location : {f : List ℕ} {l : Layout} {marks : List ℕ} {s : State} → Standing f l marks s → s.location < l.locations
unfolding policy_of
standing_location k = rw k.laid.locations k.inside.location

module _ {f : List ℕ} {l : Layout} (k : Laid f l) where
  framed : Framed f
  framed = frame f k.passes

  -- What an index is built and looked up by.
  pub laid_sections : Sections f l
  laid_sections = record { passes = k.passes; clocks = k.clocks; locations = k.locations; rules = k.rules; start = k.start; end = k.end }

  -- The policy is well formed.
  pub laid_well : WellFormed (policy_of l.reading f)
  laid_well = checked_file l.reading f k.passes

  -- At most 4 inputs, 4 outputs, 4 clocks and 256 rules, in a section that ends within the file.
  pub laid_limits : (l.inputs ≤ 4) × (l.outputs ≤ 4) × (l.clocks ≤ 4) × (l.rules ≤ 256) × (l.rules_start ≤ l.rules_end) × (l.rules_end ≤ length f)
  laid_limits = omega (arith, framed, k)

  -- The rules fill their section.
  pub laid_section : l.rules_start + l.rules * rule_size l.clocks ≡ l.rules_end
  laid_section = sections_filled laid_sections

  -- Of inputs there are as many values as the code counts, at most 16.
  pub laid_inputs : (2 ^ l.inputs ≡ input_values (policy_of l.reading f)) × (2 ^ l.inputs ≤ 16)
  unfolding policy_of
  laid_inputs = rw k.inputs (sym (ap (λ (n : ℕ). 2 ^ n) (inputs_length f framed)), pow-le-pow_right {n = 2} (omega arith) framed.inputs)

  -- Of outputs there are as many values as the code counts, at most 16.
  pub laid_outputs : (2 ^ l.outputs ≡ output_values (policy_of l.reading f)) × (2 ^ l.outputs ≤ 16)
  unfolding policy_of
  laid_outputs = rw k.outputs (sym (ap (λ (n : ℕ). 2 ^ n) (outputs_length f framed)), pow-le-pow_right {n = 2} (omega arith) framed.outputs)

  -- The layout has as many clocks as the policy has ceilings.
  pub laid_clocks : l.clocks ≡ length (policy_of l.reading f).ceilings
  unfolding policy_of
  laid_clocks = k.clocks ∙ sym (pairs_length f (clocks_at f + 1) (clock_count f))

  -- The ceilings of the clocks in use are those of the policy.
  pub laid_ceilings : take l.clocks l.ceilings ≡ (policy_of l.reading f).ceilings
  unfolding policy_of
  laid_ceilings = rw k.ceilings (take_at (ceilings_of f) _ l.clocks (sym laid_clocks))

  -- The layout has four ceilings: those of the clocks in use, then zeros.
  pub laid_four : l.ceilings ≡ four (take l.clocks l.ceilings)
  unfolding policy_of
  laid_four = k.ceilings ∙ sym (ap four laid_ceilings)

  -- The ceiling of an unused clock is 0.
  unused_ceiling : (i : ℕ) → l.clocks ≤ i → get_or l.ceilings i 0 ≡ 0
  unfolding policy_of
  unused_ceiling i g = rw k.ceilings (four_past (ceilings_of f) i (omega (arith, laid_clocks)))

  laid_ceiling : (i : ℕ) → i < l.clocks → get_or l.ceilings i 0 ≡ get_or (policy_of l.reading f).ceilings i 0
  laid_ceiling i g = sym (get_or-take l.clocks l.ceilings i 0 g) ∙ ap (λ (cs : List ℕ). get_or cs i 0) laid_ceilings

  -- There are at most 64 locations.
  pub laid_locations : l.locations ≤ 64
  laid_locations = omega (arith, k.locations, framed.locations)

  -- No ceiling of the layout is above 1,001.
  pub laid_most : (i : ℕ) → get_or l.ceilings i 0 ≤ 1001
  laid_most i = go (ltb i l.clocks) refl
    where
      go : (t : Bool) → ltb i l.clocks ≡ t → get_or l.ceilings i 0 ≤ 1001
      go true e =
          let h = ltb-true i l.clocks e in
          omega (arith, laid_ceiling i h, (well_ceiling (policy_of l.reading f) laid_well i (omega (arith, laid_clocks))).1)
      go false e = omega (arith, unused_ceiling i (ltb-false i l.clocks e))

  -- The rule section, as the part of the file between its ends, reads as the rules.
  pub laid_rules : rules_from l.clocks (part f l.rules_start (l.rules_end - l.rules_start)) 0 l.rules ≡ rules_of f
  laid_rules = sections_rules laid_sections

  -- So do the bytes from its start on.
  laid_from : rules_of f ≡ rules_from l.clocks f l.rules_start l.rules
  laid_from = rules_part f (clock_count f) (rules_start f) (rule_count f) ∙ rw (k.clocks, k.start, k.rules)

  module _ (a : ℕ) {o : Own} (e : o ≡ own_of l.clocks a (rules_of f)) where
    own_from : o ≡ own_of l.clocks a (rules_from l.clocks f l.rules_start l.rules)
    own_from = e ∙ ap (own_of l.clocks a) laid_from

    -- The bytes of the location's own rules lie within the file.
    pub own_fits : (l.rules_start + o.start + o.count * rule_size l.clocks ≤ length f) × (o.count ≤ 256)
    own_fits = omega (arith, own_ends l.clocks f l.rules_start l.rules a own_from, laid_section, laid_limits)

    -- And they read as the location's own rules.
    pub own_rules : rules_from l.clocks (part f (l.rules_start + o.start) (o.count * rule_size l.clocks)) 0 o.count ≡ own a (rules_of f)
    own_rules = own_reads l.clocks f l.rules_start l.rules a own_from ∙ ap (own a) (sym laid_from)

    -- All of them are the location's.
    pub own_located : Each (λ r. r.source ≡ a) (rules_from l.clocks (part f (l.rules_start + o.start) (o.count * rule_size l.clocks)) 0 o.count)
    unfolding policy_of
    own_located = rw own_rules (own_sources a (well_rising (policy_of l.reading f) laid_well))

  -- The state that bounds see, as the code works it out, stands for the place looked at.
  pub laid_seen : (s : State) → place l.clocks (seen_by l s) ≡ looked stopped (policy_of l.reading f) (place l.clocks s)
  unfolding tested policy_of
  laid_seen s = go (eqb l.reading 2)
    where
      go : (t : Bool) →
          place l.clocks (cond t (record { location = s.location; clocks = advance stopped 0 l.ceilings s.clocks }) s)
          ≡ record { location = s.location; clocks = cond t (advance stopped 0 (ceilings_of f) (take l.clocks s.clocks)) (take l.clocks s.clocks) }
      go true =
          ap (λ (vs : List ℕ). record { location = s.location; clocks = vs })
          (advance_take stopped 0 l.clocks l.ceilings s.clocks ∙ ap (λ (cs : List ℕ). advance stopped 0 cs (take l.clocks s.clocks)) laid_ceilings)
      go false = refl

  -- The state seen that is kept with a state's own rules stands for the place looked at.
  pub here_seen : {h : Here} → HereOf f l h → place l.clocks h.seen ≡ looked stopped (policy_of l.reading f) (place l.clocks h.state)
  here_seen {h} o = ap (place l.clocks) o.seen ∙ laid_seen h.state

  -- The place that a state is, by the layout, is the one by the policy.
  pub laid_place : (s : State) → place l.clocks s ≡ place_in (policy_of l.reading f) s
  laid_place s = rw laid_clocks

  -- The number that the code works out for a state is that of its place.
  pub laid_number : (s : State) → state_number l s ≡ number_of (policy_of l.reading f) (place l.clocks s)
  laid_number s =
      rw (← number_take l.ceilings l.clocks s.location s.clocks, ← laid_clocks)
      (number_ceilings l.ceilings l.clocks s.location (take l.clocks s.clocks) (policy_of l.reading f).ceilings laid_ceiling)

  -- The state that a place is stands for that place by the layout too.
  pub place_back : {t : Place} → Inside (policy_of l.reading f) t → place l.clocks (state_of t) ≡ t
  place_back {t} h = laid_place (state_of t) ∙ place_in_state_of (policy_of l.reading f) h

  -- The state that a place is has the number of that place.
  pub next_number : {t : Place} → Inside (policy_of l.reading f) t → state_number l (state_of t) ≡ number_of (policy_of l.reading f) t
  next_number {t} h = laid_number (state_of t) ∙ ap (number_of (policy_of l.reading f)) (place_back h)

  -- It has that number also if all four clocks are taken in.
  pub four_number : {t : Place} → Inside (policy_of l.reading f) t → number_from l.ceilings 4 t.location (four t.clocks) ≡ number_of (policy_of l.reading f) t
  unfolding policy_of
  four_number {t} h =
      let e : 4 ≡ l.clocks + (4 - l.clocks) = omega (arith, laid_limits) in
      ap (λ (n : ℕ). number_from l.ceilings n t.location (four t.clocks)) e
      ∙ number_unused l.ceilings (four t.clocks) l.clocks (4 - l.clocks) t.location
      (λ i g. (unused_ceiling i g, four_past t.clocks i (omega (arith, laid_clocks, h.clocks))))
      ∙ next_number h

  -- The state with a number is the same if all four clocks are taken in.
  pub numbered_four : (n : ℕ) → state_at l.ceilings 4 n ≡ state_at l.ceilings l.clocks n
  numbered_four n =
      let e : 4 ≡ l.clocks + (4 - l.clocks) = omega (arith, laid_limits) in
      ap (λ (c : ℕ). state_at l.ceilings c n) e ∙ state_unused l.ceilings l.clocks (4 - l.clocks) n (omega (arith, laid_limits)) unused_ceiling

  -- The state with a number stands for the place with that number.
  pub numbered_place : (n : ℕ) → place l.clocks (state_at l.ceilings l.clocks n) ≡ place_of (policy_of l.reading f) n
  numbered_place n =
      rw (
        take_at (clocks_from l.ceilings l.clocks n) _ l.clocks (clocks_length l.ceilings l.clocks n),
        location_ceilings l.ceilings l.clocks n (policy_of l.reading f).ceilings laid_ceiling,
        clocks_ceilings l.ceilings l.clocks n (policy_of l.reading f).ceilings laid_ceiling,
        laid_clocks,
      )

  -- A step from a place of the policy leads to one, or to a violation.
  pub next_inside : (s : State) (e : Event) → Inside (policy_of l.reading f) (place l.clocks s) →
      Of (Inside (policy_of l.reading f)) (step stopped (policy_of l.reading f) (place l.clocks s) e)
  next_inside s e h = step_inside (policy_of l.reading f) (well_sound (policy_of l.reading f) laid_well) (place l.clocks s) h e

  -- By a step that has a next state: whether the event reaches a marked place is said by the mark of that state's number.
  module _ (marks : List ℕ) (s : State) (x y : ℕ) {next : State}
      (e : Some next ≡ step_from (step stopped (policy_of l.reading f) (place l.clocks s) (event_xy x y))) where
    -- The next state has a number below that of the states, and its mark says whether the event reaches a marked place.
    pub reaches_next : Inside (policy_of l.reading f) (place l.clocks s) →
        Numbered l.reading f marks (number_from l.ceilings 4 next.location next.clocks) (reaches (policy_of l.reading f) marks (place l.clocks s) x y)
    unfolding reaches
    reaches_next h = go (step stopped (policy_of l.reading f) (place l.clocks s) (event_xy x y)) e (next_inside s (event_xy x y) h)
      where
        go : (d : Option Place) → Some next ≡ step_from d → Of (Inside (policy_of l.reading f)) d →
            Numbered l.reading f marks (number_from l.ceilings 4 next.location next.clocks) (arrives (policy_of l.reading f) marks d)
        go none q i = absurd (cc)
        go (some t) q i =
            let w : next ≡ state_of t = cc in
            let n = ap (λ (z : State). number_from l.ceilings 4 z.location z.clocks) w ∙ four_number i in
            record { number = rw n (number_of_below (policy_of l.reading f) i); mark = ap (is_marked marks) n }
