-- What the proof of the check cites: the refusal of a file section by section, and that what the code has read is what the file says. Assumes nothing.
use mathlib.Core.Path.{◌≡◌, refl, sym, ◌∙◌}
use mathlib.Core.Bool.{true, false, ◌||◌}
use mathlib.Core.List.{List}
use Prim.Native.Nat.{ℕ, ◌+◌, ◌*◌, ◌≤◌, ◌<◌}
use native.Mathlib.Omega.{arith}
use lib.Dec.{leb, eqb}
use lib.ListN.{length, get_or, take}
use borrow.Author.Tests.{le-leb, lt-leb}
use Rattle.streams.specs.Answer.{◌or_else◌, unless}
use Rattle.streams.specs.AnswerLaws.{next_refused}
use Rattle.std.specs.Prelude.{Result, Ok, Err}
use Rattle.std.specs.Result.{IsErrAnd}
use Rattle.refusals.specs.Refused.{number_of}
use Rattle.refusals.specs.Laws.{number_above, refused_first, handed_on}
use Rattle.refusals.specs.declared.Refusal.{Refusal}
use Rattle.policy.specs.File.{pairs_from, rule_size, input_count, outputs_at, output_count, clocks_at, clock_count, locations_at, location_count}
use Rattle.policy.specs.File.{rules_at, rule_count, rules_start, rules_end, ceilings_of}
use Rattle.policy.specs.Check.{inputs_refusal, outputs_refusal, clocks_refusal, locations_refusal, rules_section_refusal, refusal_of, reading_refusal, refusal_under}
use Rattle.policy.specs.Number.{four, states_of}
use Rattle.policy.specs.Frame.{pairs_length}
use Rattle.policy.specs.Layout.{checked_said, checked_under, layout_of}
use Rattle.policy.specs.LayoutLaws.{ShapeOf, under_passed, under_refused}
use Rattle.policy.specs.declared.Layout.{Layout}
use Rattle.policy.specs.declared.rules.Shape.{Shape}
use Rattle.policy.proofs.Laws.{inputs_fit, outputs_fit, clocks_fit}
use Rattle.policy.proofs.RuleLaws.{ceilings_read}

module _ (f : List ℕ) where
  abbrev pub states_in : ℕ
  states_in = states_of (ceilings_of f) (clock_count f) (location_count f)

  -- What is left of the refusal after each section that is not refused.
  abbrev pub after_end : ℕ
  after_end = unless (leb states_in 65536) 9

  abbrev pub after_rules : ℕ
  after_rules = unless (leb (length f) (rules_end f)) 8 or_else after_end

  abbrev pub after_locations : ℕ
  after_locations = rules_section_refusal f or_else after_rules

  abbrev pub after_clocks : ℕ
  after_clocks = locations_refusal f or_else after_locations

  abbrev pub after_outputs : ℕ
  after_outputs = clocks_refusal f or_else after_clocks

  abbrev pub after_inputs : ℕ
  after_inputs = outputs_refusal f or_else after_outputs

  pub from_inputs : refusal_of f ≡ (inputs_refusal f or_else after_inputs)
  unfolding refusal_of
  from_inputs = refl

  pub ends_early : {n : ℕ} → n < length f → n ≡ rules_end f → after_rules ≡ 8
  ends_early h e = rw (lt-leb (length f) (rules_end f) (omega arith))

  pub ends_late : {n : ℕ} → length f ≤ n → n ≡ rules_end f → after_rules ≡ after_end
  ends_late h e = rw (le-leb (length f) (rules_end f) (omega arith))

  pub too_many : {n : ℕ} → 65536 < n → n ≡ states_in → after_end ≡ 9
  too_many h e = rw (lt-leb states_in 65536 (omega arith))

  pub not_too_many : {n : ℕ} → n ≤ 65536 → n ≡ states_in → after_end ≡ 0
  not_too_many h e = rw (le-leb states_in 65536 (omega arith))

  -- What is left of the refusal once a section passes.
  pub past_inputs : 0 ≡ inputs_refusal f → refusal_of f ≡ after_inputs
  past_inputs inputs = from_inputs ∙ next_refused _ _ (sym inputs)

  pub past_outputs : 0 ≡ inputs_refusal f → 0 ≡ outputs_refusal f → refusal_of f ≡ after_outputs
  past_outputs inputs outputs = past_inputs inputs ∙ next_refused _ _ (sym outputs)

  pub past_clocks : 0 ≡ inputs_refusal f → 0 ≡ outputs_refusal f → 0 ≡ clocks_refusal f → refusal_of f ≡ after_clocks
  past_clocks inputs outputs clocks = past_outputs inputs outputs ∙ next_refused _ _ (sym clocks)

  pub past_locations : 0 ≡ inputs_refusal f → 0 ≡ outputs_refusal f → 0 ≡ clocks_refusal f → 0 ≡ locations_refusal f → refusal_of f ≡ after_locations
  past_locations inputs outputs clocks locations = past_clocks inputs outputs clocks ∙ next_refused _ _ (sym locations)

  pub past_rules : 0 ≡ inputs_refusal f → 0 ≡ outputs_refusal f → 0 ≡ clocks_refusal f → 0 ≡ locations_refusal f → 0 ≡ rules_section_refusal f →
      refusal_of f ≡ after_rules
  past_rules inputs outputs clocks locations rules = past_locations inputs outputs clocks locations ∙ next_refused _ _ (sym rules)

-- With one of the two readings the refusal is the file's; with any other number it is 22.
module _ (reading : ℕ) (f : List ℕ) where
  pub not_named : false ≡ (eqb reading 1 || eqb reading 2) → checked_said (Err Refusal.BadReading) ≡ checked_under reading f
  unfolding checked_under refusal_under reading_refusal
  not_named e = rw (← e)

  module _ (named : true ≡ (eqb reading 1 || eqb reading 2)) where
    read : refusal_under reading f ≡ refusal_of f
    unfolding refusal_under reading_refusal
    read = rw (← named)

    -- The file has this refusal.
    pub refused_by : (e : Refusal) → refusal_of f ≡ number_of e → checked_said (Err e) ≡ checked_under reading f
    refused_by e g =
        let h : 0 < number_of e = number_above e in
        let n : refusal_under reading f ≡ number_of e = read ∙ g in
        sym (rw n at (under_refused reading f (omega arith)))

    -- A section has it, the first of those that are left.
    pub handed_here : (r : Result Layout Refusal) (e : Refusal) (a b : ℕ) → refusal_of f ≡ (a or_else b) → IsErrAnd r (λ d. d ≡ e) → number_of e ≡ a →
        checked_said r ≡ checked_under reading f
    handed_here r e a b left h g =
        let first : refusal_of f ≡ number_of e = left ∙ rw (← g) (refused_first e b) in
        rw (handed_on r e h) (refused_by e first)

    -- There is none.
    pub passed_by : {l : Layout} → refusal_of f ≡ 0 → l ≡ layout_of reading f → checked_said (Ok l) ≡ checked_under reading f
    passed_by e g = rw g (sym (under_passed reading f (read ∙ e)))

-- Where the sections stand, by the counts that the code has.
module _ (f : List ℕ) {i : ℕ} (inputs : i ≡ input_count f) where
  pub outputs-at : 1 + i ≡ outputs_at f
  unfolding outputs_at
  outputs-at = rw inputs

  module _ {o : ℕ} (outputs : o ≡ output_count f) where
    pub clocks-at : 1 + i + 1 + o ≡ clocks_at f
    unfolding clocks_at
    clocks-at = rw (outputs, ← outputs-at)

    module _ {k : ℕ} (clocks : k ≡ clock_count f) where
      pub locations-at : 1 + i + 1 + o + 1 + k * 2 ≡ locations_at f
      unfolding locations_at
      locations-at = rw (clocks, ← clocks-at)

      pub shape_read : {l : ℕ} {cs : List ℕ} → l ≡ location_count f → cs ≡ four (pairs_from f (1 + i + 1 + o + 1) k) →
          0 ≡ inputs_refusal f → 0 ≡ outputs_refusal f → 0 ≡ clocks_refusal f →
          ShapeOf f (record { inputs = i; outputs = o; clocks = k; locations = l; ceilings = cs })
      shape_read locations ceilings a b c =
          record {
            shaped =
                record {
                  inputs = rw inputs (inputs_fit f (sym a)).0;
                  outputs = rw outputs (outputs_fit f (sym b));
                  clocks = rw clocks (clocks_fit f (sym c)).0;
                };
            inputs = inputs;
            outputs = outputs;
            clocks = clocks;
            locations = locations;
            ceilings = cc (clocks-at);
          }

-- What follows once the sections before the rules are read. The count of the rules stands after them.
abbrev pub count_at : Shape → ℕ
count_at s = 1 + s.inputs + 1 + s.outputs + 1 + s.clocks * 2 + 1 + s.locations

module _ (f : List ℕ) (s : Shape) (h : ShapeOf f s) where
  pub ceilings_small : 0 ≡ clocks_refusal f →
      let cs = take s.clocks s.ceilings in
      (length cs ≤ 4) × ((i : ℕ) → i < length cs → get_or cs i 0 ≤ 1001)
  ceilings_small e = rw (ceilings_read f s h, pairs_length f (clocks_at f + 1) (clock_count f)) (clocks_fit f (sym e))

  pub states_read : states_of (take s.clocks s.ceilings) (length (take s.clocks s.ceilings)) s.locations ≡ states_in f
  states_read = rw (ceilings_read f s h, pairs_length f (clocks_at f + 1) (clock_count f), h.locations)

  pub count-at : count_at s ≡ rules_at f
  unfolding outputs_at clocks_at locations_at rules_at
  count-at = omega arith

  pub rules-end : {n : ℕ} → n ≡ rule_count f → count_at s + 2 + n * rule_size s.clocks ≡ rules_end f
  unfolding rules_start rules_end
  rules-end e = cc (count-at)

  pub layout_read : (reading : ℕ) {n states : ℕ} → n ≡ rule_count f → states ≡ states_in f →
      record {
        reading = reading;
        inputs = s.inputs;
        outputs = s.outputs;
        clocks = s.clocks;
        locations = s.locations;
        rules = n;
        rules_start = count_at s + 2;
        rules_end = count_at s + 2 + n * rule_size s.clocks;
        ceilings = s.ceilings;
        states = states;
      }
      ≡ layout_of reading f
  unfolding rules_start
  layout_read reading e g = cc (count-at, rules-end e)
