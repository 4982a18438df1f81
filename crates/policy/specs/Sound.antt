-- What the check makes sure of, as facts about the policy, and what stays true of a place from tick to tick.
use Rattle.std.specs.Prelude.{◌≡◌, true, List, [], ◌∷◌, ◌⊎◌, ℕ, ◌^◌, ◌≤◌, ◌<◌, length, get_or}
use Rattle.std.specs.Int.Bits.{bit_and}
use Rattle.policy.specs.Rules.{Rule, Policy, Place}
use Rattle.policy.specs.Number.{states}
use Rattle.policy.specs.Check.{all_pass, tags_good, ceiling_good, location_good, rules_refusal}

-- The limits and orders of a file that is not refused.
pub record WellFormed (p : Policy) : Type 0 where
  pub inputs : length p.inputs ≤ 4
  pub outputs : length p.outputs ≤ 4
  pub clocks : length p.ceilings ≤ 4
  pub input_tags : tags_good [] p.inputs ≡ true
  pub output_tags : tags_good p.inputs p.outputs ≡ true
  pub ceilings : all_pass ceiling_good p.ceilings ≡ true
  pub start : 0 < p.locations
  pub locations : p.locations ≤ 64
  pub bytes : length p.left ≡ p.locations
  pub left : all_pass location_good p.left ≡ true
  pub rule_count : length p.rules ≤ 256
  pub rules : rules_refusal (length p.inputs) (length p.outputs) p.ceilings p.locations 0 p.rules ≡ 0
  pub states : states p ≤ 65536

-- The same but for refusals 2 and 9 of the whole: that there is a location, and how many states there are.
pub record NearlyFormed (p : Policy) : Type 0 where
  pub inputs : length p.inputs ≤ 4
  pub outputs : length p.outputs ≤ 4
  pub clocks : length p.ceilings ≤ 4
  pub input_tags : tags_good [] p.inputs ≡ true
  pub output_tags : tags_good p.inputs p.outputs ≡ true
  pub ceilings : all_pass ceiling_good p.ceilings ≡ true
  pub locations : p.locations ≤ 64
  pub bytes : length p.left ≡ p.locations
  pub left : all_pass location_good p.left ≡ true
  pub rule_count : length p.rules ≤ 256
  pub rules : rules_refusal (length p.inputs) (length p.outputs) p.ceilings p.locations 0 p.rules ≡ 0

-- A well-formed policy is nearly formed.
pub nearly : {p : Policy} → WellFormed p → NearlyFormed p
nearly w =
    record {
      inputs = w.inputs;
      outputs = w.outputs;
      clocks = w.clocks;
      input_tags = w.input_tags;
      output_tags = w.output_tags;
      ceilings = w.ceilings;
      locations = w.locations;
      bytes = w.bytes;
      left = w.left;
      rule_count = w.rule_count;
      rules = w.rules;
    }

-- A nearly formed policy with a location and at most 65,536 states is well formed.
pub wholly : {p : Policy} → NearlyFormed p → 0 < p.locations → states p ≤ 65536 → WellFormed p
wholly w start states =
    record {
      inputs = w.inputs;
      outputs = w.outputs;
      clocks = w.clocks;
      input_tags = w.input_tags;
      output_tags = w.output_tags;
      ceilings = w.ceilings;
      start = start;
      locations = w.locations;
      bytes = w.bytes;
      left = w.left;
      rule_count = w.rule_count;
      rules = w.rules;
      states = states;
    }

-- P holds of each rule.
pub data Each (P : Rule → Type 0) : List Rule → Type 0 where
  each_none : Each P []
  each_more : {r : Rule} {rs : List Rule} → P r → Each P rs → Each P (r ∷ rs)

-- If Q holds wherever P does, and P of each rule, Q holds of each.
pub each_weak : {P Q : Rule → Type 0} → ((r : Rule) → P r → Q r) → {rs : List Rule} → Each P rs → Each Q rs
each_weak f each_none = each_none
each_weak f (each_more {r = r} p h) = each_more (f r p) (each_weak f h)

-- A rule of a policy with so many clocks and locations: its values are within their masks, its resets among the clocks; it has a bound for each clock,
-- and its target is a location or 255.
pub record Formed (clocks locations : ℕ) (r : Rule) : Type 0 where
  pub inputs : bit_and r.in_value r.in_care ≡ r.in_value
  pub outputs : bit_and r.out_value r.out_care ≡ r.out_value
  pub reset : r.reset < 2 ^ clocks
  pub bounds : length r.bounds ≡ clocks
  pub target : (r.target < locations) ⊎ (r.target ≡ 255)

-- There is a location to start at, and each rule is formed for the policy's clocks and locations.
pub record Sound (p : Policy) : Type 0 where
  pub start : 0 < p.locations
  pub rules : Each (Formed (length p.ceilings) p.locations) p.rules

-- A place of the policy, over clocks without limit.
pub record In (p : Policy) (s : Place) : Type 0 where
  pub location : s.location < p.locations
  pub clocks : length s.clocks ≡ length p.ceilings

-- A place of the policy whose clocks have stopped at their ceilings or before: a numbered one.
pub record Inside (p : Policy) (s : Place) : Type 0 where
  pub location : s.location < p.locations
  pub clocks : length s.clocks ≡ length p.ceilings
  pub stopped : (i : ℕ) → get_or s.clocks i 0 ≤ get_or p.ceilings i 0
