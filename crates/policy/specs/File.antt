-- The policy file: where its sections stand, and what they say. "Sections in this order, each after its count. Counts are one byte, except the rule
-- count (two bytes). All two-byte numbers have the high byte first."
use Rattle.std.specs.Prelude.{List, [], ◌∷◌, ℕ, zero, suc, ◌+◌, ◌*◌, get_or, take, drop}
use Rattle.policy.specs.Rules.{Bound, Rule, Policy}

-- The byte at a position. Past the end stands 0.
abbrev pub byte_at : List ℕ → ℕ → ℕ
byte_at f at = get_or f at 0

-- The number in the two bytes at a position, the high byte first.
abbrev pub pair_at : List ℕ → ℕ → ℕ
pair_at f at = get_or f at 0 * 256 + get_or f (at + 1) 0

-- n bytes from a position on.
abbrev pub part : List ℕ → ℕ → ℕ → List ℕ
part f at n = take n (drop at f)

-- n two-byte numbers from a position on.
unfoldable pub pairs_from : List ℕ → ℕ → ℕ → List ℕ
pairs_from f at zero = []
pairs_from f at (suc n) = pair_at f at ∷ pairs_from f (at + 2) n

-- "for each clock a two-byte low and high"
unfoldable pub bounds_from : List ℕ → ℕ → ℕ → List Bound
bounds_from f at zero = []
bounds_from f at (suc k) = record { low = pair_at f at; high = pair_at f (at + 2) } ∷ bounds_from f (at + 4) k

-- How many bytes a rule takes: "seven bytes (source, input care, input value, output care, output value, reset mask, target)", then the bounds.
abbrev pub rule_size : ℕ → ℕ
rule_size clocks = 7 + 4 * clocks

-- The rule that begins at a position, with a bound for each clock.
unfoldable pub rule_from : ℕ → List ℕ → ℕ → Rule
rule_from clocks f at =
    record {
      source = byte_at f at;
      in_care = byte_at f (at + 1);
      in_value = byte_at f (at + 2);
      out_care = byte_at f (at + 3);
      out_value = byte_at f (at + 4);
      reset = byte_at f (at + 5);
      target = byte_at f (at + 6);
      bounds = bounds_from f (at + 7) clocks;
    }

-- n rules from a position on.
unfoldable pub rules_from : ℕ → List ℕ → ℕ → ℕ → List Rule
rules_from clocks f at zero = []
rules_from clocks f at (suc n) = rule_from clocks f at ∷ rules_from clocks f (at + rule_size clocks) n

-- The counts, and where they stand.
module _ (f : List ℕ) where
  -- How many inputs there are.
  abbrev pub input_count : ℕ
  input_count = byte_at f 0

  -- Where the count of outputs stands: after the tags of the inputs.
  unfoldable pub outputs_at : ℕ
  outputs_at = 1 + input_count

  -- How many outputs there are.
  abbrev pub output_count : ℕ
  output_count = byte_at f outputs_at

  -- Where the count of clocks stands: after the tags of the outputs.
  unfoldable pub clocks_at : ℕ
  clocks_at = outputs_at + 1 + output_count

  -- How many clocks there are.
  abbrev pub clock_count : ℕ
  clock_count = byte_at f clocks_at

  -- Where the count of locations stands: after the ceilings.
  unfoldable pub locations_at : ℕ
  locations_at = clocks_at + 1 + clock_count * 2

  -- How many locations there are.
  abbrev pub location_count : ℕ
  location_count = byte_at f locations_at

  -- Where the two-byte count of rules stands: after the bytes of the locations.
  unfoldable pub rules_at : ℕ
  rules_at = locations_at + 1 + location_count

  -- How many rules there are.
  abbrev pub rule_count : ℕ
  rule_count = pair_at f rules_at

  -- Where the first rule stands.
  unfoldable pub rules_start : ℕ
  rules_start = rules_at + 2

  -- Where the last rule ends.
  unfoldable pub rules_end : ℕ
  rules_end = rules_start + rule_count * rule_size clock_count

  -- "The rule section is handed on as the part of the file it is".
  abbrev pub rule_section : List ℕ
  rule_section = part f rules_start (rule_count * rule_size clock_count)

  -- The tags of the inputs.
  abbrev pub input_tags : List ℕ
  input_tags = part f 1 input_count

  -- The tags of the outputs.
  abbrev pub output_tags : List ℕ
  output_tags = part f (outputs_at + 1) output_count

  -- The ceiling of each clock.
  abbrev pub ceilings_of : List ℕ
  ceilings_of = pairs_from f (clocks_at + 1) clock_count

  -- The byte of each location.
  abbrev pub location_bytes : List ℕ
  location_bytes = part f (locations_at + 1) location_count

  -- The rules in file order.
  abbrev pub rules_of : List Rule
  rules_of = rules_from clock_count rule_section 0 rule_count

-- The policy that the file f is under a reading.
unfoldable pub policy_of : ℕ → List ℕ → Policy
policy_of reading f =
    record {
      reading = reading;
      inputs = input_tags f;
      outputs = output_tags f;
      ceilings = ceilings_of f;
      locations = location_count f;
      left = location_bytes f;
      rules = rules_of f;
    }
