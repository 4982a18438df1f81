-- The check of a policy file: refusals 1 to 9, "the file from left to right (for a section: count, limit, length, contents; each rule 6 before 7), then
-- 8, 9". A refusal of 0 is none.
use Rattle.std.specs.Prelude.{Bool, true, false, not, ◌&&◌, ◌||◌, List, [], ◌∷◌, ◌++◌, ℕ, ◌+◌, ◌*◌, ◌^◌, leb, ltb, eqb, length}
use Rattle.std.specs.Int.Bits.{bit_and}
use Rattle.streams.specs.Answer.{◌or_else◌, unless}
use Rattle.policy.specs.Rules.{Bound, Rule}
use Rattle.policy.specs.File
use Rattle.policy.specs.Number.{states_of}

-- Every element passes.
unfoldable pub all_pass : (ℕ → Bool) → List ℕ → Bool
all_pass test [] = true
all_pass test (a ∷ rest) = test a && all_pass test rest

-- 1, 2, 1: "a count or its section is cut short", "a count is outside its limits". The count n stands at `at` in `width` bytes, and each of its items
-- takes `size` bytes.
unfoldable pub section_refusal : List ℕ → (at width n low high size : ℕ) → ℕ
section_refusal f at width n low high size =
    unless (leb (at + width) (length f)) 1 or_else unless (leb low n && leb n high) 2
    or_else unless (leb (at + width + n * size) (length f)) 1

-- A letter A to Z.
abbrev pub is_capital : ℕ → Bool
is_capital t = leb 65 t && leb t 90

-- The tag is one of the list.
unfoldable pub among : ℕ → List ℕ → Bool
among t [] = false
among t (a ∷ rest) = eqb a t || among t rest

-- 3: "a tag is not A to Z or is repeated", of tags that follow those in `before`.
unfoldable pub tags_good : List ℕ → List ℕ → Bool
tags_good before [] = true
tags_good before (t ∷ ts) = is_capital t && (not (among t before) && tags_good (before ++ (t ∷ [])) ts)

-- 4: "a ceiling is 0 or above 1,001".
abbrev pub ceiling_good : ℕ → Bool
ceiling_good c = leb 1 c && leb c 1001

-- 5: "a byte above 1".
abbrev pub location_good : ℕ → Bool
location_good b = leb b 1

-- "A value has no bit outside its care mask", nor has the mask one beyond its section.
unfoldable pub mask_good : ℕ → ℕ → ℕ → Bool
mask_good signals care value = ltb care (2 ^ signals) && eqb (bit_and value care) value

-- 6: "A value has no bit outside its care mask; care and reset masks have no bit beyond their section. Sources never fall from one rule to the next. A
-- source is a location. A target is a location or 255, the violation." `before` is the source of the rule before it.
unfoldable pub head_good : (inputs outputs clocks locations before : ℕ) → Rule → Bool
head_good inputs outputs clocks locations before r =
    leb before r.source && (ltb r.source locations
    && (mask_good inputs r.in_care r.in_value && (mask_good outputs r.out_care r.out_value
    && (ltb r.reset (2 ^ clocks) && (ltb r.target locations || eqb r.target 255)))))

-- 7: "Low is at most high; low is at most the ceiling; high is below the ceiling, or is 65,535, meaning no upper bound."
unfoldable pub bound_good : ℕ → Bound → Bool
bound_good c b = leb b.low b.high && (leb b.low c && (ltb b.high c || eqb b.high 65535))

-- There is a bound for each ceiling, and each is good.
unfoldable pub bounds_good : List ℕ → List Bound → Bool
bounds_good [] [] = true
bounds_good [] (b ∷ bs) = false
bounds_good (c ∷ cs) [] = false
bounds_good (c ∷ cs) (b ∷ bs) = bound_good c b && bounds_good cs bs

-- "each rule 6 before 7"; `before` is the source of the rule before it.
unfoldable pub rule_refusal : (inputs outputs : ℕ) → List ℕ → (locations before : ℕ) → Rule → ℕ
rule_refusal inputs outputs cs locations before r =
    unless (head_good inputs outputs (length cs) locations before r) 6 or_else unless (bounds_good cs r.bounds) 7

-- The refusal of the first rule that has one.
unfoldable pub rules_refusal : (inputs outputs : ℕ) → List ℕ → (locations before : ℕ) → List Rule → ℕ
rules_refusal inputs outputs cs locations before [] = 0
rules_refusal inputs outputs cs locations before (r ∷ rs) =
    rule_refusal inputs outputs cs locations before r or_else rules_refusal inputs outputs cs locations r.source rs

module _ (f : List ℕ) where
  -- Each section goes by count, limit, length, contents. The inputs: at most four, each tag A to Z and new.
  unfoldable pub inputs_refusal : ℕ
  inputs_refusal = section_refusal f 0 1 (File.input_count f) 0 4 1 or_else unless (tags_good [] (File.input_tags f)) 3

  -- The outputs: at most four, each tag A to Z and new among inputs and outputs.
  unfoldable pub outputs_refusal : ℕ
  outputs_refusal =
      section_refusal f (File.outputs_at f) 1 (File.output_count f) 0 4 1
      or_else unless (tags_good (File.input_tags f) (File.output_tags f)) 3

  -- The clocks: at most four, each with a ceiling of 1 to 1,001.
  unfoldable pub clocks_refusal : ℕ
  clocks_refusal =
      section_refusal f (File.clocks_at f) 1 (File.clock_count f) 0 4 2 or_else unless (all_pass ceiling_good (File.ceilings_of f)) 4

  -- The locations: 1 to 64, each with a byte of 0 or 1.
  unfoldable pub locations_refusal : ℕ
  locations_refusal =
      section_refusal f (File.locations_at f) 1 (File.location_count f) 1 64 1
      or_else unless (all_pass location_good (File.location_bytes f)) 5

  -- The rules: at most 256, none with a refusal.
  unfoldable pub rules_section_refusal : ℕ
  rules_section_refusal =
      section_refusal f (File.rules_at f) 2 (File.rule_count f) 0 256 (File.rule_size (File.clock_count f))
      or_else rules_refusal (File.input_count f) (File.output_count f) (File.ceilings_of f) (File.location_count f) 0 (File.rules_of f)

  -- "Order: the file from left to right .., then 8, 9".
  unfoldable pub refusal_of : ℕ
  refusal_of =
      inputs_refusal or_else outputs_refusal or_else clocks_refusal or_else locations_refusal or_else rules_section_refusal
      or_else unless (leb (length f) (File.rules_end f)) 8
      or_else unless (leb (states_of (File.ceilings_of f) (File.clock_count f) (File.location_count f)) 65536) 9

-- "Callers name reading 1 or 2." "22 for any other number, before all else."
unfoldable pub reading_refusal : ℕ → ℕ
reading_refusal reading = unless (eqb reading 1 || eqb reading 2) 22

-- The refusal of a file that is read under a reading.
unfoldable pub refusal_under : ℕ → List ℕ → ℕ
refusal_under reading f = reading_refusal reading or_else refusal_of f
