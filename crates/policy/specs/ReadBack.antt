-- The file written from a policy reads back as that policy.
-- In order: what is read at a position; how many bytes the pieces take; the file from each section on; the sections before the rules; the rules, and
-- how long the file is; the whole policy (`read_back`).
use Rattle.std.specs.Prelude.{◌≡◌, ℕ, ◌+◌, ◌*◌, ◌≤◌, length, drop}
use Rattle.std.proofs.Math.Path.{refl, ap₂}
use Rattle.std.proofs.Common.{sym, ◌∙◌, div-add-mod', mul-le-mul, length-append, drop-drop, get_or-drop}
use mathlib.Core.List.{List, [], ◌∷◌, ◌++◌, append_assoc, append-nil}
use native.Mathlib.Omega.{arith}
use Rattle.std.proofs.Math.Seq.{drop-append_seam, take-append_seam}
use Rattle.policy.specs.Rules.{Bound, Rule, Policy}
use Rattle.policy.specs.File.{byte_at, pair_at, part, pairs_from, bounds_from, rule_size, rule_from, rules_from}
use Rattle.policy.specs.File.{input_count, outputs_at, output_count, clocks_at, clock_count, locations_at, location_count, rules_at, rule_count}
use Rattle.policy.specs.File.{rules_start, rules_end, input_tags, output_tags, ceilings_of, location_bytes, rules_of, policy_of}
use Rattle.policy.specs.Parts.{rules_part}
use Rattle.policy.specs.Bytes.{pair_bytes, pairs_bytes, bounds_bytes, rule_bytes, rules_bytes, counts_bytes, bytes_of}
use Rattle.policy.specs.Sound.{WellFormed, NearlyFormed, nearly, Each, each_none, each_more, each_weak}
use Rattle.policy.specs.Checked.{rules_good}

-- What is read at a position from which on the file is known.
module _ (f : List ℕ) where
  -- From the end of xs on the file is g.
  pub file_after : (at : ℕ) (xs g : List ℕ) → drop at f ≡ xs ++ g → (n : ℕ) → at + length xs ≡ n → drop n f ≡ g
  file_after at xs g e n h = rw (← h, ← drop-drop (length xs) at f, e) (drop-append_seam xs g)

  -- From `at` on the file is g: the byte at at + i is byte i of g.
  pub byte_read : (at : ℕ) (g : List ℕ) → drop at f ≡ g → (i n : ℕ) → at + i ≡ n → byte_at f n ≡ byte_at g i
  byte_read at g e i n h = rw (← h, ← e) (sym (get_or-drop at f i 0))

  -- Bytes that stand at a position are read there.
  pub part_read : (at : ℕ) (xs g : List ℕ) → drop at f ≡ xs ++ g → part f at (length xs) ≡ xs
  part_read at xs g e = rw e (take-append_seam xs g)

  -- A two-byte number that is written at a position is read there; also one above 65,535, from a first element that is no byte.
  pub pair_read : (at n : ℕ) (g : List ℕ) → drop at f ≡ pair_bytes n ++ g → pair_at f at ≡ n
  pair_read at n g e =
      ap₂ (λ (a b : ℕ). a * 256 + b) (byte_read at _ e 0 at (omega arith)) (byte_read at _ e 1 (at + 1) refl) ∙ div-add-mod' n 256

  -- Two-byte numbers that are written at a position are read there.
  pub pairs_read : (at : ℕ) (ns g : List ℕ) → drop at f ≡ pairs_bytes ns ++ g → pairs_from f at (length ns) ≡ ns
  unfolding pairs_from pairs_bytes
  pairs_read at [] g e = refl
  pairs_read at (n ∷ ns) g e =
      let first : pair_at f at ≡ n = pair_read at n (pairs_bytes ns ++ g) e in
      let rest = pairs_read (at + 2) ns g (file_after at (pair_bytes n) (pairs_bytes ns ++ g) e (at + 2) refl) in
      λ i. first i ∷ rest i

  -- Bounds that are written at a position are read there.
  pub bounds_read : (at : ℕ) (bs : List Bound) (g : List ℕ) → drop at f ≡ bounds_bytes bs ++ g → bounds_from f at (length bs) ≡ bs
  unfolding bounds_from bounds_bytes
  bounds_read at [] g e = refl
  bounds_read at (b ∷ bs) g e =
      let e₂ = file_after at (pair_bytes b.low) (pair_bytes b.high ++ (bounds_bytes bs ++ g)) e (at + 2) refl in
      let low = pair_read at b.low _ e in
      let high = pair_read (at + 2) b.high _ e₂ in
      let rest = bounds_read (at + 4) bs g (file_after (at + 2) (pair_bytes b.high) (bounds_bytes bs ++ g) e₂ (at + 4) (omega arith)) in
      λ i. record { low = low i; high = high i } ∷ rest i

  -- A rule that is written at a position is read there.
  pub rule_read : (at : ℕ) (r : Rule) (g : List ℕ) → drop at f ≡ rule_bytes r ++ g → rule_from (length r.bounds) f at ≡ r
  unfolding rule_from rule_bytes
  rule_read at r g e =
      let at_byte = byte_read at (rule_bytes r ++ g) e in
      let source : byte_at f at ≡ r.source = at_byte 0 at (omega arith) in
      let head = r.source ∷ r.in_care ∷ r.in_value ∷ r.out_care ∷ r.out_value ∷ r.reset ∷ r.target ∷ [] in
      let bounds = bounds_read (at + 7) r.bounds g (file_after at head _ e (at + 7) refl) in
      λ i.
      record {
        source = source i;
        in_care = at_byte 1 (at + 1) refl i;
        in_value = at_byte 2 (at + 2) refl i;
        out_care = at_byte 3 (at + 3) refl i;
        out_value = at_byte 4 (at + 4) refl i;
        reset = at_byte 5 (at + 5) refl i;
        target = at_byte 6 (at + 6) refl i;
        bounds = bounds i;
      }

-- A two-byte number takes two bytes.
pub pairs_length : (ns : List ℕ) → length (pairs_bytes ns) ≡ 2 * length ns
unfolding pairs_bytes
pairs_length [] = refl
pairs_length (n ∷ ns) = omega (arith, pairs_length ns)

-- A bound takes four bytes.
pub bounds_length : (bs : List Bound) → length (bounds_bytes bs) ≡ 4 * length bs
unfolding bounds_bytes
bounds_length [] = refl
bounds_length (b ∷ bs) = omega (arith, bounds_length bs)

-- A rule with a bound for each of so many clocks.
abbrev pub Bounded : ℕ → Rule → Type 0
Bounded clocks r = length r.bounds ≡ clocks

-- A rule with a bound for each clock takes `rule_size` bytes.
pub rule_length : (clocks : ℕ) (r : Rule) → Bounded clocks r → length (rule_bytes r) ≡ rule_size clocks
unfolding rule_bytes
rule_length clocks r b = omega (arith, bounds_length r.bounds)

-- Rules rs and then ss are written as rs are, and then as ss are.
pub rules_append : (rs ss : List Rule) → rules_bytes (rs ++ ss) ≡ rules_bytes rs ++ rules_bytes ss
unfolding rules_bytes
rules_append [] ss = refl
rules_append (r ∷ rs) ss = rw (rules_append rs ss, append_assoc)

-- Rules with a bound for each clock take `rule_size` bytes each.
pub rules_length : (clocks : ℕ) {rs : List Rule} → Each (Bounded clocks) rs → length (rules_bytes rs) ≡ length rs * rule_size clocks
unfolding rules_bytes
rules_length clocks each_none = omega arith
rules_length clocks (each_more {r = r} {rs = rs} b bs) = rw length-append (omega (arith, rule_length clocks r b, rules_length clocks bs))

-- Rules that are written at a position are read there.
pub rules_read : (f : List ℕ) (clocks at : ℕ) {rs : List Rule} → Each (Bounded clocks) rs → (g : List ℕ) → drop at f ≡ rules_bytes rs ++ g
    → rules_from clocks f at (length rs) ≡ rs
unfolding rules_from rules_bytes
rules_read f clocks at each_none g e = refl
rules_read f clocks at (each_more {r = r} {rs = rs} b bs) g e =
    let e₂ : drop at f ≡ rule_bytes r ++ (rules_bytes rs ++ g) = e ∙ append_assoc (rule_bytes r) (rules_bytes rs) g in
    let first : rule_from clocks f at ≡ r = rw (← b) (rule_read f at r _ e₂) in
    let e₃ = file_after f at (rule_bytes r) _ e₂ (at + rule_size clocks) (omega (arith, rule_length clocks r b)) in
    let rest = rules_read f clocks (at + rule_size clocks) bs g e₃ in
    λ i. first i ∷ rest i

-- The file from the count of rules on.
abbrev pub from_rules : Policy → List ℕ
from_rules p = pair_bytes (length p.rules) ++ rules_bytes p.rules

-- From the count of locations on.
abbrev pub from_locations : Policy → List ℕ
from_locations p = p.locations ∷ p.left ++ from_rules p

-- From the count of clocks on.
abbrev pub from_clocks : Policy → List ℕ
from_clocks p = length p.ceilings ∷ pairs_bytes p.ceilings ++ from_locations p

-- From the count of outputs on.
abbrev pub from_outputs : Policy → List ℕ
from_outputs p = length p.outputs ∷ p.outputs ++ from_clocks p

-- From the count of inputs on.
abbrev pub from_inputs : Policy → List ℕ
from_inputs p = length p.inputs ∷ p.inputs ++ from_outputs p

-- A section that begins at a position: its count, its items, and what follows it.
module _ (f : List ℕ) (at : ℕ) {n : ℕ} (items g : List ℕ) (e : drop at f ≡ n ∷ items ++ g) where
  count_read : byte_at f at ≡ n
  count_read = byte_read f at _ e 0 at (omega arith)

  items_at : drop (at + 1) f ≡ items ++ g
  items_at = file_after f at (n ∷ []) (items ++ g) e (at + 1) refl

  items_read : length items ≡ n → part f (at + 1) (byte_at f at) ≡ items
  items_read h = rw (count_read, ← h) (part_read f (at + 1) items g items_at)

  after_section : (m : ℕ) → at + 1 + length items ≡ m → drop m f ≡ g
  after_section = file_after f (at + 1) items g items_at

-- Where the sections of a written file begin, and their counts.
module _ (p : Policy) where
  -- The file begins with the inputs.
  pub at_inputs : bytes_of p ≡ from_inputs p
  unfolding bytes_of counts_bytes
  at_inputs = simp append_assoc

  -- The first count is how many inputs the policy has.
  pub count_inputs : input_count (bytes_of p) ≡ length p.inputs
  count_inputs = count_read (bytes_of p) 0 p.inputs (from_outputs p) at_inputs

  -- After the inputs come the outputs.
  pub at_outputs : drop (outputs_at (bytes_of p)) (bytes_of p) ≡ from_outputs p
  unfolding outputs_at
  at_outputs = after_section (bytes_of p) 0 p.inputs (from_outputs p) at_inputs (outputs_at (bytes_of p)) (omega (arith, count_inputs))

  -- The second count is how many outputs it has.
  pub count_outputs : output_count (bytes_of p) ≡ length p.outputs
  count_outputs = count_read (bytes_of p) (outputs_at (bytes_of p)) p.outputs (from_clocks p) at_outputs

  -- After the outputs come the clocks.
  pub at_clocks : drop (clocks_at (bytes_of p)) (bytes_of p) ≡ from_clocks p
  unfolding clocks_at
  at_clocks =
      after_section (bytes_of p) (outputs_at (bytes_of p)) p.outputs (from_clocks p) at_outputs (clocks_at (bytes_of p)) (omega (arith, count_outputs))

  -- The third count is how many clocks it has.
  pub count_clocks : clock_count (bytes_of p) ≡ length p.ceilings
  count_clocks = count_read (bytes_of p) (clocks_at (bytes_of p)) (pairs_bytes p.ceilings) (from_locations p) at_clocks

  -- After the clocks come the locations.
  pub at_locations : drop (locations_at (bytes_of p)) (bytes_of p) ≡ from_locations p
  unfolding locations_at
  at_locations =
      after_section (bytes_of p) (clocks_at (bytes_of p)) (pairs_bytes p.ceilings) (from_locations p) at_clocks (locations_at (bytes_of p))
      (omega (arith, count_clocks, pairs_length p.ceilings))

  -- The fourth count is how many locations it has.
  pub count_locations : location_count (bytes_of p) ≡ p.locations
  count_locations = count_read (bytes_of p) (locations_at (bytes_of p)) p.left (from_rules p) at_locations

  -- The input tags are read back.
  pub inputs_back : input_tags (bytes_of p) ≡ p.inputs
  inputs_back = items_read (bytes_of p) 0 p.inputs (from_outputs p) at_inputs refl

  -- The output tags are read back.
  pub outputs_back : output_tags (bytes_of p) ≡ p.outputs
  outputs_back = items_read (bytes_of p) (outputs_at (bytes_of p)) p.outputs (from_clocks p) at_outputs refl

  -- The ceilings are read back.
  pub ceilings_back : ceilings_of (bytes_of p) ≡ p.ceilings
  ceilings_back =
      let at = clocks_at (bytes_of p) in
      rw count_clocks
      (pairs_read (bytes_of p) (at + 1) p.ceilings (from_locations p)
      (items_at (bytes_of p) at (pairs_bytes p.ceilings) (from_locations p) at_clocks))

module _ (p : Policy) (w : NearlyFormed p) where
  -- The bytes of the locations are read back: there is one for each.
  pub locations_back : location_bytes (bytes_of p) ≡ p.left
  locations_back = items_read (bytes_of p) (locations_at (bytes_of p)) p.left (from_rules p) (at_locations p) w.bytes

  -- After the locations come the rules, from their count on.
  pub at_rules : drop (rules_at (bytes_of p)) (bytes_of p) ≡ from_rules p
  unfolding rules_at
  at_rules =
      after_section (bytes_of p) (locations_at (bytes_of p)) p.left (from_rules p) (at_locations p) (rules_at (bytes_of p))
      (omega (arith, count_locations p))

  -- The last count is how many rules the policy has.
  pub count_rules : rule_count (bytes_of p) ≡ length p.rules
  count_rules = pair_read (bytes_of p) (rules_at (bytes_of p)) (length p.rules) (rules_bytes p.rules) at_rules

  -- After that count stand the rules, and nothing else.
  pub at_first_rule : drop (rules_start (bytes_of p)) (bytes_of p) ≡ rules_bytes p.rules
  unfolding rules_start
  at_first_rule =
      file_after (bytes_of p) (rules_at (bytes_of p)) (pair_bytes (length p.rules)) (rules_bytes p.rules) at_rules (rules_start (bytes_of p)) refl

  -- Each rule has a bound for each clock.
  pub bounded : Each (Bounded (length p.ceilings)) p.rules
  bounded =
      each_weak (λ r q. q.formed.bounds)
      (rules_good (length p.inputs) (length p.outputs) p.ceilings p.locations 0 p.rules w.rules).1

  -- The rules are read back.
  pub rules_back : rules_of (bytes_of p) ≡ p.rules
  rules_back =
      rw (rules_part (bytes_of p), count_clocks p, count_rules)
      (rules_read (bytes_of p) (length p.ceilings) (rules_start (bytes_of p)) bounded [] (at_first_rule ∙ sym (append-nil _)))

  -- How long the file is, section by section.
  pub nearly_length : length (bytes_of p)
      ≡ 1 + length p.inputs + 1 + length p.outputs + 1 + 2 * length p.ceilings + 1 + p.locations + 2
      + length p.rules * rule_size (length p.ceilings)
  nearly_length =
      rw (at_inputs p)
      (simp (length-append, pairs_length) (omega (arith, rules_length (length p.ceilings) bounded)))

  -- "The longest is 5,974 bytes."
  pub bytes_at_most : length (bytes_of p) ≤ 5974
  bytes_at_most =
      let k : rule_size (length p.ceilings) ≤ 23 = omega arith in
      omega (arith, nearly_length, mul-le-mul w.rule_count k)

  -- The last rule ends with the file.
  pub file_ends : rules_end (bytes_of p) ≡ length (bytes_of p)
  unfolding rules_end rules_start rules_at locations_at clocks_at outputs_at
  file_ends =
      omega (
        arith,
        nearly_length,
        count_inputs p,
        count_outputs p,
        count_clocks p,
        count_locations p,
        ap₂ (λ (n k : ℕ). n * rule_size k) count_rules (count_clocks p),
      )

module _ (p : Policy) (w : WellFormed p) where
  -- The file of a policy reads back as that policy. No bound on the numbers is used, only that each location has a byte and each rule a bound for
  -- each clock.
  pub read_back : policy_of p.reading (bytes_of p) ≡ p
  unfolding policy_of
  read_back =
      λ i.
      record {
        reading = p.reading;
        inputs = inputs_back p i;
        outputs = outputs_back p i;
        ceilings = ceilings_back p i;
        locations = count_locations p i;
        left = locations_back p (nearly w) i;
        rules = rules_back p (nearly w) i;
      }

  -- How long the file of a well-formed policy is, section by section.
  pub bytes_length : length (bytes_of p)
      ≡ 1 + length p.inputs + 1 + length p.outputs + 1 + 2 * length p.ceilings + 1 + p.locations + 2
      + length p.rules * rule_size (length p.ceilings)
  bytes_length = nearly_length p (nearly w)
