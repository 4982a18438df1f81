-- Where the sections of a file that is not refused stand: each count is within its limits, and each section within the file.
use Rattle.std.specs.Prelude.{◌≡◌, refl, true, ◌&&◌, List, [], ℕ, zero, suc, ◌+◌, ◌*◌, ◌≤◌, ◌<◌, leb, length}
use Rattle.std.proofs.Common.{ap, mul-le-mul, arith, length-take, length-drop, leb-true}
use Rattle.std.proofs.Math.Bool.{and-eq-true_iff}
use Rattle.streams.specs.Answer.{◌or_else◌, unless}
use Rattle.streams.specs.AnswerLaws.{none_refused, none_unless}
use Rattle.policy.specs.Number.{states_of}
use Rattle.policy.specs.File.{part, pairs_from, bounds_from, rules_from, rule_size, input_count, outputs_at, output_count, clocks_at, clock_count, locations_at, location_count, rules_at, rule_count, rules_start, rules_end, input_tags, output_tags, ceilings_of, location_bytes, rule_section, rules_of}
use Rattle.policy.specs.Check.{all_pass, section_refusal, tags_good, ceiling_good, location_good, rules_refusal, inputs_refusal, outputs_refusal, clocks_refusal, locations_refusal, rules_section_refusal, refusal_of}

-- The count is within its limits, and its section within the file.
pub section_fits : (f : List ℕ) (at width n low high size : ℕ) → section_refusal f at width n low high size ≡ 0 →
    (low ≤ n) × (n ≤ high) × (at + width + n * size ≤ length f)
unfolding section_refusal
section_fits f at width n low high size e =
    let a = (none_refused (unless (leb (at + width) (length f)) 1) _).0 e in
    let b = (none_refused (unless (leb low n && leb n high) 2) _).0 a.1 in
    let c = (and-eq-true_iff (leb low n) _).0 ((none_unless _ 1).0 b.0) in
    (leb-true _ _ c.0, leb-true _ _ c.1, leb-true _ _ ((none_unless _ 0).0 b.1))

-- Where neither a section nor its contents are refused, the section fits as above.
pub section : (f : List ℕ) (at width n low high size contents : ℕ) → section_refusal f at width n low high size or_else contents ≡ 0 →
    ((low ≤ n) × (n ≤ high) × (at + width + n * size ≤ length f)) × (contents ≡ 0)
section f at width n low high size contents e =
    let k = (none_refused (section_refusal f at width n low high size) contents).0 e in (section_fits f at width n low high size k.0, k.1)

-- A part has as many bytes as are asked for, where they stand in the file.
pub part_length : (f : List ℕ) (at n : ℕ) → at + n ≤ length f → length (part f at n) ≡ n
part_length f at n h = simp (length-take, length-drop) (omega arith)

-- Two-byte numbers: as many as asked for, wherever they are read.
pub pairs_length : (f : List ℕ) (at n : ℕ) → length (pairs_from f at n) ≡ n
unfolding pairs_from
pairs_length f at zero = refl
pairs_length f at (suc n) = ap suc (pairs_length f (at + 2) n)

-- Bounds: as many as asked for.
pub bounds_length : (f : List ℕ) (at k : ℕ) → length (bounds_from f at k) ≡ k
unfolding bounds_from
bounds_length f at zero = refl
bounds_length f at (suc k) = ap suc (bounds_length f (at + 4) k)

-- Rules: as many as asked for.
pub rules_length : (clocks : ℕ) (f : List ℕ) (at n : ℕ) → length (rules_from clocks f at n) ≡ n
unfolding rules_from
rules_length clocks f at zero = refl
rules_length clocks f at (suc n) = ap suc (rules_length clocks f (at + rule_size clocks) n)

-- Each count is within its limits, each section begins where the one before it ends, and the last rule ends with the file.
pub record Framed (f : List ℕ) : Type 0 where
  pub inputs : input_count f ≤ 4
  pub outputs : output_count f ≤ 4
  pub clocks : clock_count f ≤ 4
  pub start : 0 < location_count f
  pub locations : location_count f ≤ 64
  pub rules : rule_count f ≤ 256
  pub inputs_end : 1 + input_count f ≡ outputs_at f
  pub outputs_end : outputs_at f + 1 + output_count f ≡ clocks_at f
  pub clocks_end : clocks_at f + 1 + clock_count f * 2 ≡ locations_at f
  pub locations_end : locations_at f + 1 + location_count f ≡ rules_at f
  pub count_end : rules_at f + 2 ≡ rules_start f
  pub last_end : rules_start f + rule_count f * rule_size (clock_count f) ≡ rules_end f
  pub ends : rules_end f ≡ length f

-- The check, part by part.
pub record Passed (f : List ℕ) : Type 0 where
  pub frame : Framed f
  pub in_tags : tags_good [] (input_tags f) ≡ true
  pub out_tags : tags_good (input_tags f) (output_tags f) ≡ true
  pub ceilings : all_pass ceiling_good (ceilings_of f) ≡ true
  pub left : all_pass location_good (location_bytes f) ≡ true
  pub rules : rules_refusal (input_count f) (output_count f) (ceilings_of f) (location_count f) 0 (rules_of f) ≡ 0
  pub states : states_of (ceilings_of f) (clock_count f) (location_count f) ≤ 65536

-- A file that is not refused passes each part of the check.
pub passed : (f : List ℕ) → refusal_of f ≡ 0 → Passed f
unfolding refusal_of inputs_refusal outputs_refusal clocks_refusal locations_refusal rules_section_refusal outputs_at clocks_at locations_at rules_at rules_start rules_end
passed f e =
    let a = (none_refused (inputs_refusal f) _).0 e in
    let b = (none_refused (outputs_refusal f) _).0 a.1 in
    let c = (none_refused (clocks_refusal f) _).0 b.1 in
    let d = (none_refused (locations_refusal f) _).0 c.1 in
    let g = (none_refused (rules_section_refusal f) _).0 d.1 in
    let h = (none_refused (unless (leb (length f) (rules_end f)) 8) _).0 g.1 in
    let i = section f 0 1 (input_count f) 0 4 1 _ a.0 in
    let o = section f (outputs_at f) 1 (output_count f) 0 4 1 _ b.0 in
    let k = section f (clocks_at f) 1 (clock_count f) 0 4 2 _ c.0 in
    let l = section f (locations_at f) 1 (location_count f) 1 64 1 _ d.0 in
    let r = section f (rules_at f) 2 (rule_count f) 0 256 (rule_size (clock_count f)) _ g.0 in
    let m : length f ≤ rules_end f = leb-true _ _ ((none_unless _ 7).0 h.0) in
    record {
      frame =
          record {
            inputs = i.0.1;
            outputs = o.0.1;
            clocks = k.0.1;
            start = l.0.0;
            locations = l.0.1;
            rules = r.0.1;
            inputs_end = refl;
            outputs_end = refl;
            clocks_end = refl;
            locations_end = refl;
            count_end = refl;
            last_end = refl;
            ends = omega (arith, r.0.2);
          };
      in_tags = (none_unless _ 2).0 i.1;
      out_tags = (none_unless _ 2).0 o.1;
      ceilings = (none_unless _ 3).0 k.1;
      left = (none_unless _ 4).0 l.1;
      rules = r.1;
      states = leb-true _ _ ((none_unless _ 8).0 h.1);
    }

-- A file that is not refused has its counts within their limits and its sections in their places.
pub frame : (f : List ℕ) → refusal_of f ≡ 0 → Framed f
frame f e = (passed f e).frame

-- So the sections stand one after another, and the rules begin within the file or at its end.
pub in_order : (f : List ℕ) → Framed f →
    (outputs_at f < clocks_at f) × (clocks_at f < locations_at f) × (locations_at f < rules_at f) × (rules_at f < rules_start f) × (rules_start f ≤ length f)
in_order f k = omega arith

-- "The longest is 5,974 bytes."
pub longest : (f : List ℕ) → Framed f → length f ≤ 5974
longest f k = let s : rule_size (clock_count f) ≤ 23 = omega arith in omega (arith, mul-le-mul k.rules s)

-- There are as many input tags as the count of inputs says.
pub inputs_length : (f : List ℕ) → Framed f → length (input_tags f) ≡ input_count f
inputs_length f k = part_length f 1 (input_count f) (omega arith)

-- There are as many output tags as the count of outputs says.
pub outputs_length : (f : List ℕ) → Framed f → length (output_tags f) ≡ output_count f
outputs_length f k = part_length f (outputs_at f + 1) (output_count f) (omega arith)

-- There are as many location bytes as the count of locations says.
pub locations_length : (f : List ℕ) → Framed f → length (location_bytes f) ≡ location_count f
locations_length f k = part_length f (locations_at f + 1) (location_count f) (omega arith)

-- The rule section has room for exactly as many rules as their count says.
pub section_length : (f : List ℕ) → Framed f → length (rule_section f) ≡ rule_count f * rule_size (clock_count f)
section_length f k = part_length f (rules_start f) (rule_count f * rule_size (clock_count f)) (omega arith)
