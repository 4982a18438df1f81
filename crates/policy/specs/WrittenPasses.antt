-- The file of a policy passes the check; without a location, or with too many states, it is refused for that alone.
use Rattle.std.specs.Prelude.{◌≡◌, refl, Bool, true, false, ◌&&◌, List, ℕ, zero, suc, ◌+◌, ◌*◌, ◌≤◌, leb, length}
use Rattle.std.proofs.Common.{◌∙◌, arith}
use borrow.Author.Tests.{le-leb}
use Rattle.streams.specs.Answer.{◌or_else◌, unless}
use Rattle.policy.specs.Rules.{Policy}
use Rattle.policy.specs.Number.{states}
use Rattle.policy.specs.File.{rule_size}
use Rattle.policy.specs.File.{input_count, outputs_at, output_count, clocks_at, clock_count, locations_at, location_count, rules_at, rule_count}
use Rattle.policy.specs.File.{rules_start, rules_end}
use Rattle.policy.specs.Check.{section_refusal, inputs_refusal, outputs_refusal, clocks_refusal, locations_refusal, rules_section_refusal}
use Rattle.policy.specs.Check.{refusal_of}
use Rattle.policy.specs.Bytes.{bytes_of}
use Rattle.policy.specs.Sound.{WellFormed, NearlyFormed, nearly}
use Rattle.policy.specs.ReadBack.{ceilings_back, count_clocks, count_inputs, count_locations, count_outputs, count_rules, file_ends, inputs_back, locations_back, outputs_back, rules_back}

section-refusal : (f : List ℕ) (at width n low high size : ℕ) → n ≤ high → at + width + n * size ≤ length f
    → section_refusal f at width n low high size ≡ unless (leb low n) 2
unfolding section_refusal
section-refusal f at width n low high size b c =
    rw (le-leb (at + width) (length f) (omega arith), le-leb n high b, le-leb (at + width + n * size) (length f) c) (go (leb low n))
  where
    go : (t : Bool) → (unless (t && true) 2 or_else 0) ≡ unless t 2
    go true = refl
    go false = refl

section_passes : (f : List ℕ) (at width n low high size : ℕ) → low ≤ n → n ≤ high → at + width + n * size ≤ length f
    → section_refusal f at width n low high size ≡ 0
section_passes f at width n low high size a b c = section-refusal f at width n low high size b c ∙ rw (le-leb low n a)

-- The contents that pass are refused by nothing.
alone : (n : ℕ) → (n or_else 0) ≡ n
alone zero = refl
alone (suc n) = refl

module _ (p : Policy) (w : NearlyFormed p) where
  inputs_pass : inputs_refusal (bytes_of p) ≡ 0
  unfolding inputs_refusal rules_end rules_start rules_at locations_at clocks_at outputs_at
  inputs_pass =
      rw (
        section_passes (bytes_of p) 0 1 (input_count (bytes_of p)) 0 4 1 (omega arith) (omega (arith, count_inputs p)) (omega (arith, file_ends p w)),
        inputs_back p,
        w.input_tags,
      )

  outputs_pass : outputs_refusal (bytes_of p) ≡ 0
  unfolding outputs_refusal rules_end rules_start rules_at locations_at clocks_at
  outputs_pass =
      rw (
        section_passes (bytes_of p) (outputs_at (bytes_of p)) 1 (output_count (bytes_of p)) 0 4 1 (omega arith) (omega (arith, count_outputs p))
            (omega (arith, file_ends p w)),
        inputs_back p,
        outputs_back p,
        w.output_tags,
      )

  clocks_pass : clocks_refusal (bytes_of p) ≡ 0
  unfolding clocks_refusal rules_end rules_start rules_at locations_at
  clocks_pass =
      rw (
        section_passes (bytes_of p) (clocks_at (bytes_of p)) 1 (clock_count (bytes_of p)) 0 4 2 (omega arith) (omega (arith, count_clocks p))
            (omega (arith, file_ends p w)),
        ceilings_back p,
        w.ceilings,
      )

  locations-refusal : locations_refusal (bytes_of p) ≡ unless (leb 1 p.locations) 2
  unfolding locations_refusal rules_end rules_start rules_at
  locations-refusal =
      rw (
        section-refusal (bytes_of p) (locations_at (bytes_of p)) 1 (location_count (bytes_of p)) 1 64 1 (omega (arith, count_locations p))
            (omega (arith, file_ends p w)),
        locations_back p w,
        w.left,
        count_locations p,
      ) (alone (unless (leb 1 p.locations) 2))

  rules_pass : rules_section_refusal (bytes_of p) ≡ 0
  unfolding rules_section_refusal rules_end rules_start
  rules_pass =
      rw (
        section_passes (bytes_of p) (rules_at (bytes_of p)) 2 (rule_count (bytes_of p)) 0 256 (rule_size (clock_count (bytes_of p))) (omega arith)
            (omega (arith, count_rules p w)) (omega (arith, file_ends p w)),
        rules_back p w,
        ceilings_back p,
        count_inputs p,
        count_outputs p,
        count_locations p,
        w.rules,
      )

  -- The file of a nearly formed policy is refused by 2 without a location, else by 9 with too many states, else not at all.
  pub written_refusal : refusal_of (bytes_of p) ≡ (unless (leb 1 p.locations) 2 or_else unless (leb (states p) 65536) 9)
  unfolding refusal_of
  written_refusal =
      rw (
        inputs_pass,
        outputs_pass,
        clocks_pass,
        locations-refusal,
        rules_pass,
        le-leb (length (bytes_of p)) (rules_end (bytes_of p)) (omega (arith, file_ends p w)),
        ceilings_back p,
        count_clocks p,
        count_locations p,
      )

-- The file of a well-formed policy passes the check.
pub written_passes : (p : Policy) → WellFormed p → refusal_of (bytes_of p) ≡ 0
written_passes p w = written_refusal p (nearly w) ∙ rw (le-leb 1 p.locations w.start, le-leb (states p) 65536 w.states)
