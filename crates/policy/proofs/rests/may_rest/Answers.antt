use Rattle.std.proofs.Common.{◌≡◌, List, ℕ, ◌+◌, ◌-◌, ◌≤◌, ◌<◌, ap, sym, ◌∙◌, arith}
use Rattle.std.specs.Prelude.{eqb}
use Rattle.policy.specs.Rules.{rests}
use Rattle.policy.specs.File.{byte_at, locations_at, location_count, rules_at, rules_start, policy_of}
use Rattle.policy.specs.Parts.{byte_part}
use Rattle.policy.proofs.rests.may_rest.Goals as goal

module _ (f : List ℕ) where
  -- Before the rules stand their count and, before it, the locations' bytes.
  bytes_before : 2 + location_count f ≤ rules_start f
  unfolding rules_start rules_at
  bytes_before = omega arith

  rests_by : (reading location at : ℕ) → location < location_count f → at ≡ rules_start f - 2 - location_count f + location →
      rests (policy_of reading f) location ≡ eqb (byte_at f at) 0
  unfolding rests policy_of rules_start rules_at
  rests_by reading location at h e =
      ap (λ (b : ℕ). eqb b 0) (byte_part f (locations_at f + 1) (location_count f) location at (omega arith) h)

pub overflow_sub-layout : goal.overflow_sub-layout
overflow_sub-layout c = omega (arith, bytes_before c.args.file.now)

pub overflow_sub-layout-2 : goal.overflow_sub-layout-2
overflow_sub-layout-2 c = omega (arith, bytes_before c.args.file.now)

pub returns : goal.returns
returns c =
    ap (λ (b : ℕ). eqb b 0) c.byte_at.ensures.0
    ∙ sym (rests_by c.args.file.now c.args.layout.reading c.args.location _ (omega arith) (rw (c.requires.0, c.requires.1)))
