-- The policy that permits all, the join's unit, and its file.
use Rattle.std.specs.Prelude.{◌≡◌, ℕ, length}
use Rattle.std.proofs.Math.Path.{refl}
use mathlib.Core.List.{List, [], ◌∷◌, ◌++◌, append_assoc}
use Rattle.policy.specs.Rules.{Rule, Policy}
use Rattle.policy.specs.Bytes.{pairs_bytes, bounds_bytes, rule_bytes, rules_bytes, counts_bytes, bytes_of}

-- The rule that matches every event and leads back to the start.
abbrev pub always : Rule
always = record { source = 0; in_care = 0; in_value = 0; out_care = 0; out_value = 0; reset = 0; target = 0; bounds = [] }

-- The policy that permits all: one location that may rest, no clocks, one rule.
abbrev pub free : ℕ → List ℕ → List ℕ → Policy
free reading ins outs = record { reading = reading; inputs = ins; outputs = outs; ceilings = []; locations = 1; left = 0 ∷ []; rules = always ∷ [] }

module _ (ins outs : List ℕ) where
  -- Its bytes, with i the number of inputs and o of outputs: i, the input tags, o, the output tags, then `00 01 00 00 01 00 00 00 00 00 00 00`: no
  -- clock, one location and its 0, one rule, and that rule's seven bytes.
  unfoldable pub free_file : List ℕ
  free_file = bytes_of (free 1 ins outs)

  -- They carry no reading.
  pub free_bytes : (reading : ℕ) → bytes_of (free reading ins outs) ≡ free_file
  unfolding free_file bytes_of counts_bytes
  free_bytes reading = refl

  -- The bytes of the policy that permits all, one by one.
  pub free_written : free_file ≡ (length ins ∷ ins) ++ ((length outs ∷ outs) ++ (0 ∷ 1 ∷ 0 ∷ 0 ∷ 1 ∷ 0 ∷ 0 ∷ 0 ∷ 0 ∷ 0 ∷ 0 ∷ 0 ∷ []))
  unfolding free_file bytes_of counts_bytes pairs_bytes rules_bytes rule_bytes bounds_bytes
  free_written = rw (append_assoc ins, append_assoc outs)
