-- 26, found by the weights of the two signals in the bytes as they are. In a policy file these are the weights of the policy's own.
use Rattle.std.specs.Prelude.{◌≡◌, ℕ, zero, suc, false, ◌&&◌, ◌⊎◌, List, ◌≢◌, Option, MatchOption}
use Rattle.std.proofs.Math.Path.{refl}
use Rattle.std.proofs.Common.{sym, ◌∙◌}
use Rattle.std.proofs.Math.Bool.{and-false}
use Rattle.streams.specs.Answer.{◌or_else◌, unless}
use Rattle.policy.specs.File.{policy_of}
use Rattle.policy.specs.Check.{refusal_under, among}
use Rattle.policy.specs.Signals.{input_weight, output_weight, own_input, own_output, weight_none, weight_some}
use Rattle.meter.specs.Entries.{tag_p, tag_d, meter_refusal}
use Rattle.meter.specs.declared.signals.Signals.{Signals}

-- The weights of P and D, as the code finds them in the bytes.
abbrev pub signals_in : List ℕ → Signals
signals_in f = record { pulse = input_weight f tag_p; dispense = output_weight f tag_d }

-- P is no input or D is no output.
abbrev pub Lacks : List ℕ → Type 0
Lacks f = (input_weight f tag_p ≡ 0) ⊎ (output_weight f tag_d ≡ 0)

-- What the code finds: both weights, or that one of them is 0.
abbrev pub Found : List ℕ → Option Signals → Type 0
Found f o = MatchOption o (Lacks f) (λ s. (s ≡ signals_in f) × (input_weight f tag_p ≢ 0) × (output_weight f tag_d ≢ 0))

module _ (reading : ℕ) (f : List ℕ) where
  -- Without P or D the refusal is that of the file, or else 26.
  pub lacks : Lacks f → meter_refusal reading f ≡ (refusal_under reading f or_else 26)
  unfolding meter_refusal
  lacks h = go (refusal_under reading f) refl
    where
      no : refusal_under reading f ≡ 0 → Lacks f → (among tag_p (policy_of reading f).inputs && among tag_d (policy_of reading f).outputs) ≡ false
      no e (◌⊎◌.inl z) = rw (weight_none tag_p (policy_of reading f).inputs (sym (own_input reading f e tag_p) ∙ z))
      no e (◌⊎◌.inr z) =
          rw (weight_none tag_d (policy_of reading f).outputs (sym (own_output reading f e tag_d) ∙ z)) (and-false (among tag_p (policy_of reading f).inputs))

      go : (n : ℕ) → refusal_under reading f ≡ n →
          (n or_else unless (among tag_p (policy_of reading f).inputs && among tag_d (policy_of reading f).outputs) 26) ≡ (n or_else 26)
      go zero e = rw (no e h)
      go (suc n) e = refl

  -- With P and D the refusal is that of the file alone.
  pub has : (input_weight f tag_p ≢ 0) → (output_weight f tag_d ≢ 0) → meter_refusal reading f ≡ refusal_under reading f
  unfolding meter_refusal
  has h g = go (refusal_under reading f) refl
    where
      go : (n : ℕ) → refusal_under reading f ≡ n →
          (n or_else unless (among tag_p (policy_of reading f).inputs && among tag_d (policy_of reading f).outputs) 26) ≡ n
      go zero e =
          rw (
            weight_some tag_p (policy_of reading f).inputs (λ z. h (own_input reading f e tag_p ∙ z)),
            weight_some tag_d (policy_of reading f).outputs (λ z. g (own_output reading f e tag_d ∙ z)),
          )
      go (suc n) e = refl
