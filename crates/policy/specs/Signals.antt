-- A signal by its tag: what it adds to a value.
use Rattle.std.specs.Prelude.{◌≡◌, refl, Bool, true, false, cond, ◌||◌, List, [], ◌∷◌, ℕ, suc, ◌+◌, ◌*◌, ◌^◌, ◌≤◌, ◌<◌, eqb, take}
use Rattle.std.proofs.Common.{sym, ◌∙◌, mul_comm, pow-suc, arith, take_all}
use Rattle.std.proofs.Math.Path.{ap}
use Rattle.std.proofs.Math.ListN.{length}
use Rattle.policy.specs.File.{byte_at, part, policy_of, outputs_at, input_tags, output_tags}
use Rattle.policy.specs.Check.{refusal_under, among}
use Rattle.policy.specs.CheckLaws.{under_none}
use Rattle.policy.specs.Frame.{frame, inputs_length, outputs_length}

-- What the signal with this tag adds to a value: "Bit 0 is the first signal". 0 where no signal has the tag.
unfoldable pub weight_of : ℕ → List ℕ → ℕ
weight_of tag [] = 0
weight_of tag (t ∷ ts) = cond (eqb t tag) 1 (2 * weight_of tag ts)

-- The same of bytes that may be no policy file, in the section whose count stands at `at`: no more than four signals are looked at.
abbrev pub tags_at : List ℕ → ℕ → List ℕ
tags_at f at = take 4 (part f (at + 1) (byte_at f at))

-- What the signal with this tag adds to a value, among the signals of that section.
abbrev pub weight_at : List ℕ → ℕ → ℕ → ℕ
weight_at f at tag = weight_of tag (tags_at f at)

-- What the input with this tag adds; 0 where no input has it.
unfoldable pub input_weight : List ℕ → ℕ → ℕ
input_weight f tag = weight_at f 0 tag

-- What the output with this tag adds; 0 where no output has it.
unfoldable pub output_weight : List ℕ → ℕ → ℕ
output_weight f tag = weight_at f (outputs_at f) tag

-- In a policy file there are no more than four, so these are the weights of the policy's own signals.
module _ (reading : ℕ) (f : List ℕ) (ok : refusal_under reading f ≡ 0) (tag : ℕ) where
  -- An input's weight is the one that the policy gives it.
  pub own_input : input_weight f tag ≡ weight_of tag (policy_of reading f).inputs
  unfolding policy_of input_weight
  own_input =
      let k = frame f ((under_none reading f).0 ok).1 in
      let l : length (input_tags f) ≤ 4 = omega (arith, inputs_length f k, k.inputs) in
      ap (weight_of tag) (take_all 4 (input_tags f) l)

  -- An output's weight is the one that the policy gives it.
  pub own_output : output_weight f tag ≡ weight_of tag (policy_of reading f).outputs
  unfolding policy_of output_weight
  own_output =
      let k = frame f ((under_none reading f).0 ok).1 in
      let l : length (output_tags f) ≤ 4 = omega (arith, outputs_length f k, k.outputs) in
      ap (weight_of tag) (take_all 4 (output_tags f) l)

-- A tag without a weight is not among the tags.
pub weight_none : (tag : ℕ) (ts : List ℕ) → weight_of tag ts ≡ 0 → among tag ts ≡ false
unfolding weight_of among
weight_none tag [] e = refl
weight_none tag (t ∷ ts) e = go (eqb t tag) (weight_none tag ts) e
  where
    go : (b : Bool) → (weight_of tag ts ≡ 0 → among tag ts ≡ false) → cond b 1 (2 * weight_of tag ts) ≡ 0 → (b || among tag ts) ≡ false
    go true h e = absurd (omega arith)
    go false h e = h (omega arith)

-- A tag with a weight is among them.
pub weight_some : (tag : ℕ) (ts : List ℕ) → (weight_of tag ts ≡ 0 → ⊥) → among tag ts ≡ true
unfolding weight_of among
weight_some tag [] h = absurd (h refl)
weight_some tag (t ∷ ts) h = go (eqb t tag) (weight_some tag ts) h
  where
    go : (b : Bool) → ((weight_of tag ts ≡ 0 → ⊥) → among tag ts ≡ true) → (cond b 1 (2 * weight_of tag ts) ≡ 0 → ⊥) → (b || among tag ts) ≡ true
    go true h z = refl
    go false h z = h (λ e. z (omega arith))

-- A weight is one bit, by the signal's place among the signals.
pub weight_bit : (tag : ℕ) (ts : List ℕ) → (weight_of tag ts ≡ 0 → ⊥) → (i : ℕ) × (i < length ts) × (weight_of tag ts ≡ 2 ^ i)
unfolding weight_of
weight_bit tag [] h = absurd (h refl)
weight_bit tag (t ∷ ts) h = go (eqb t tag) (weight_bit tag ts) h
  where
    go : (b : Bool) → ((weight_of tag ts ≡ 0 → ⊥) → (i : ℕ) × (i < length ts) × (weight_of tag ts ≡ 2 ^ i)) →
        (cond b 1 (2 * weight_of tag ts) ≡ 0 → ⊥) → (i : ℕ) × (i < suc (length ts)) × (cond b 1 (2 * weight_of tag ts) ≡ 2 ^ i)
    go true f z = (0, omega arith, refl)
    go false f z =
        let k = f (λ e. z (omega arith)) in
        (suc k.0, omega (arith, k.1), ap (λ (n : ℕ). 2 * n) k.2 ∙ mul_comm 2 (2 ^ k.0) ∙ sym (pow-suc 2 k.0))
