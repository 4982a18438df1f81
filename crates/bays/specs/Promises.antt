-- The whole promise of each entry of the bays, under one name, and that one answer and one later list alone meet it.
use Rattle.std.specs.Prelude.{◌≡◌, List, ℕ}
use Rattle.std.proofs.Common.{sym, ap, ◌∙◌}
use Rattle.streams.specs.Answer.{Answer}
use Rattle.bays.specs.Entries.{BayAnswer, new_refusal, new_states, bay_input_of, bay_output_of}

-- `before` and `after` are what the lent list holds.
pub record NewPromise (before : List ℕ) (r : ℕ) (after : List ℕ) : Type 0 where
  pub said : r ≡ new_refusal before
  pub states : after ≡ new_states before

-- The input half of a bay answers what Entries says.
pub record BayInputPromise (reading : ℕ) (file marks states : List ℕ) (bay x : ℕ) (r : Answer ℕ) : Type 0 where
  pub said : r ≡ bay_input_of reading file marks states bay x

-- The output half of a bay answers what Entries says; `after` is what the list holds then.
pub record BayOutputPromise (reading : ℕ) (file marks states : List ℕ) (bay x y : ℕ) (r : Answer ℕ) (after : List ℕ) : Type 0 where
  pub said : record { answer = r; states = after } ≡ bay_output_of reading file marks states bay x y

-- One answer and one later list alone meet the promise of a new list.
pub new_one : {before after also : List ℕ} {r q : ℕ} → NewPromise before r after → NewPromise before q also → (r ≡ q) × (after ≡ also)
new_one h g = (h.said ∙ sym g.said, h.states ∙ sym g.states)

module _ {reading : ℕ} {file marks states : List ℕ} {bay x : ℕ} {r q : Answer ℕ} where
  -- One answer alone meets the promise of a bay's input half.
  pub bay_input_one : BayInputPromise reading file marks states bay x r → BayInputPromise reading file marks states bay x q → r ≡ q
  bay_input_one h g = h.said ∙ sym g.said

  -- One answer and one later list alone meet the promise of a bay's output half.
  pub bay_output_one : {y : ℕ} {after also : List ℕ} →
      BayOutputPromise reading file marks states bay x y r after → BayOutputPromise reading file marks states bay x y q also → (r ≡ q) × (after ≡ also)
  bay_output_one h g =
      let e = h.said ∙ sym g.said in
      (ap (λ (z : BayAnswer). z.answer) e, ap (λ (z : BayAnswer). z.states) e)
