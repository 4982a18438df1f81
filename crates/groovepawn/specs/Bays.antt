-- The calls for several bays: each one's word and what the list holds then, and that one answer alone meets it.
use Rattle.std.specs.Prelude.{◌≡◌, List, ℕ}
use Rattle.std.proofs.Common.{sym, ◌∙◌}
use Rattle.bays.specs.Entries.{new_refusal, new_states, bay_input_of, bay_output_of}
use Rattle.groovepawn.specs.Words.{answer_word}

-- `after` is what the list holds then.
pub record NewCall (before : List ℕ) (r : ℕ) (after : List ℕ) : Type 0 where
  pub said : r ≡ new_refusal before
  pub states : after ≡ new_states before

-- r is what the input half of one bay returns.
pub record BayInputCall (reading : ℕ) (file marks states : List ℕ) (bay x r : ℕ) : Type 0 where
  pub said : r ≡ answer_word (bay_input_of reading file marks states bay x)

-- r is what the output half of one bay returns, and `after` what the list of states holds then.
pub record BayOutputCall (reading : ℕ) (file marks states : List ℕ) (bay x y r : ℕ) (after : List ℕ) : Type 0 where
  pub said : r ≡ answer_word (bay_output_of reading file marks states bay x y).answer
  pub next : after ≡ (bay_output_of reading file marks states bay x y).states

-- One answer alone meets `NewCall`, and one later content of the list.
pub new_one : {before after also : List ℕ} {r q : ℕ} → NewCall before r after → NewCall before q also → (r ≡ q) × (after ≡ also)
new_one h g = (h.said ∙ sym g.said, h.states ∙ sym g.states)

module _ {reading : ℕ} {file marks states : List ℕ} {bay x r q : ℕ} where
  -- One answer alone meets `BayInputCall`.
  pub bay_input_one : BayInputCall reading file marks states bay x r → BayInputCall reading file marks states bay x q → r ≡ q
  bay_input_one h g = h.said ∙ sym g.said

  -- One answer alone meets `BayOutputCall`, and one later content of the list.
  pub bay_output_one : {y : ℕ} {after also : List ℕ} →
      BayOutputCall reading file marks states bay x y r after → BayOutputCall reading file marks states bay x y q also → (r ≡ q) × (after ≡ also)
  bay_output_one h g = (h.said ∙ sym g.said, h.next ∙ sym g.next)
