-- The calls that build an index or use one: what each returns, and what the lent slices hold then.
use Rattle.std.specs.Prelude.{◌≡◌, cond, List, ℕ}
use Rattle.std.proofs.Common.{sym, ◌∙◌}
use Rattle.streams.specs.Answer.{◌or_else◌}
use Rattle.index.specs.Entry.{build_refusal, built_index}
use Rattle.indexed.specs.Entries.{early_refusal, input_indexed_of, output_indexed_of}
use Rattle.stepping.specs.Five.{state_words, state_in}
use Rattle.groovepawn.specs.Words.{answer_word, is_state}

-- Numbers that are not five are no state: 16 in its place in the order, after 22, 1 to 9, 28 and 10.
unfoldable pub odd_indexed : ℕ → List ℕ → List ℕ → List ℕ → ℕ
odd_indexed reading file index marks = early_refusal reading file index marks or_else 16

module _ (reading : ℕ) (file index marks state : List ℕ) where
  -- The word that the input half returns.
  unfoldable pub input_indexed_word : ℕ → ℕ
  input_indexed_word x = cond (is_state state) (answer_word (input_indexed_of reading file index marks (state_in state) x)) (odd_indexed reading file index marks)

  -- The word that the output half returns.
  unfoldable pub output_indexed_word : ℕ → ℕ → ℕ
  output_indexed_word x y = cond (is_state state) (answer_word (output_indexed_of reading file index marks (state_in state) x y).answer) (odd_indexed reading file index marks)

  -- What the lent state holds after the output half.
  unfoldable pub output_indexed_state : ℕ → ℕ → List ℕ
  output_indexed_state x y = cond (is_state state) (state_words (output_indexed_of reading file index marks (state_in state) x y).state) state

-- r is what the call returns, and `after` what the slice for the index holds then.
pub record IndexCall (file before : List ℕ) (r : ℕ) (after : List ℕ) : Type 0 where
  pub said : r ≡ build_refusal file before
  pub index : after ≡ built_index file before

-- r is what the input half with an index returns.
pub record InputIndexedCall (reading : ℕ) (file index marks state : List ℕ) (x r : ℕ) : Type 0 where
  pub said : r ≡ input_indexed_word reading file index marks state x

-- `after` is what the lent state holds then.
pub record OutputIndexedCall (reading : ℕ) (file index marks state : List ℕ) (x y r : ℕ) (after : List ℕ) : Type 0 where
  pub said : r ≡ output_indexed_word reading file index marks state x y
  pub next : after ≡ output_indexed_state reading file index marks state x y

-- One answer alone meets `IndexCall`, and one later content of the slice for the index.
pub index_one : {file before after also : List ℕ} {r q : ℕ} → IndexCall file before r after → IndexCall file before q also → (r ≡ q) × (after ≡ also)
index_one h g = (h.said ∙ sym g.said, h.index ∙ sym g.index)

-- One answer alone meets `InputIndexedCall`.
pub input_one : {reading : ℕ} {file index marks state : List ℕ} {x r q : ℕ} →
    InputIndexedCall reading file index marks state x r → InputIndexedCall reading file index marks state x q → r ≡ q
input_one h g = h.said ∙ sym g.said

-- One answer alone meets `OutputIndexedCall`, and one later state.
pub output_one : {reading : ℕ} {file index marks state after also : List ℕ} {x y r q : ℕ} →
    OutputIndexedCall reading file index marks state x y r after → OutputIndexedCall reading file index marks state x y q also → (r ≡ q) × (after ≡ also)
output_one h g = (h.said ∙ sym g.said, h.next ∙ sym g.next)
