-- What the entries of the bays answer, for any bytes, marks, list, bay and values.
use Rattle.std.specs.Prelude.{Bool, cond, List, [], ◌++◌, ℕ, zero, suc, ltb}
use Rattle.streams.specs.Answer.{Answer, refused, ◌or_else◌, unless}
use Rattle.enforcer.specs.Entries.{OutputAnswer, marks_refusal, input_of, output_of}
use Rattle.stepping.specs.Code.{start_state}
use Rattle.stepping.specs.Five.{state_words}
use Rattle.bays.specs.Bays.{bay_count, bay_state, with_state}

-- "25 for a count of 0 or above 8, when the list is made"
unfoldable pub new_refusal : List ℕ → ℕ
new_refusal states = unless (ltb 0 (bay_count states)) 25

-- The numbers of so many bays at the start.
unfoldable pub started : ℕ → List ℕ
started zero = []
started (suc n) = started n ++ state_words start_state

-- "making a new list starts every bay afresh". A refusal writes nothing.
unfoldable pub new_states : List ℕ → List ℕ
new_states states = cond (ltb 0 (bay_count states)) (started (bay_count states)) states

-- What the output half answers, and what the list holds then.
pub record BayAnswer : Type 0 where
  pub answer : Answer ℕ
  pub states : List ℕ

-- The bay's state becomes the one that the output half hands back: where that refuses, the same.
abbrev pub moved : List ℕ → ℕ → OutputAnswer → BayAnswer
moved states bay r = record { answer = r.answer; states = with_state states bay r.state }

module _ (reading : ℕ) (file marks : List ℕ) where
  -- "24 for a bay not below the count, after 10": after 22, 1 to 9 and 10.
  unfoldable pub no_bay : ℕ
  no_bay = marks_refusal reading file marks or_else 24

  module _ (states : List ℕ) (bay : ℕ) where
    -- The bay is below the count.
    abbrev pub is_bay : Bool
    is_bay = ltb bay (bay_count states)

    -- The halves, of the bay's own state: their own refusals but 22 and 1 to 10 come after 24.
    unfoldable pub bay_input_of : ℕ → Answer ℕ
    bay_input_of x = cond is_bay (input_of reading file marks (bay_state states bay) x) (refused no_bay)

    -- The output half of the bay: its answer, and the list then.
    unfoldable pub bay_output_of : ℕ → ℕ → BayAnswer
    bay_output_of x y =
        cond is_bay (moved states bay (output_of reading file marks (bay_state states bay) x y)) (record { answer = refused no_bay; states = states })
