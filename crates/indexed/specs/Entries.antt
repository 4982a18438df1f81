-- What the halves that use an index answer, for any bytes, index, marks, state and events.
use Rattle.std.specs.Prelude.{List, ℕ, zero, suc}
use Rattle.streams.specs.Answer.{Answer, refused, answer, ◌or_else◌, unless}
use Rattle.policy.specs.Check.{refusal_under}
use Rattle.policy.specs.Layout.{layout_of}
use Rattle.policy.specs.declared.Layout.{Layout}
use Rattle.index.specs.Index.{is_index}
use Rattle.enforcer.specs.Entries.{OutputAnswer, marks_refusal, input_of, output_of}
use Rattle.stepping.specs.declared.state.State.{State}

-- What a refusal gives, or without one the answer.
abbrev pub refused_or : {A : Type 0} → ℕ → (ℕ → A) → A → A
refused_or zero by a = a
refused_or (suc n) by a = by (suc n)

-- "Refusals: 28 for a wrong index, after 9."
unfoldable pub index_refusal : ℕ → List ℕ → List ℕ → ℕ
index_refusal reading file index = refusal_under reading file or_else unless (is_index file index) 28

module _ (reading : ℕ) (file index marks : List ℕ) where
  -- All that is refused before the state is looked at.
  unfoldable pub early_refusal : ℕ
  early_refusal = index_refusal reading file index or_else marks_refusal reading file marks

  -- The layout of a file that passes under the reading, where the index is the file's and there is a mark for each state.
  unfoldable pub layout_by_index : Answer Layout
  layout_by_index = answer early_refusal (layout_of reading file)

  module _ (s : State) where
    -- Past 28 the answer is that of the half without an index: 10 and the rest in their order.
    unfoldable pub input_indexed_of : ℕ → Answer ℕ
    input_indexed_of x = refused_or (index_refusal reading file index) refused (input_of reading file marks s x)

    -- Past 28 the output half answers as it does without an index; a refusal hands the state back.
    unfoldable pub output_indexed_of : ℕ → ℕ → OutputAnswer
    output_indexed_of x y = refused_or (index_refusal reading file index) (λ n. record { answer = refused n; state = s }) (output_of reading file marks s x y)
