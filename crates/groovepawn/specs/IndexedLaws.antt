-- The functions with an index answer as those without; each answer comes back from its word.
use Rattle.std.specs.Prelude.{◌≡◌, Bool, List}
use Rattle.std.proofs.Math.Path.{refl, ap}
use Rattle.std.proofs.Math.Bool.{true, false, cond}
use Prim.Native.Nat.{ℕ, zero, suc, ◌%◌, ◌≤◌, ◌<◌}
use native.Mathlib.Omega.{arith}
use Rattle.std.proofs.Common.{eqb-true}
use Rattle.streams.specs.Answer.{Answer, refused, gives, ◌or_else◌, UpTo}
use Rattle.policy.specs.File.{policy_of}
use Rattle.index.specs.Index.{index_of}
use Rattle.index.specs.Entry.{build_refusal, build_le}
use Rattle.stepping.specs.State.{place_in}
use Rattle.stepping.specs.Tick.{ReleasedTick, output_tick}
use Rattle.enforcer.specs.Entries.{OutputAnswer, chosen, output_from, output_refusal, output_of}
use Rattle.indexed.specs.Entries.{refused_or, index_refusal, early_refusal, input_indexed_of, output_indexed_of}
use Rattle.indexed.specs.Same.{input_same, output_same, early_same, early_le, input_up_to_28, output_up_to_28}
use Rattle.stepping.specs.Five.{state_words, state_in, words_back}
use Rattle.bays.specs.Odd.{odd_refusal}
use Rattle.groovepawn.specs.Words.{answer_word, is_state, input_word, output_word, output_state}
use Rattle.groovepawn.specs.Fields.{answer_in, answer_back}
use Rattle.groovepawn.specs.Indexed.{input_indexed_word, odd_indexed, output_indexed_state, output_indexed_word}

-- The refusal of `groovepawn_index` is a number of eight bits.
pub index_fields : (file index : List ℕ) → build_refusal file index % 256 ≡ build_refusal file index
index_fields file index = let h = build_le file index in omega arith

module _ (reading : ℕ) (file index marks state : List ℕ) where
  -- With the file's index, numbers that are no state are refused as without an index.
  odd_same : index ≡ index_of file → odd_indexed reading file index marks ≡ odd_refusal reading file marks true
  unfolding odd_indexed odd_refusal
  odd_same e = ap (λ (n : ℕ). n or_else 16) (early_same reading file index marks e)

  -- The input half with the file's index returns what the one without returns.
  pub input_call_same : index ≡ index_of file → (x : ℕ) → input_indexed_word reading file index marks state x ≡ input_word reading file marks state x
  unfolding input_indexed_word input_word
  input_call_same e x = rw (input_same reading file index marks (state_in state) e x, odd_same e)

  -- The output half with the file's index returns what the one without returns, and leaves the same state.
  pub output_call_same : index ≡ index_of file → (x y : ℕ) →
      (output_indexed_word reading file index marks state x y ≡ output_word reading file marks state x y)
      × (output_indexed_state reading file index marks state x y ≡ output_state reading file marks state x y)
  unfolding output_indexed_word output_word output_indexed_state output_state
  output_call_same e x y =
      let o = output_same reading file index marks (state_in state) e x y in
      (rw (o, odd_same e), rw o)

  odd_small : (0 < odd_indexed reading file index marks) × (odd_indexed reading file index marks ≤ 28)
  unfolding odd_indexed
  odd_small = go (early_refusal reading file index marks) (early_le reading file index marks)
    where
      go : (n : ℕ) → n ≤ 28 → (0 < (n or_else 16)) × ((n or_else 16) ≤ 28)
      go zero h = (omega arith, omega arith)
      go (suc n) h = (omega arith, h)

  -- Each answer comes back from its word.
  half_back : (t : Bool) (a : Answer ℕ) → UpTo 28 a →
      answer_in (cond t (answer_word a) (odd_indexed reading file index marks)) ≡ cond t a (refused (odd_indexed reading file index marks))
  half_back true a h = answer_back a 28 (omega arith) h
  half_back false a h = answer_back (refused (odd_indexed reading file index marks)) 28 (omega arith) odd_small

  -- What the input half's word holds: its answer, or the refusal of a state that is not five numbers.
  pub input_indexed_fields : (x : ℕ) →
      answer_in (input_indexed_word reading file index marks state x)
      ≡ cond (is_state state) (input_indexed_of reading file index marks (state_in state) x) (refused (odd_indexed reading file index marks))
  unfolding input_indexed_word
  input_indexed_fields x = half_back (is_state state) _ (input_up_to_28 reading file index marks (state_in state) x)

  -- What the output half's word holds: its answer, or the refusal of a state that is not five numbers.
  pub output_indexed_fields : (x y : ℕ) →
      answer_in (output_indexed_word reading file index marks state x y)
      ≡ cond (is_state state) (output_indexed_of reading file index marks (state_in state) x y).answer (refused (odd_indexed reading file index marks))
  unfolding output_indexed_word
  output_indexed_fields x y = half_back (is_state state) _ (output_up_to_28 reading file index marks (state_in state) x y)

  -- With a refusal the lent state stays.
  pub output_indexed_stays : (x y : ℕ) → (output_indexed_word reading file index marks state x y % 256 ≡ 0 → ⊥) → output_indexed_state reading file index marks state x y ≡ state
  unfolding output_indexed_word output_indexed_state output_indexed_of output_of
  output_indexed_stays x y =
      let p = policy_of reading file in
      let s = state_in state in
      go (is_state state) refl (index_refusal reading file index) (chosen (output_refusal reading file marks s x y) (output_tick p marks (place_in p s) x y))
    where
      go : (t : Bool) → is_state state ≡ t → (n : ℕ) (a : Answer ReleasedTick) →
          let o = refused_or {A = OutputAnswer} n (λ i. record { answer = refused i; state = state_in state }) (output_from (state_in state) a) in
          (cond t (answer_word o.answer) (odd_indexed reading file index marks) % 256 ≡ 0 → ⊥) → cond t (state_words o.state) state ≡ state
      go false e n a h = refl
      go true e (suc n) a h = words_back state (eqb-true _ _ e)
      go true e zero (refused n) h = words_back state (eqb-true _ _ e)
      go true e zero (gives r) h = absurd (h (omega arith))
