-- How large a refusal of the bays can be; each answer comes back from its word.
use Rattle.std.specs.Prelude.{◌≡◌, refl, Bool, cond, List, ltb}
use Rattle.std.proofs.Math.Bool.{true, false}
use Prim.Native.Nat.{ℕ, zero, suc, ◌%◌, ◌<◌, ◌≤◌}
use native.Mathlib.Omega.{arith}
use Rattle.streams.specs.Answer.{Answer, refused, gives, ◌or_else◌, UpTo}
use Rattle.enforcer.specs.Entries.{marks_refusal, input_of, output_of}
use Rattle.enforcer.specs.Refusals.{marks_le, input_up_to, output_up_to}
use Rattle.bays.specs.Bays.{bay_count, bay_state}
use Rattle.bays.specs.Entries.{moved, no_bay, bay_input_of, bay_output_of}
use Rattle.bays.specs.Halves.{refused_stays}
use Rattle.groovepawn.specs.Words.{answer_word}
use Rattle.groovepawn.specs.Fields.{answer_in, answer_back}

module _ (reading : ℕ) (file marks states : List ℕ) (bay : ℕ) where
  -- A bay that is not there is refused, by a number up to 24; so no refusal of the bays is above 24.
  none_some : (0 < no_bay reading file marks) × (no_bay reading file marks ≤ 24)
  unfolding no_bay
  none_some = go (marks_refusal reading file marks) (marks_le reading file marks)
    where
      go : (n : ℕ) → n ≤ 22 → (0 < (n or_else 24)) × ((n or_else 24) ≤ 24)
      go zero l = (omega arith, omega arith)
      go (suc n) l = (omega arith, omega arith)

  wider : (a : Answer ℕ) → UpTo 22 a → UpTo 24 a
  wider (refused n) h = (h.0, omega arith)
  wider (gives v) h = tt

  -- The input half of a bay refuses by a number from 1 to 24, if at all.
  pub bay_input_up_to : (x : ℕ) → UpTo 24 (bay_input_of reading file marks states bay x)
  unfolding bay_input_of
  bay_input_up_to x = go (ltb bay (bay_count states))
    where
      go : (t : Bool) → UpTo 24 (cond t (input_of reading file marks (bay_state states bay) x) (refused (no_bay reading file marks)))
      go true = wider (input_of reading file marks (bay_state states bay) x) (input_up_to reading file marks (bay_state states bay) x)
      go false = none_some

  -- The output half of a bay refuses by a number from 1 to 24, if at all.
  pub bay_output_up_to : (x y : ℕ) → UpTo 24 (bay_output_of reading file marks states bay x y).answer
  unfolding bay_output_of
  bay_output_up_to x y = go (ltb bay (bay_count states))
    where
      go : (t : Bool) →
          UpTo 24
          (cond t (moved states bay (output_of reading file marks (bay_state states bay) x y)) (record { answer = refused (no_bay reading file marks); states = states })
          ).answer
      go true = wider (output_of reading file marks (bay_state states bay) x y).answer (output_up_to reading file marks (bay_state states bay) x y)
      go false = none_some

  -- What is answered comes back from the word.
  pub bay_input_fields : (x : ℕ) → answer_in (answer_word (bay_input_of reading file marks states bay x)) ≡ bay_input_of reading file marks states bay x
  bay_input_fields x = answer_back (bay_input_of reading file marks states bay x) 24 (omega arith) (bay_input_up_to x)

  -- The answer of the output half comes back from its word.
  pub bay_output_fields : (x y : ℕ) →
      answer_in (answer_word (bay_output_of reading file marks states bay x y).answer) ≡ (bay_output_of reading file marks states bay x y).answer
  bay_output_fields x y = answer_back (bay_output_of reading file marks states bay x y).answer 24 (omega arith) (bay_output_up_to x y)

  -- With a refusal, read off the word's low eight bits, the list stays.
  pub bay_output_stays :
      (x y : ℕ) → (answer_word (bay_output_of reading file marks states bay x y).answer % 256 ≡ 0 → ⊥) → (bay_output_of reading file marks states bay x y).states ≡ states
  bay_output_stays x y = go (bay_output_of reading file marks states bay x y).answer refl
    where
      go : (a : Answer ℕ) → (bay_output_of reading file marks states bay x y).answer ≡ a → (answer_word a % 256 ≡ 0 → ⊥) →
          (bay_output_of reading file marks states bay x y).states ≡ states
      go (refused n) e h = refused_stays reading file marks states bay x y e
      go (gives v) e h = absurd (h (omega arith))
