-- A bay is there, or it is not: what the halves answer then.
use Rattle.std.specs.Prelude.{◌≡◌, List, ℕ, ◌≤◌, ◌<◌}
use Rattle.std.proofs.Common.{lt-ltb, le-ltb}
use Rattle.streams.specs.Answer.{refused}
use Rattle.enforcer.specs.Entries.{input_of, output_of}
use Rattle.bays.specs.Bays.{bay_count, bay_state}
use Rattle.bays.specs.Entries.{moved, no_bay, bay_input_of, bay_output_of}

module _ (reading : ℕ) (file marks states : List ℕ) (bay : ℕ) where
  -- The input half of a bay that is there is that of its own state.
  pub input_there : bay < bay_count states → (x : ℕ) → bay_input_of reading file marks states bay x ≡ input_of reading file marks (bay_state states bay) x
  unfolding bay_input_of
  input_there h x = rw (lt-ltb bay (bay_count states) h)

  -- The output half of a bay that is there is that of its own state, which moves.
  pub output_there :
      bay < bay_count states → (x y : ℕ) →
      bay_output_of reading file marks states bay x y ≡ moved states bay (output_of reading file marks (bay_state states bay) x y)
  unfolding bay_output_of
  output_there h x y = rw (lt-ltb bay (bay_count states) h)

  -- "24 for a bay not below the count, after 10", and the list stays.
  pub input_none : (x : ℕ) → bay_count states ≤ bay → bay_input_of reading file marks states bay x ≡ refused (no_bay reading file marks)
  unfolding bay_input_of
  input_none x h = rw (le-ltb bay (bay_count states) h)

  -- The output half refuses a bay that is not there by the same number.
  pub output_none :
      (x y : ℕ) → bay_count states ≤ bay →
      bay_output_of reading file marks states bay x y ≡ record { answer = refused (no_bay reading file marks); states = states }
  unfolding bay_output_of
  output_none x y h = rw (le-ltb bay (bay_count states) h)
