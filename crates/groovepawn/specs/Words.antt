-- An answer as one number: the refusal's number in the low eight bits, 0 for none, and above it what is given, or 0 where something is refused.
use Rattle.std.specs.Prelude.{Bool, true, cond, not, List, ℕ, ◌+◌, ◌*◌, ◌%◌, ◌^◌, eqb, leb, length}
use Rattle.streams.specs.Answer.{Answer, refused, gives}
use Rattle.enforcer.specs.Entries.{RunAnswer, input_of, output_of, run_of}
use Rattle.prepare.specs.Entry.{prepare_of}
use Rattle.prepare.specs.declared.Summary.{Summary}
use Rattle.join.specs.Entry.{join_of}
use Rattle.ticks.specs.Conversion.{ticks_of}
use Rattle.stepping.specs.Five.{state_words, state_in}
use Rattle.bays.specs.Odd.{odd_refusal}

-- The word of an answer: its refusal, or what is given from bit 8 on.
abbrev pub answer_word : Answer ℕ → ℕ
answer_word (refused n) = n
answer_word (gives v) = v * 256

-- The verdict from bit 8 on, the number of states from bit 16 on, and the number of live ones from bit 40 on.
abbrev pub summary_word : Answer Summary → ℕ
summary_word (refused n) = n
summary_word (gives s) = s.verdict * 256 + s.states * 65536 + s.live * 1099511627776

-- "run adds the count released .., for every refusal". The 56 bits above the refusal hold it modulo 2 ^ 56.
abbrev pub ran_word : RunAnswer → ℕ
ran_word r = r.refusal + r.count % 2 ^ 56 * 256

-- A state is five numbers.
abbrev pub is_state : List ℕ → Bool
is_state s = eqb (length s) 5

-- The word that prepare returns.
unfoldable pub prepare_word : ℕ → List ℕ → List ℕ → ℕ
prepare_word reading file marks = summary_word (prepare_of reading file marks)

-- The halves and the run: what each returns, and what the lent slices hold then.
module _ (reading : ℕ) (file marks state : List ℕ) where
  -- The word that the input half returns.
  unfoldable pub input_word : ℕ → ℕ
  input_word x = cond (is_state state) (answer_word (input_of reading file marks (state_in state) x)) (odd_refusal reading file marks true)

  -- The word that the output half returns.
  unfoldable pub output_word : ℕ → ℕ → ℕ
  output_word x y = cond (is_state state) (answer_word (output_of reading file marks (state_in state) x y).answer) (odd_refusal reading file marks true)

  -- What the lent state holds after the output half.
  unfoldable pub output_state : ℕ → ℕ → List ℕ
  output_state x y = cond (is_state state) (state_words (output_of reading file marks (state_in state) x y).state) state

  module _ (events out : List ℕ) where
    -- The word that a run returns.
    unfoldable pub run_word : ℕ
    run_word =
        cond (is_state state) (ran_word (run_of reading file marks (state_in state) events out))
        (odd_refusal reading file marks (leb (length events) (length out)))

    -- What the lent state holds after a run.
    unfoldable pub run_state : List ℕ
    run_state = cond (is_state state) (state_words (run_of reading file marks (state_in state) events out).state) state

    -- What the slice for the released events holds after a run.
    unfoldable pub run_out : List ℕ
    run_out = cond (is_state state) (run_of reading file marks (state_in state) events out).out out

-- The word that a join returns.
unfoldable pub join_word : List ℕ → List ℕ → List ℕ → ℕ
join_word a b out = answer_word (join_of a b out)

-- 0 stands for down, and every other number for up.
abbrev pub is_up : ℕ → Bool
is_up n = not (eqb n 0)

-- The word that the conversion into ticks returns.
unfoldable pub ticks_word : ℕ → ℕ → ℕ → ℕ
ticks_word time tick up = answer_word (ticks_of time tick (is_up up))
