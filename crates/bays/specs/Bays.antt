-- "Up to eight filling bays shall share one policy and one set of marks, each with its own state in a list the station keeps": five numbers a bay, one
-- bay after the other.
use Rattle.std.specs.Prelude.{cond, ◌&&◌, List, ◌++◌, ℕ, ◌+◌, ◌*◌, ◌/◌, ◌%◌, leb, eqb, length, take, drop}
use Rattle.stepping.specs.Five.{state_words, state_in}
use Rattle.stepping.specs.declared.state.State.{State}

-- How many bays so many numbers are. Numbers that are not five for each of 1 to 8 bays hold no bay.
unfoldable pub bays_in : ℕ → ℕ
bays_in n = cond (eqb (n % 5) 0 && leb n 40) (n / 5) 0

-- How many bays a list holds.
abbrev pub bay_count : List ℕ → ℕ
bay_count states = bays_in (length states)

-- A bay's five numbers, and its state.
abbrev pub numbers_of : List ℕ → ℕ → List ℕ
numbers_of states bay = take 5 (drop (bay * 5) states)

-- The state of a bay.
abbrev pub bay_state : List ℕ → ℕ → State
bay_state states bay = state_in (numbers_of states bay)

-- The list with the state s for the bay.
abbrev pub with_state : List ℕ → ℕ → State → List ℕ
with_state states bay s = take (bay * 5) states ++ (state_words s ++ drop (bay * 5 + 5) states)
