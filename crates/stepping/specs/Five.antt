-- A state as five numbers.
use Rattle.std.specs.Prelude.{◌≡◌, List, [], ◌∷◌, ℕ, length, get_or, set, take, drop}
use Rattle.std.proofs.Common.{sym, ap, subst, ◌∙◌, arith, take-suc, take_all}
use Rattle.stepping.specs.declared.state.State.{State}

-- "A state is a location and four clock values": five numbers, in this order.
abbrev pub state_words : State → List ℕ
state_words s = s.location ∷ s.clocks

-- The state in five numbers.
abbrev pub state_in : List ℕ → State
state_in s = record { location = get_or s 0 0; clocks = get_or s 1 0 ∷ get_or s 2 0 ∷ get_or s 3 0 ∷ get_or s 4 0 ∷ [] }

-- Five numbers are those of the state in them, and the state in the numbers of a state is that state.
pub words_back : (s : List ℕ) → length s ≡ 5 → state_words (state_in s) ≡ s
words_back s e =
    let each : take 5 s ≡ state_words (state_in s) = rw (take-suc s 4 0 (omega arith), take-suc s 3 0 (omega arith), take-suc s 2 0 (omega arith), take-suc s 1 0 (omega arith), take-suc s 0 0 (omega arith)) in
    sym each ∙ take_all 5 s (omega arith)

-- A state with four clock values comes back from its numbers.
pub words_in : (t : State) → length t.clocks ≡ 4 → state_in (state_words t) ≡ t
words_in t e =
    let five : length (state_words t) ≡ 5 = omega arith in
    ap (λ (l : List ℕ). record { location = get_or l 0 0; clocks = drop 1 l }) (words_back (state_words t) five)

-- Five stores leave the numbers stored.
pub words_put : (s cs : List ℕ) (location : ℕ) → length s ≡ 5 → length cs ≡ 4 →
    set (set (set (set (set s 0 location) 1 (get_or cs 0 0)) 2 (get_or cs 1 0)) 3 (get_or cs 2 0)) 4 (get_or cs 3 0) ≡ location ∷ cs
words_put s cs location e l =
    let five : length (location ∷ cs) ≡ 5 = omega arith in
    subst (λ (t : List ℕ). set (set (set (set (set t 0 location) 1 (get_or cs 0 0)) 2 (get_or cs 1 0)) 3 (get_or cs 2 0)) 4 (get_or cs 3 0) ≡ location ∷ cs)
    (words_back s e) (words_back (location ∷ cs) five)
