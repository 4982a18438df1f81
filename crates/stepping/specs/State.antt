-- "A state is a location and four clock values, unused ones zero": the code's own type. A place of a policy has a value for each of its clocks. The pair
-- of maps between them stands here.
use Rattle.std.specs.Prelude.{Bool, false, ◌&&◌, List, [], ◌∷◌, ℕ, leb, ltb, eqb, length, get_or, take}
use Rattle.policy.specs.Rules.{Policy, Place}
use Rattle.policy.specs.Check.{all_pass}
use Rattle.policy.specs.Number.{four}
use Rattle.stepping.specs.declared.state.State.{State}

-- The place that a state is, in a policy with so many clocks.
abbrev pub place : ℕ → State → Place
place clocks s = record { location = s.location; clocks = take clocks s.clocks }

-- The state that a place is: the clocks that it does not have are 0.
abbrev pub state_of : Place → State
state_of t = record { location = t.location; clocks = four t.clocks }

-- The place that a state is in the policy p.
abbrev pub place_in : Policy → State → Place
place_in p s = place (length p.ceilings) s

-- No clock value is out of range, and no unused clock is other than 0.
unfoldable pub clocks_good : List ℕ → List ℕ → Bool
clocks_good [] vs = all_pass (eqb 0) vs
clocks_good (c ∷ cs) [] = false
clocks_good (c ∷ cs) (v ∷ vs) = leb v c && clocks_good cs vs

-- The location is one of so many, and no clock is out of range.
abbrev pub in_range : ℕ → List ℕ → State → Bool
in_range locations ceilings s = ltb s.location locations && clocks_good ceilings s.clocks

-- The state is in the range of the policy p.
unfoldable pub state_good : Policy → State → Bool
state_good p s = in_range p.locations p.ceilings s

-- "with the byte 1 standing for live"
abbrev pub is_marked : List ℕ → ℕ → Bool
is_marked marks n = eqb (get_or marks n 0) 1
