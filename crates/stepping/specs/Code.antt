-- What the code's own types stand for, and the definitions that its leaves meet.
use Rattle.std.specs.Prelude.{cond, List, [], ◌∷◌, ℕ, suc, eqb, Option, Some, None}
use Rattle.std.proofs.Math.Option as math
use Rattle.streams.specs.Stream.{Event}
use Rattle.policy.specs.Rules.{Rule, Place, fires, stopped, advance}
use Rattle.policy.specs.Number.{location_from, clocks_from}
use Rattle.policy.specs.declared.Layout.{Layout}
use Rattle.stepping.specs.declared.state.State.{State}
use Rattle.stepping.specs.declared.state.Limits.{Limits}
use Rattle.stepping.specs.State.{state_of}

-- The event with the input x and the output y.
abbrev pub event_xy : ℕ → ℕ → Event
event_xy x y = record { x = x; y = y }

-- "Clocks: 0 to 4, a two-byte ceiling each, 1 to 1,001"; "Locations: 1 to 64"; "at most 65,536" states.
abbrev pub limits_said : Limits
limits_said = record { locations = 64; clocks = 4; ceiling = 1001; states = 65536 }

-- "The start state is location 0 with every clock 0."
abbrev pub start_state : State
start_state = record { location = 0; clocks = 0 ∷ 0 ∷ 0 ∷ 0 ∷ [] }

-- The state with the number n.
abbrev pub state_at : List ℕ → ℕ → ℕ → State
state_at cs clocks n = state_of (record { location = location_from cs clocks n; clocks = clocks_from cs clocks n })

-- The state that bounds see. All four clocks go on: an unused one stays at its ceiling 0.
abbrev pub seen_by : Layout → State → State
seen_by l s = cond (eqb l.reading 2) (record { location = s.location; clocks = advance stopped 0 l.ceilings s.clocks }) s

-- The number of the first rule that fires: the one that decides.
unfoldable pub decider : List Rule → Place → Event → math.Option ℕ
decider [] s e = math.none
decider (r ∷ rs) s e = cond (fires r s e) (math.some 0) (math.map suc (decider rs s e))

-- The number of the rule that the code found, if it found one.
abbrev pub found_said : Option ℕ → math.Option ℕ
found_said (Some i) = math.some i
found_said None = math.none

-- The state after a step, or none: a violation.
abbrev pub step_from : math.Option Place → Option State
step_from math.none = None
step_from (math.some t) = Some (state_of t)
