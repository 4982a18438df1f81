-- A place of a policy as clocks that stop at their ceilings show it.
use Rattle.std.specs.Prelude.{List, [], ◌∷◌, ℕ, min}
use Rattle.std.proofs.Math.Option.{Option, none, some}
use Rattle.policy.specs.Rules.{Policy, Place}

-- Each clock no further than its ceiling.
unfoldable pub mins : List ℕ → List ℕ → List ℕ
mins [] vs = []
mins (c ∷ cs) [] = []
mins (c ∷ cs) (v ∷ vs) = min v c ∷ mins cs vs

-- The place that the stopped clocks show.
abbrev pub stop : Policy → Place → Place
stop p s = record { location = s.location; clocks = mins p.ceilings s.clocks }

-- What the stopped clocks show of a place, or of a violation.
unfoldable pub shown : Policy → Option Place → Option Place
shown p none = none
shown p (some s) = some (stop p s)
