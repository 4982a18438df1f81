-- What the proofs cite of a step to a marked state.
use Rattle.std.specs.Prelude as Code
use Rattle.std.specs.Option.{IfSome}
use mathlib.Core.Path.{◌≡◌, refl}
use mathlib.Core.Bool.{Bool, true, false, cond}
use mathlib.Core.List.{List}
use mathlib.Core.Option.{none}
use Prim.Native.Nat.{ℕ, ◌<◌}
use native.Mathlib.Omega.{arith}
use lib.ListN.{length}
use Rattle.policy.specs.Rules.{stopped, step}
use Rattle.policy.specs.File.{policy_of}
use Rattle.policy.specs.declared.Layout.{Layout}
use Rattle.stepping.specs.Tick.{reaches}
use Rattle.stepping.specs.Code.{event_xy, step_from}
use Rattle.stepping.specs.State.{place}
use Rattle.stepping.specs.Ready.{Standing}
use Rattle.stepping.specs.Laid.{Numbered, laid_well, reaches_next}
use Rattle.correcting.specs.Arrived.{four_number, if_marked, arrival, arrival_never}
use Rattle.stepping.specs.declared.state.State.{State}

-- By the step to the next state: its number is one of the policy's, and the event arrives if it is marked.
module _ {f : List ℕ} {l : Layout} {marks : List ℕ} {s : State} (k : Standing f l marks s) (x y : ℕ) where
  abbrev stepped : Code.Option State
  stepped = step_from (step stopped (policy_of l.reading f) (place l.clocks s) (event_xy x y))

  numbered : {t : State} → Code.Some t ≡ stepped → Numbered l.reading f marks (four_number l t) (reaches (policy_of l.reading f) marks (place l.clocks s) x y)
  numbered e = reaches_next k.laid marks s x y e k.inside

  pub next_fits : (o : Code.Option State) → o ≡ stepped → IfSome o (λ t. (four_number l t < 65536) × (four_number l t < length marks))
  next_fits Code.None e = tt
  next_fits (Code.Some t) e = let n = numbered e in omega (arith, n.number, (laid_well k.laid).states, k.enough)

  pub marked_arrives : (o : Code.Option State) → o ≡ stepped → if_marked l marks o ≡ step_from (arrival (policy_of l.reading f) marks (place l.clocks s) x y)
  unfolding arrival
  marked_arrives Code.None e = arrival_never (policy_of l.reading f) marks (place l.clocks s) x y e
  marked_arrives (Code.Some t) e = rw ((numbered e).mark) (by (reaches (policy_of l.reading f) marks (place l.clocks s) x y))
    where
      by : (b : Bool) → cond b (Code.Some t) Code.None ≡ step_from (cond b (step stopped (policy_of l.reading f) (place l.clocks s) (event_xy x y)) none)
      by true = e
      by false = refl
