-- The rule that decides an event, by where it stands in the file.
use Rattle.std.specs.Prelude.{◌≡◌, List, ℕ, Option, Some, None, IfSome}
use Rattle.std.proofs.Math.Option as math
use Rattle.streams.specs.Stream.{Event}
use Rattle.policy.specs.Rules.{Rule, stopped, decides, looked}
use Rattle.policy.specs.File.{policy_of, rule_from}
use Rattle.policy.specs.declared.Layout.{Layout}
use Rattle.stepping.specs.State.{place}
use Rattle.stepping.specs.RuleAhead.{RuleAt}
use Rattle.stepping.specs.declared.state.State.{State}

-- The rule at the position that the code found, if it found one.
abbrev pub rule_said : ℕ → List ℕ → Option ℕ → math.Option Rule
rule_said clocks f (Some at) = math.some (rule_from clocks f at)
rule_said clocks f None = math.none

-- The rule found, if there is one, is the location's, and lies within the file.
abbrev pub Stands : List ℕ → Layout → ℕ → Option ℕ → Type 0
Stands f l a r = IfSome r (RuleAt f l a)

-- "The first rule decides".
pub record Decided (f : List ℕ) (l : Layout) (s : State) (e : Event) (r : Option ℕ) : Type 0 where
  pub says : rule_said l.clocks f r ≡ decides (policy_of l.reading f).rules (looked stopped (policy_of l.reading f) (place l.clocks s)) e
  pub stands : Stands f l s.location r
