-- What the tick's functions ask: a file that was checked, its layout, marks for each state, and a state in range.
use Rattle.std.specs.Prelude.{◌≡◌, List, ℕ, ◌≤◌, length}
use Rattle.std.proofs.Common.{sym, ap, ap₂, subst, ◌∙◌}
use Rattle.policy.specs.File.{policy_of, rules_of, input_count, output_count, clock_count, location_count, rule_count, rules_start, rules_end, ceilings_of}
use Rattle.policy.specs.Number.{four, states}
use Rattle.policy.specs.Check.{refusal_of}
use Rattle.policy.specs.Sound.{Inside}
use Rattle.policy.specs.Own.{own_of}
use Rattle.policy.specs.declared.Layout.{Layout}
use Rattle.policy.specs.declared.own.Own.{Own}
use Rattle.stepping.specs.State.{place}
use Rattle.stepping.specs.Code.{seen_by}
use Rattle.stepping.specs.declared.state.State.{State}
use Rattle.stepping.specs.declared.here.Here.{Here}

-- The file passes the check, and this is its layout.
pub record Laid (f : List ℕ) (l : Layout) : Type 0 where
  pub passes : refusal_of f ≡ 0
  pub inputs : l.inputs ≡ input_count f
  pub outputs : l.outputs ≡ output_count f
  pub clocks : l.clocks ≡ clock_count f
  pub locations : l.locations ≡ location_count f
  pub rules : l.rules ≡ rule_count f
  pub start : l.rules_start ≡ rules_start f
  pub end : l.rules_end ≡ rules_end f
  pub ceilings : l.ceilings ≡ four (ceilings_of f)
  pub states : l.states ≡ states (policy_of l.reading f)

-- There is a mark for each state, and the state is in range.
pub record Standing (f : List ℕ) (l : Layout) (marks : List ℕ) (s : State) : Type 0 where
  pub laid : Laid f l
  pub enough : states (policy_of l.reading f) ≤ length marks
  pub inside : Inside (policy_of l.reading f) (place l.clocks s)

-- The state's own rules are known, and the state that their bounds see.
pub record HereOf (f : List ℕ) (l : Layout) (h : Here) : Type 0 where
  pub own : h.own ≡ own_of l.clocks h.state.location (rules_of f)
  pub seen : h.seen ≡ seen_by l h.state

-- What is worked out for a state.
abbrev here_of : List ℕ → Layout → State → Here
here_of f l s = record { own = own_of l.clocks s.location (rules_of f); seen = seen_by l s; state = s }

here_is : {f : List ℕ} {l : Layout} {h : Here} → HereOf f l h → h ≡ here_of f l h.state
here_is {h = h} k = ap₂ (λ (o : Own) (v : State). record { own = o; seen = v; state = h.state }) k.own k.seen

-- One answer alone meets it for a state.
pub here_one : {f : List ℕ} {l : Layout} {h g : Here} → HereOf f l h → HereOf f l g → h.state ≡ g.state → h ≡ g
here_one {f} {l} k j e = here_is k ∙ ap (here_of f l) e ∙ sym (here_is j)

-- A mark for each state, a state in range, and the state's own rules known.
pub record Ready (f : List ℕ) (l : Layout) (h : Here) (marks : List ℕ) : Type 0 where
  pub standing : Standing f l marks h.state
  pub here : HereOf f l h

-- What is worked out for a state in range makes all ready.
pub ready_of : {f : List ℕ} {l : Layout} {h : Here} {marks : List ℕ} {s : State} → Standing f l marks s → HereOf f l h × (h.state ≡ s) → Ready f l h marks
ready_of {f} {l} {marks = marks} k o = record { standing = subst (Standing f l marks) (sym o.1) k; here = o.0 }
