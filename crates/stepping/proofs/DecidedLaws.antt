-- What the proofs of a decided event cite: which rule of the file decides it, and what that makes of the state.
use mathlib.Core.Path.{◌≡◌, sym, ap, ◌∙◌}
use mathlib.Core.List.{List}
use mathlib.Core.Option.{none, some, map, bind}
use mathlib.Core.Option as math
use Rattle.std.specs.Prelude.{Option, Some, None}
use Prim.Native.Nat.{ℕ, ◌+◌, ◌*◌}
use borrow.Author.Tests.{eq-eqb}
use Rattle.streams.specs.Stream.{Event}
use Rattle.policy.specs.Rules.{Rule, Policy, Place, stopped, decides, looked, taken, step}
use Rattle.policy.specs.File.{part, rule_size, rule_from, rules_from, policy_of}
use Rattle.policy.specs.Parts.{rules_part}
use Rattle.policy.specs.Own.{decides_own}
use Rattle.policy.specs.Checked.{well_rising}
use Rattle.policy.specs.declared.Layout.{Layout}
use Rattle.stepping.specs.Tick.{arrives, reaches}
use Rattle.stepping.specs.Code.{event_xy, decider, step_from}
use Rattle.stepping.specs.State.{place}
use Rattle.stepping.specs.Ready.{Laid, HereOf}
use Rattle.stepping.specs.Laid.{laid_well, here_seen}
use Rattle.stepping.specs.RuleAhead.{own_here, own_ahead, ahead_at}
use Rattle.stepping.specs.Decided.{rule_said, Decided}
use Rattle.stepping.specs.declared.state.State.{State}
use Rattle.stepping.specs.declared.here.Here.{Here}
use Rattle.stepping.specs.Decider.{decider_lt, decider_decides}

-- A violation takes the state nowhere.
pub taken_violation : (p : Policy) (s : Place) (r : Rule) → r.target ≡ 255 → taken stopped p s r ≡ none
unfolding taken
taken_violation p s r e = rw (eq-eqb _ _ e)

module _ {f : List ℕ} {l : Layout} (k : Laid f l) where
  module _ {h : Here} (e : Event) (g : HereOf f l h) where
    abbrev from : ℕ
    from = l.rules_start + h.own.start

    -- The number of the rule that decides, as the search over the location's own rules finds it.
    abbrev found : math.Option ℕ
    found = decider (rules_from l.clocks (part f from (h.own.count * rule_size l.clocks)) 0 h.own.count) (place l.clocks h.seen) e

    own_found : found ≡ decider (rules_from l.clocks f from h.own.count) (looked stopped (policy_of l.reading f) (place l.clocks h.state)) e
    own_found = rw (here_seen k g, rules_part f l.clocks from h.own.count)

    own_decides : map (λ i. rule_from l.clocks f (from + i * rule_size l.clocks)) found
        ≡ decides (policy_of l.reading f).rules (looked stopped (policy_of l.reading f) (place l.clocks h.state)) e
    own_decides =
        let v = looked stopped (policy_of l.reading f) (place l.clocks h.state) in
        rw own_found (sym (decider_decides l.clocks f v e h.own.count from))
        ∙ ap (λ (rs : List Rule). decides rs v e) (own_here k h.state.location g.own)
        ∙ decides_own v e (well_rising (policy_of l.reading f) (laid_well k))

    pub decided_none : none ≡ found → Decided f l h.state e None
    decided_none p = record { says = rw (sym p) at own_decides; stands = tt }

    pub decided_rule : (i : ℕ) → some i ≡ found → Decided f l h.state e (Some (from + i * rule_size l.clocks))
    decided_rule i p =
        record {
          says = rw (sym p) at own_decides;
          stands = ahead_at h.own.count i (own_ahead k h.state.location g.own) (decider_lt _ _ _ _ _ _ i (sym p));
        }

-- What the rule that decides makes of the state is what the event does.
module _ {f : List ℕ} {l : Layout} {s : State} {r : Option ℕ} where
  pub decided_step : {e : Event} → Decided f l s e r → {t : Option State} → t ≡ step_from (bind (rule_said l.clocks f r) (taken stopped (policy_of l.reading f) (place l.clocks s))) →
      t ≡ step_from (step stopped (policy_of l.reading f) (place l.clocks s) e)
  unfolding step
  decided_step k q = rw (← k.says) q

  -- Where that is a marked place, the event reaches one.
  pub decided_reaches : (marks : List ℕ) {x y : ℕ} → Decided f l s (event_xy x y) r →
      arrives (policy_of l.reading f) marks (bind (rule_said l.clocks f r) (taken stopped (policy_of l.reading f) (place l.clocks s)))
      ≡ reaches (policy_of l.reading f) marks (place l.clocks s) x y
  unfolding reaches step
  decided_reaches marks k = rw k.says
