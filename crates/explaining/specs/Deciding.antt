-- The number of the rule that decides, as the stopped clocks show it.
use Rattle.std.specs.Prelude.{◌≡◌, Bool, cond, List, [], ◌∷◌}
use Rattle.std.proofs.Math.Path.{refl}
use Rattle.std.proofs.Common.{sym}
use Rattle.std.proofs.Math.Bool.{true, false}
use Rattle.std.proofs.Math.Option.{none, some, bind, none-ne-some}
use Rattle.streams.specs.Stream.{Event}
use Rattle.policy.specs.Rules.{Rule, Policy, Place, fires, decides, unlimited, stopped, looked, taken}
use Rattle.policy.specs.Stopped.{AllLawful, LawfulRules, checked_none, checked_more, step_same}
use Rattle.policy.specs.Stop.{stop, shown}
use Rattle.stepping.specs.Code.{decider}
use Rattle.prepare.specs.Computing.{a_step}

module _ (p : Policy) (s : Place) (e : Event) where
  -- The rule with a location for its target, and the policy that has this rule alone.
  abbrev led : Rule → Rule
  led r =
      record {
        source = r.source;
        in_care = r.in_care;
        in_value = r.in_value;
        out_care = r.out_care;
        out_value = r.out_value;
        reset = r.reset;
        target = 0;
        bounds = r.bounds;
      }

  abbrev alone : Rule → Policy
  alone r =
      record {
        reading = p.reading;
        inputs = p.inputs;
        outputs = p.outputs;
        ceilings = p.ceilings;
        locations = p.locations;
        left = p.left;
        rules = led r ∷ [];
      }

  -- "the stop changes no answer": nor whether a rule fires, which is whether its policy takes a step.
  fires_same : (r : Rule) → AllLawful p.ceilings r.bounds → fires r (looked stopped p (stop p s)) e ≡ fires r (looked unlimited p s) e
  unfolding a_step shown
  fires_same r l = go (fires r (looked stopped p (stop p s)) e) (fires r (looked unlimited p s) e) (step_same (alone r) (checked_more l checked_none) s e)
    where
      go : (b c : Bool) →
          bind (cond b (some (led r)) none) (taken stopped (alone r) (stop p s)) ≡ shown (alone r) (bind (cond c (some (led r)) none) (taken unlimited (alone r) s)) →
          b ≡ c
      go true true q = refl
      go true false q = absurd (none-ne-some _ (sym q))
      go false true q = absurd (none-ne-some _ q)
      go false false q = refl

  -- The deciding rule has the same number with stopped clocks as with clocks without limit.
  pub decider_same : {rs : List Rule} → LawfulRules p.ceilings rs → decider rs (looked stopped p (stop p s)) e ≡ decider rs (looked unlimited p s) e
  unfolding decider
  decider_same checked_none = refl
  decider_same (checked_more {r = r} {rs = rs} l ls) = rw (fires_same r l, decider_same ls)

  -- The same rule decides with stopped clocks as with clocks without limit.
  pub decides_same : {rs : List Rule} → LawfulRules p.ceilings rs → decides rs (looked stopped p (stop p s)) e ≡ decides rs (looked unlimited p s) e
  unfolding decides
  decides_same checked_none = refl
  decides_same (checked_more {r = r} {rs = rs} l ls) = rw (fires_same r l, decides_same ls)
