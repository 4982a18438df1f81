-- A violation leads nowhere, and else the number is that of the next state.
use Rattle.std.proofs.Common.{◌≡◌, List, ℕ, ◌+◌, true, refl, sym, ◌∙◌, length, arith}
use Rattle.policy.specs.Rules.{stopped, advance}
use Rattle.policy.specs.File.{byte_at, policy_of, rule_from}
use Rattle.policy.specs.Number.{number_from}
use Rattle.policy.specs.Sound.{Inside}
use Rattle.policy.specs.declared.Layout.{Layout}
use Rattle.stepping.specs.State.{place}
use Rattle.stepping.specs.Ready.{Laid}
use Rattle.stepping.specs.Laid.{laid_well}
use Rattle.stepping.specs.RuleAhead.{RuleAt}
use Rattle.stepping.specs.Pass.{Led}
use Rattle.stepping.specs.Led.{led_violation, led_next}
use Rattle.stepping.specs.declared.state.State.{State}
use Rattle.leading.proofs.lead.next_of.Goals as goal

-- The rule leads to the next state, whose number is the one that the code works out.
led : {f : List ℕ} {l : Layout} (s : State) {at target reset n : ℕ} {clocks : List ℕ} → Laid f l → Inside (policy_of l.reading f) (place l.clocks s) →
    RuleAt f l s.location at → length l.ceilings ≡ 4 → length s.clocks ≡ 4 → target ≡ byte_at f (at + 6) → (target ≡ 255 → ⊥) →
    reset ≡ byte_at f (at + 5) → clocks ≡ advance stopped reset l.ceilings s.clocks → n ≡ number_from l.ceilings 4 target clocks →
    Led (place l.clocks s) (policy_of l.reading f) (rule_from l.clocks f at) true n
unfolding rule_from
led {f} {l} s {at} k h r c v t x d a w =
    led_next k s h (rule_from l.clocks f at) r.ours.formed (λ z. x (t ∙ z)) c v (w ∙ rw (a, d, t))

pub returns-then-target-eq-VIOLATION : goal.returns-then-target-eq-VIOLATION
unfolding rule_from
returns-then-target-eq-VIOLATION c = led_violation _ _ _ (sym c.byte_within-target.ensures.0 ∙ c.if-target-eq-VIOLATION.true)

pub number-requires : goal.number-requires
number-requires c =
    let w = led c.args.state c.requires.0 c.requires.1 c.requires.2 (omega arith) (omega arith) c.byte_within-target.ensures.0 c.if-target-eq-VIOLATION.false c.byte_within.ensures.0 c.advanced.ensures refl in
    omega (arith, (laid_well c.requires.0).states, w.below refl)

pub returns : goal.returns
returns c =
    led c.args.state c.requires.0 c.requires.1 c.requires.2 (omega arith) (omega arith) c.byte_within-target.ensures.0 c.if-target-eq-VIOLATION.false c.byte_within.ensures.0 c.advanced.ensures c.number.ensures
