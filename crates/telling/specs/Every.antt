-- When an input's line says that no output will do: exactly where every output is a violation at once, and then its words are the reason for the output 0.
use Rattle.std.specs.Prelude.{◌≡◌, ℕ, ◌≤◌, ◌<◌}
use Rattle.std.proofs.Common.{sym, ◌∙◌, arith}
use Rattle.std.proofs.Math.Option.{none, none-ne-some}
use Rattle.streams.specs.Stream.{Event}
use Rattle.policy.specs.Rules.{Policy, Place, unlimited, step}
use Rattle.stepping.specs.Code.{event_xy}
use Rattle.explaining.specs.Reasons.{Reason, kind_of, SaysWhy, by_rule, by_none, by_ticks, by_rests, SaysIn, most_rests, most_ticks, at_once, ticks_next, rests_next}

-- A violation: that a rule sends it to 255, or that none matches. These are the reasons whose words stand after the longer beginning.
abbrev pub IsViolation : Reason → Type 0
IsViolation q = (0 < kind_of q) × (kind_of q ≤ 2)

-- "every output is a violation at once": the outputs are those below n.
abbrev pub NoneWillDo : Policy → Place → (n x : ℕ) → Type 0
NoneWillDo p s n x = (y : ℕ) → y < n → step unlimited p s (event_xy x y) ≡ none

why_violation : {p : Policy} {s : Place} {e : Event} {q : Reason} → SaysWhy p s e q → step unlimited p s e ≡ none → IsViolation q
why_violation (by_rule i d t) v = (omega arith, omega arith)
why_violation (by_none h) v = (omega arith, omega arith)
why_violation (by_ticks h t) v = absurd (none-ne-some _ (sym v ∙ h))
why_violation (by_rests h t) v = absurd (none-ne-some _ (sym v ∙ h))

module _ {p : Policy} {s : Place} {n x : ℕ} where
  -- If the reason for an input is a violation, every output is one, and it is the reason for the output 0.
  pub none_will_do : {q : Reason} → SaysIn p s n x q → IsViolation q → NoneWillDo p s n x × SaysWhy p s (event_xy x 0) q
  none_will_do (most_rests l h m) v = absurd (omega (arith, v.1))
  none_will_do (most_ticks l h m o) v = absurd (omega (arith, v.1))
  none_will_do (at_once h g) v = (h, g)

  -- And the other way round.
  pub will_be_said : {q : Reason} → SaysIn p s n x q → 0 < n → NoneWillDo p s n x → IsViolation q
  will_be_said (most_rests {y = y} l h m) o v = absurd (none-ne-some _ (sym (v y l) ∙ (rests_next h).1))
  will_be_said (most_ticks {y = y} l h m f) o v = absurd (none-ne-some _ (sym (v y l) ∙ (ticks_next h).1))
  will_be_said (at_once h g) o v = why_violation g (v 0 o)
