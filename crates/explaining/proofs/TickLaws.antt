-- What the proof of both halves cites: what the code has where one of them is never refused.
use Rattle.std.specs.Prelude.{◌≡◌, true, List, ℕ, ◌<◌, Result, Ok, Err}
use Rattle.std.specs.Result.{result_unwrap_or}
use Rattle.std.proofs.Common.{ap, ◌∙◌}
use Rattle.streams.specs.Answer.{gives}
use Rattle.refusals.specs.Refused.{told}
use Rattle.refusals.specs.declared.Refusal.{Refusal}
use Rattle.policy.specs.Rules.{Place, input_values, output_values}
use Rattle.policy.specs.File.{policy_of}
use Rattle.policy.specs.Number.{number_of}
use Rattle.policy.specs.declared.Layout.{Layout}
use Rattle.stepping.specs.State.{is_marked, place, state_of}
use Rattle.stepping.specs.Ready.{Standing}
use Rattle.stepping.specs.Laid.{laid_well}
use Rattle.stepping.specs.declared.state.State.{State}
use Rattle.enforcer.specs.Entries.{OutputAnswer, input_past, output_past}
use Rattle.enforcer.specs.Promises.{handed}
use Rattle.prepare.specs.Enforcing.{AsPrepared}
use Rattle.explaining.specs.Edited.{input_answer, output_answer, output_state}
use Rattle.explaining.specs.Halves.{passed, passed_in, released, moved_to}

given : (r : Result ℕ Refusal) (other : ℕ) {z : ℕ} → told r ≡ gives z → result_unwrap_or r other ≡ z
given (Ok v) other e = cc
given (Err n) other e = cc

both : (s : State) (r : Result (ℕ × State) Refusal) (other : ℕ × State) {z : ℕ} {t : State} → (handed s r).answer ≡ gives z → (handed s r).state ≡ t → result_unwrap_or r other ≡ (z, t)
both s (Ok v) other {z} {t} e q = let w : v.0 ≡ z = cc in λ i. (w i, q i)
both s (Err n) other e q = cc

module _ {f marks : List ℕ} {l : Layout} {s : State} (h : Standing f l marks s) (by : AsPrepared (policy_of l.reading f) marks)
    (m : is_marked marks (number_of (policy_of l.reading f) (place l.clocks s)) ≡ true) (x y : ℕ)
    (lx : x < input_values (policy_of l.reading f)) (ly : y < output_values (policy_of l.reading f)) where
  abbrev passes : ℕ
  passes = (passed (policy_of l.reading f) (laid_well h.laid) marks by (place l.clocks s) h.inside m x y).0

  abbrev releases : ℕ
  releases = (released (policy_of l.reading f) (laid_well h.laid) marks by (place l.clocks s) h.inside m x y).0

  abbrev moves : Place
  moves = (moved_to (policy_of l.reading f) (laid_well h.laid) marks by (place l.clocks s) h.inside m x y).0

  -- What the input half passes on.
  pub is_passed : (r : Result ℕ Refusal) → told r ≡ input_past l.reading f marks (place l.clocks s) x → result_unwrap_or r x ≡ passes
  is_passed r e =
      given r x (e ∙ input_answer _ _ _ _ x lx (passed (policy_of l.reading f) (laid_well h.laid) marks by (place l.clocks s) h.inside m x y).1)

  -- What the output half releases for it, and the state after that.
  pub is_released : (r : Result (ℕ × State) Refusal) → handed s r ≡ output_past l.reading f marks s (place l.clocks s) passes y →
      result_unwrap_or r (y, s) ≡ (releases, state_of moves)
  is_released r e =
      let w = passed_in (policy_of l.reading f) (laid_well h.laid) marks by (place l.clocks s) h.inside m x y in
      let o = (released (policy_of l.reading f) (laid_well h.laid) marks by (place l.clocks s) h.inside m x y).1 in
      both s r (y, s)
      (ap (λ (a : OutputAnswer). a.answer) e ∙ output_answer _ _ _ _ s passes y w ly o)
      (ap (λ (a : OutputAnswer). a.state) e ∙ output_state _ _ _ _ s passes y w ly o)
