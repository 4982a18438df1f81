-- The reading or the policy's frame is refused, or prepare refuses, or the events decide.
use Rattle.std.proofs.Common.{◌≡◌, ℕ, sym, refl, arith, length-take-le}
use Rattle.refusals.specs.Refused.{number_of}
use Rattle.refusals.specs.declared.Refusal.{Refusal}
use Rattle.refusals.specs.Laws.{number_above, handed_on}
use Rattle.streams.specs.AnswerLaws.{none_refused}
use Rattle.policy.specs.Check.{reading_refusal}
use Rattle.console.specs.OutcomeLaws.{prepared-marks, prepares, input_refused, prepare_refuses, events_refuse, events_released}
use Rattle.console.proofs.checks.outcome.Goals as goal

-- A refusal's number is not 0.
no_zero : (r : Refusal) → number_of r ≡ 0 → ⊥
no_zero r z = let above = number_above r in omega (arith, above)

pub returns-in_err-check_input : goal.returns-in_err-check_input
returns-in_err-check_input c =
    rw (handed_on _ _ c.from_residual.ensures.1) (input_refused c.args.reading c.args.input.now c.in_err-check_input.ensures (no_zero _))

pub policy_in-file-requires : goal.policy_in-file-requires
policy_in-file-requires c = ((none_refused (reading_refusal c.args.reading) _).0 (sym c.in_ok-check_input.ensures)).1

pub returns-in_err-summary : goal.returns-in_err-summary
returns-in_err-summary c =
    let a = c.args in
    let h = rw c.policy_in-file.ensures at c.in_err-summary.ensures in
    rw (handed_on _ _ c.from_residual-in_err-summary.ensures.1)
    (prepare_refuses a.reading a.input.now c.requires.0 (sym c.in_ok-check_input.ensures) h refl)

pub slice_bounds-enforce_events-end : goal.slice_bounds-enforce_events-end
slice_bounds-enforce_events-end c = (prepared-marks (rw c.policy_in-file.ensures at c.in_ok-summary.ensures)).1

pub slice_bounds-enforce_events-end-2 : goal.slice_bounds-enforce_events-end-2
slice_bounds-enforce_events-end-2 c = sym (length-take-le _ _ (prepared-marks (rw c.policy_in-file.ensures at c.in_ok-summary.ensures)).1)

pub enforce_events-requires : goal.enforce_events-requires
enforce_events-requires c =
    (prepares c.policy_in-file.ensures (rw c.policy_in-file.ensures at c.in_ok-summary.ensures), c.requires.1)

pub returns-in_err-enforce_events : goal.returns-in_err-enforce_events
returns-in_err-enforce_events c =
    let a = c.args in
    let h = rw c.policy_in-file.ensures at c.in_ok-summary.ensures in
    rw (handed_on _ _ c.from_residual-in_err-enforce_events.ensures.1)
    (events_refuse a.reading a.input.now c.requires.0 (sym c.in_ok-check_input.ensures) h refl c.in_err-enforce_events.ensures (no_zero _))

pub returns : goal.returns
returns c =
    let a = c.args in
    let h = rw c.policy_in-file.ensures at c.in_ok-summary.ensures in
    events_released a.reading a.input.now c.requires.0 (sym c.in_ok-check_input.ensures) h refl c.in_ok-enforce_events.ensures refl
