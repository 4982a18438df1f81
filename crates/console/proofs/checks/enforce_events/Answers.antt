-- The events' frame is refused, or what the run answers is the answer.
use Rattle.std.proofs.Common.{◌≡◌, ℕ, List, sym, arith}
use Rattle.refusals.specs.Refused.{number_of}
use Rattle.refusals.specs.declared.Refusal.{Refusal}
use Rattle.frames.specs.Frame.{events_frame_refusal}
use Rattle.refusals.specs.Laws.{number_above, handed_on}
use Rattle.frames.specs.Framed.{events_few}
use Rattle.console.specs.OutcomeLaws.{RanEvents, events_refused, events_ran}
use Rattle.console.proofs.checks.enforce_events.Goals as goal

refuses : {reading : ℕ} {input out : List ℕ} (r : Refusal) → number_of r ≡ events_frame_refusal input → RanEvents reading input (number_of r) out
refuses {reading} {input} r e =
    let above = number_above r in
    record { refusal = events_refused reading input e (λ z. omega (arith, above)); front = λ z. absurd (omega (arith, above)) }

pub returns-in_err-check_events : goal.returns-in_err-check_events
returns-in_err-check_events c = rw (handed_on _ _ c.from_residual.ensures.1) (refuses _ c.in_err-check_events.ensures)

pub events_in-events-requires : goal.events_in-events-requires
events_in-events-requires c = sym c.in_ok-check_events.ensures

pub returns-in-Some : goal.returns-in-Some
returns-in-Some c =
    let a = c.args in
    let passed = sym c.in_ok-check_events.ensures in
    let ran = rw (c.start.ensures, c.events_in-events.ensures) at c.run-ran.ensures in
    rw c.in-Some.is at (events_ran a.reading a.input.now c.requires.0 passed (omega (arith, events_few a.input.now passed, c.requires.1)) ran)

pub returns-in-None : goal.returns-in-None
returns-in-None c =
    let a = c.args in
    let passed = sym c.in_ok-check_events.ensures in
    let ran = rw (c.start.ensures, c.events_in-events.ensures) at c.run-ran.ensures in
    rw c.in-None.is at (events_ran a.reading a.input.now c.requires.0 passed (omega (arith, events_few a.input.now passed, c.requires.1)) ran)
