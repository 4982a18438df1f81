-- What the program `enforce` prints, by demand 2 under reading 1, which it uses: exactly the stream that it fixes, `refused 11` exactly where it says
-- hopeless, and of the run no refusal but 15. First of the text `printed`, then of what the code of `console::respond` wrote.
use Rattle.std.specs.Prelude.{◌≡◌, Bool, ◌↔◌, get_or, take, drop}
use Rattle.std.proofs.Math.Path.{refl}
use Rattle.std.proofs.Common.{sym, ap, ◌∙◌, le_refl, arith, length-append, drop_of_length-le, take_at}
use Rattle.std.proofs.Math.Bool.{true, false}
use mathlib.Core.List.{List, [], ◌∷◌, ◌++◌, map, append-nil}
use Rattle.std.proofs.Math.Logic.{⊎_elim}
use Prim.Native.Nat.{ℕ, zero, suc, ◌≤◌}
use Rattle.std.proofs.Math.ListN.{length}
use borrow.Author.Tests.{le-leb}
use Rattle.streams.specs.Answer.{gives, answer, ◌or_else◌, unless}
use Rattle.streams.specs.AnswerLaws.{unless_le, else_le}
use Rattle.streams.specs.Stream.{Stream, Hopeless}
use Rattle.streams.specs.Corrections.{corrections}
use Rattle.streams.specs.Laws.{not_both, enforced_one}
use Rattle.policy.specs.Rules.{start, Permits}
use Rattle.policy.specs.Number.{states}
use Rattle.policy.specs.File.{policy_of}
use Rattle.policy.specs.Check.{reading_refusal, refusal_under, refusal_of, all_pass}
use Rattle.policy.specs.CheckLaws.{refusal_le}
use Rattle.policy.specs.Checked.{checked_file}
use Rattle.stepping.specs.State.{state_of}
use Rattle.stepping.specs.Tick.{Progress, ran}
use Rattle.enforcer.specs.States.{marks_granted}
use Rattle.enforcer.specs.Entries.{event_of, byte_of, event_good, run_from, run_refusal, marks_refusal, run_of}
use Rattle.trimming.specs.Table.{marks_of}
use Rattle.trimming.specs.Live.{marks_length}
use Rattle.prepare.specs.Entry.{prepare_of}
use Rattle.prepare.specs.declared.Summary.{Summary}
use Rattle.prepare.specs.Enforces.{leads_start, leads_ready, never_stuck, ran_enforces}
use Rattle.prepare.specs.Enforcing.{AsPrepared, MarkedPlace}
use Rattle.texts.specs.Text.{decimal}
use Rattle.printing.specs.Text.{verdict_line, refused_line, unless_refused, line_or}
use Rattle.texts.specs.Decimal.{value_from, reads_back}
use Rattle.frames.specs.Frame.{count_refusal, policy_frame_refusal, policy_part, events_frame_refusal, events_part}
use Rattle.console.specs.Outcome.{lent, events_refusal, outcome}
use Rattle.console.specs.OutcomeLaws.{lent_length}
use Rattle.console.specs.Printed.{ran_over, summary_lines, printed}
use Rattle.printing.specs.Reply.{Replied, replied_front}
use Rattle.tender.specs.Granted.{well_formed, judged, given_passed, given_goes_on, state_ready, ready_state, run_ready}
use Rattle.tender.specs.Demand2.{ReleasedFor}
use Rattle.tender.specs.Demand2Shown.{releases, as_many}
use Rattle.stepping.specs.declared.state.State.{State}

-- Two refusals that print the same are the same.
refused_one : (n m : ℕ) → refused_line n ≡ refused_line m → n ≡ m
unfolding refused_line
refused_one n m e =
    let d : decimal n ++ (10 ∷ []) ≡ decimal m ++ (10 ∷ []) = ap (drop 8) e in
    let l : length (decimal n) ≡ length (decimal m) = omega (arith, simp length-append at (ap length d)) in
    let k : decimal n ≡ decimal m = sym (take_at (decimal n) (10 ∷ []) _ refl) ∙ ap (take (length (decimal n))) d ∙ take_at (decimal m) (10 ∷ []) _ (sym l) in
    sym (reads_back n) ∙ ap (value_from 0) k ∙ reads_back m

-- A refusal's line is no summary: it begins with an r, and not with a v.
refused_not_summary : (s : Summary) (events released : List ℕ) (n : ℕ) → ¬ (summary_lines s events released ≡ refused_line n)
unfolding verdict_line refused_line
refused_not_summary s events released n e = omega (arith, ap (λ (l : List ℕ). get_or l 0 0) e)

-- The count and the bytes of the events are refused by no number above 8, so never by 11.
frame_le : (input : List ℕ) → events_frame_refusal input ≤ 8
unfolding count_refusal
frame_le input = search (else_le, unless_le)

policy_le : (input : List ℕ) → policy_frame_refusal input ≤ 2
unfolding count_refusal
policy_le input = search (else_le, unless_le)

not_eleven :
    (n : ℕ) (b : Bool) → n ≤ 8 → (s : Summary) (events released : List ℕ) →
    ¬ (unless_refused (n or_else unless b 15) (summary_lines s events released) ≡ refused_line 11)
not_eleven zero true l s events released t = refused_not_summary s events released 11 t
not_eleven zero false l s events released t = omega (arith, refused_one 15 11 t)
not_eleven (suc n) b l s events released t = omega (arith, refused_one (suc n) 11 t)

-- Where prepare gives a summary of the policy in the input.
module _ (file : List ℕ) (s : Summary) (e : prepare_of 1 file (lent 65536) ≡ gives s) where
  by : AsPrepared (policy_of 1 file) (marks_of (policy_of 1 file))
  by n l = refl

  granted : marks_refusal 1 file (marks_of (policy_of 1 file)) ≡ 0
  granted = (marks_granted 1 file _).1 (given_passed 1 file (lent 65536) s e, rw marks_length (le_refl (states (policy_of 1 file))))

  ready : MarkedPlace (policy_of 1 file) (marks_of (policy_of 1 file)) (start (policy_of 1 file))
  ready =
      let p = policy_of 1 file in
      leads_ready p (well_formed 1 file (given_passed 1 file (lent 65536) s e)) (marks_of p) by (leads_start p) (given_goes_on 1 file (lent 65536) s e)

  -- "events (15)": the run is refused by 15 alone, where an event has a bit beyond its signals.
  pub run_refused : (events : List ℕ) → (ran_over file events).refusal ≡ unless (all_pass (event_good 1 file) events) 15
  unfolding run_of run_refusal
  run_refused events =
      let p = policy_of 1 file in
      let t = state_of (start p) in
      let stands = ready_state 1 file (marks_of p) (start p) ready in
      let room : length events ≤ length (lent (length events)) = rw lent_length (le_refl (length events)) in
      let ok = well_formed 1 file (given_passed 1 file (lent 65536) s e) in
      let moves = never_stuck p ok (marks_of p) by (state_ready 1 file (marks_of p) t stands) (map event_of events) in
      rw (granted, le-leb _ _ room, stands) (go t (lent (length events)) _ moves (all_pass (event_good 1 file) events))
    where
      go : (t : State) (out : List ℕ) (r : Progress) → r.stuck ≡ false → (b : Bool) → (run_from t out (unless b 15) r).refusal ≡ unless b 15
      go t out r h true = rw h
      go t out r h false = refl

  -- What it releases is demand 2's stream.
  run_released :
      (events : List ℕ) → all_pass (event_good 1 file) events ≡ true → (rs : Stream) → ReleasedFor (policy_of 1 file) events rs →
      (ran_over file events).out ≡ map byte_of rs
  run_released events good rs h =
      let p = policy_of 1 file in
      let M = marks_of p in
      let out = lent (length events) in
      let room : length events ≤ length out = rw lent_length (le_refl (length events)) in
      let ok = well_formed 1 file (given_passed 1 file (lent 65536) s e) in
      let r = ran_enforces p ok M by (leads_start p) (given_goes_on 1 file (lent 65536) s e) (map event_of events) in
      let ran_is = run_ready 1 file M granted (start p) ready events out room good in
      let n : length (ran p M (start p) (map event_of events)).released ≡ length events = as_many p events r.enforced in
      let same = enforced_one corrections _ _ (Permits p) r.enforced h in
      let empty : drop (length events) out ≡ [] = drop_of_length-le out {i = length events} (rw lent_length (le_refl (length events))) in
      rw (ran_is, n, empty, append-nil, same)

module _ (input : List ℕ) (framed : policy_frame_refusal input ≡ 0) where
  -- Where the policy's bytes are all there and prepare gives a summary: the text is one line with the first refusal of the events, and otherwise the
  -- verdict's line with a line for each event. No other refusal is printed then.
  pub printed_exactly :
      (s : Summary) → prepare_of 1 (policy_part input) (lent 65536) ≡ gives s →
      printed input
      ≡ unless_refused (events_frame_refusal input or_else unless (all_pass (event_good 1 (policy_part input)) (events_part input)) 15)
      (summary_lines s (events_part input) (ran_over (policy_part input) (events_part input)).out)
  unfolding printed outcome events_refusal reading_refusal
  printed_exactly s e =
      rw (framed, e, run_refused (policy_part input) s e (events_part input))
      (go (events_frame_refusal input or_else unless (all_pass (event_good 1 (policy_part input)) (events_part input)) 15)
      (λ z. summary_lines z (events_part input) (ran_over (policy_part input) (events_part input)).out))
    where
      go : (n : ℕ) (text : Summary → List ℕ) → line_or (answer n s) text ≡ unless_refused n (text s)
      go zero text = refl
      go (suc n) text = refl

  -- "one event is released for each one read": with events that are all there and within the signals, the lines hold exactly demand 2's stream.
  pub printed_releases :
      (s : Summary) → prepare_of 1 (policy_part input) (lent 65536) ≡ gives s →
      events_frame_refusal input ≡ 0 → all_pass (event_good 1 (policy_part input)) (events_part input) ≡ true →
      (rs : Stream) → ReleasedFor (policy_of 1 (policy_part input)) (events_part input) rs →
      printed input ≡ summary_lines s (events_part input) (map byte_of rs)
  printed_releases s e b good rs h = printed_exactly s e ∙ rw (b, good, run_released (policy_part input) s e (events_part input) good rs h)

  -- There is such a stream.
  pub printed_stream :
      (s : Summary) → prepare_of 1 (policy_part input) (lent 65536) ≡ gives s →
      events_frame_refusal input ≡ 0 → all_pass (event_good 1 (policy_part input)) (events_part input) ≡ true →
      (rs : Stream) × ReleasedFor (policy_of 1 (policy_part input)) (events_part input) rs
      × (printed input ≡ summary_lines s (events_part input) (map byte_of rs))
  printed_stream s e b good =
      let events = events_part input in
      let room : length events ≤ length (lent (length events)) = rw lent_length (le_refl (length events)) in
      let r = releases 1 (policy_part input) (lent 65536) s e events (lent (length events)) good room in
      (r.released, r.enforced, printed_releases s e b good r.released r.enforced)

  -- "refused as hopeless exactly if, from its start, some length has no permitted stream": of a policy that passes its own checks, `refused 11` is
  -- printed exactly if it is hopeless, whatever the events are.
  pub printed_hopeless :
      refusal_of (policy_part input) ≡ 0 → (printed input ≡ refused_line 11) ↔ Hopeless (Permits (policy_of 1 (policy_part input)))
  unfolding printed outcome refusal_under reading_refusal
  printed_hopeless passed =
      let file = policy_part input in
      let p = policy_of 1 file in
      let long : states p ≤ length (lent 65536) = rw lent_length (checked_file 1 file passed).states in
      ⊎_elim (λ h. (λ t. h.0, λ t. rw (framed, h.1)))
      (λ g. (
        λ t. absurd (not_eleven (events_frame_refusal input) (all_pass (event_good 1 file) (events_part input)) (frame_le input) _ _ _ (sym (printed_exactly _ g.1) ∙ t)),
        λ d. absurd (not_both (Permits p) [] g.0 d),
      ))
      (judged 1 file (lent 65536) passed long)

-- The program prints `refused 11` exactly if the policy's bytes are all there, pass their own checks, and are those of a hopeless policy.
pub printed_eleven :
    (input : List ℕ)
    → (printed input ≡ refused_line 11)
    ↔ ((policy_frame_refusal input ≡ 0) × (refusal_of (policy_part input) ≡ 0) × Hopeless (Permits (policy_of 1 (policy_part input))))
unfolding printed outcome prepare_of marks_refusal refusal_under reading_refusal
printed_eleven input = (
  λ t. there (policy_frame_refusal input) refl (refusal_of (policy_part input)) refl t,
  λ h. (printed_hopeless input h.0 h.1).1 h.2,
)
  where
    there : (n : ℕ) → policy_frame_refusal input ≡ n → (m : ℕ) → refusal_of (policy_part input) ≡ m → printed input ≡ refused_line 11 →
        (policy_frame_refusal input ≡ 0) × (refusal_of (policy_part input) ≡ 0) × Hopeless (Permits (policy_of 1 (policy_part input)))
    there (suc n) d m e t = absurd (omega (arith, policy_le input, refused_one (suc n) 11 (sym (rw d) ∙ t)))
    there zero d (suc m) e t = absurd (omega (arith, refusal_le (policy_part input), refused_one (suc m) 11 (sym (rw (d, e)) ∙ t)))
    there zero d zero e t = (d, e, (printed_hopeless input d e).0 t)

-- What the code of `console::respond` wrote into the text: its first r bytes.
module _ (input : List ℕ) {before after : List ℕ} {r : ℕ} (k : Replied before (printed input) r after) (framed : policy_frame_refusal input ≡ 0) where
  -- With events that are all there and within the signals, they are the lines of exactly demand 2's stream.
  pub respond_releases :
      (s : Summary) → prepare_of 1 (policy_part input) (lent 65536) ≡ gives s →
      events_frame_refusal input ≡ 0 → all_pass (event_good 1 (policy_part input)) (events_part input) ≡ true →
      (rs : Stream) → ReleasedFor (policy_of 1 (policy_part input)) (events_part input) rs →
      take r after ≡ summary_lines s (events_part input) (map byte_of rs)
  respond_releases s e b good rs h = replied_front k ∙ printed_releases input framed s e b good rs h

  -- Of a policy that passes its own checks, they are `refused 11` exactly if it is hopeless.
  pub respond_hopeless : refusal_of (policy_part input) ≡ 0 → (take r after ≡ refused_line 11) ↔ Hopeless (Permits (policy_of 1 (policy_part input)))
  respond_hopeless passed = rw (replied_front k) (printed_hopeless input framed passed)
