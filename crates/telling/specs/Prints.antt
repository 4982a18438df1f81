-- What the program `why` prints, for any reading and input: the lines of `enforce` with the reasons, or the line of the first refusal as `enforce` prints it.
-- The input is that of `enforce`, and so are its checks and their order, after that of the reading.
use Rattle.std.specs.Prelude.{◌≡◌, refl, true, List, ◌++◌, ℕ, zero, suc, leb, length, take}
use Rattle.std.proofs.Common.{sym, ap, subst, ◌∙◌, arith}
use Rattle.streams.specs.Answer.{refused, gives, unless}
use Rattle.streams.specs.AnswerLaws.{none_refused, none_unless}
use Rattle.policy.specs.Rules.{Policy, Place, start}
use Rattle.policy.specs.File.{policy_of}
use Rattle.policy.specs.Check.{all_pass}
use Rattle.policy.specs.Number.{number_of}
use Rattle.policy.specs.CheckLaws.{under_none}
use Rattle.policy.specs.Checked.{checked_file, well_sound}
use Rattle.policy.specs.Stays.{start_inside}
use Rattle.policy.specs.declared.Layout.{Layout}
use Rattle.stepping.specs.State.{place_in, state_of, is_marked, place}
use Rattle.stepping.specs.Tick.{Progress}
use Rattle.enforcer.specs.Entries.{event_good, run_from, marks_refusal, state_refusal, run_refusal, run_of}
use Rattle.stepping.specs.Code.{start_state}
use Rattle.stepping.specs.Laid.{laid_well, laid_place, place_in_state_of}
use Rattle.enforcer.specs.States.{Granted, marks_granted, state_granted}
use Rattle.trimming.specs.Table.{marks_of}
use Rattle.prepare.specs.declared.Summary.{Summary}
use Rattle.printing.specs.Text.{verdict_line, refused_line}
use Rattle.frames.specs.Frame.{policy_part, events_part}
use Rattle.console.specs.Outcome.{lent, outcome}
use Rattle.console.specs.OutcomeLaws.{Passes, Enforces}
use Rattle.printing.specs.Reply.{Replied, replied_one}
use Rattle.console.specs.Scratch.{start_is}
use Rattle.telling.specs.Asked.{Asked}
use Rattle.telling.specs.Told.{Told, told_one, ToldFrom}
use Rattle.stepping.specs.declared.state.State.{State}

module _ (reading : ℕ) (input : List ℕ) where
  -- The policy of the input, under the reading.
  abbrev pub policy_in : Policy
  policy_in = policy_of reading (policy_part input)

  -- The line of the first refusal; or the verdict's line, and the ticks told from the start with the marks of prepare.
  pub data Prints : List ℕ → Type 0 where
    refuses : {n : ℕ} → outcome reading input ≡ refused n → Prints (refused_line n)
    tells : {s : Summary} {bytes : List ℕ} → outcome reading input ≡ gives s → Told policy_in (marks_of policy_in) 1 (start policy_in) (events_part input) bytes →
        Prints (verdict_line s.verdict s.states s.live ++ bytes)

  -- One text alone is printed.
  pub prints_one : {a b : List ℕ} → Prints a → Prints b → a ≡ b
  prints_one (refuses {n = n} e) (refuses {n = m} d) = let q : n ≡ m = cc in ap refused_line q
  prints_one (refuses e) (tells d t) = let z : ◌≡◌ {A = ℕ} 0 1 = cc in absurd (omega arith)
  prints_one (tells e t) (refuses d) = let z : ◌≡◌ {A = ℕ} 0 1 = cc in absurd (omega arith)
  prints_one (tells {s = s} e t) (tells {s = r} d u) =
      let q : s ≡ r = cc in
      let k = told_one t u in
      λ i. verdict_line (q i).verdict (q i).states (q i).live ++ k i

-- A text of which that is said is the reply.
pub record Writes (Said : List ℕ → Type 0) (before : List ℕ) (r : ℕ) (after : List ℕ) : Type 0 where
  pub text : List ℕ
  pub said : Said text
  pub replied : Replied before text r after

-- One length and one text alone are the reply.
pub writes_one : {reading : ℕ} {input before after also : List ℕ} {r q : ℕ} → Writes (Prints reading input) before r after →
    Writes (Prints reading input) before q also → (r ≡ q) × (after ≡ also)
writes_one {reading} {input} {before} {after} {r = r} h g =
    replied_one (subst (λ (text : List ℕ). Replied before text r after) (prints_one reading input h.said g.said) h.replied) g.replied

-- Where nothing is refused: the policy passes its checks, these are its marks, its start is live, and the events are in range.
pub record Startable (reading : ℕ) (file marks events : List ℕ) : Type 0 where
  pub early : marks_refusal reading file marks ≡ 0
  pub marked : marks ≡ marks_of (policy_of reading file)
  pub live : is_marked marks (number_of (policy_of reading file) (place_in (policy_of reading file) start_state)) ≡ true
  pub good : all_pass (event_good reading file) events ≡ true

from_none : (s : State) (out : List ℕ) (n : ℕ) (r : Progress) → (run_from s out n r).refusal ≡ 0 → n ≡ 0
from_none s out zero r z = refl
from_none s out (suc n) r z = absurd (omega arith)

-- All of this holds of the policy and the events of an input that passes its checks.
pub run_startable : {reading : ℕ} {input : List ℕ} {s : Summary} → Passes reading input s →
    Startable reading (policy_part input) (marks_of (policy_of reading (policy_part input))) (events_part input)
unfolding run_of run_refusal
run_startable {reading} {input} h =
    let file = policy_part input in
    let p = policy_of reading file in
    let marks = marks_of p in
    let n = from_none _ _ _ _ h.ran in
    let a = (none_refused (marks_refusal reading file marks) _).0 n in
    let b = (none_refused (unless (leb (length (events_part input)) (length (lent (length (events_part input))))) 14) _).0 a.1 in
    let c = (none_refused (state_refusal reading file marks (state_of (start p))) _).0 b.1 in
    let passes = ((under_none reading file).0 ((marks_granted reading file marks).0 a.0).0).1 in
    record {
      early = a.0;
      marked = refl;
      live =
          subst (λ (z : State). is_marked marks (number_of p (place_in p z)) ≡ true) (start_is p (checked_file reading file passes).clocks)
          ((state_granted reading file marks (state_of (start p))).0 c.0).1;
      good = (none_unless _ 14).0 c.1;
    }

-- Where `enforce` releases the events, by the slices that the code has.
module _ {reading : ℕ} {input : List ℕ} {s : Summary} {marks released : List ℕ} (k : Enforces reading input s marks released)
    {file events : List ℕ} (policy : file ≡ policy_part input) (all : events ≡ events_part input) where
  -- All of this holds of the code's own slices, with the marks that stand in front.
  pub enforced_startable : Startable reading file (take s.states marks) events
  enforced_startable = rw (policy, all, k.marked) (run_startable k.passes)

  -- The verdict's line and what is told of the events are what `why` prints.
  pub enforced_tells : {bytes : List ℕ} → Told (policy_of reading file) (take s.states marks) 1 (start (policy_of reading file)) events bytes →
      Prints reading input (verdict_line s.verdict s.states s.live ++ bytes)
  enforced_tells t = tells (sym k.said) (rw (policy, all, k.marked) at t)

-- By the layout.
module _ {reading : ℕ} {file marks events : List ℕ} {l : Layout} (k : Granted reading file marks l) (h : Startable reading file marks events) where
  abbrev p : Policy
  p = policy_of l.reading file

  start_place : place l.clocks start_state ≡ start p
  start_place =
      laid_place k.laid start_state ∙ ap (place_in p) (sym (start_is p (laid_well k.laid).clocks))
      ∙ place_in_state_of p (start_inside p (well_sound p (laid_well k.laid)))

  -- The marks are those of the policy under the layout's reading.
  pub start_marks : marks ≡ marks_of p
  start_marks = subst (λ (r : ℕ). marks ≡ marks_of (policy_of r file)) (sym k.named) h.marked

  -- The events are in range under the layout's reading.
  pub start_good : all_pass (event_good l.reading file) events ≡ true
  start_good = subst (λ (r : ℕ). all_pass (event_good r file) events ≡ true) (sym k.named) h.good

  -- The start state may be asked about.
  pub start_asked : Asked file l marks start_state
  start_asked =
      record {
        standing = record { laid = k.laid; enough = k.enough; inside = rw start_place (start_inside p (well_sound p (laid_well k.laid))) };
        prepared = λ n g. ap (λ (m : List ℕ). is_marked m n) start_marks;
        live =
            ap (λ (t : Place). is_marked marks (number_of p t)) (laid_place k.laid start_state)
            ∙ subst (λ (r : ℕ). is_marked marks (number_of (policy_of r file) (place_in (policy_of r file) start_state)) ≡ true) (sym k.named) h.live;
      }

  -- What is told from the start state is told from the start of the policy.
  pub start_told : {before after : List ℕ} {at r : ℕ} → ToldFrom p marks (place l.clocks start_state) events before at r after →
      ToldFrom (policy_of reading file) marks (start (policy_of reading file)) events before at r after
  start_told {before} {after} {at} {r} t =
      subst (λ (n : ℕ). ToldFrom (policy_of n file) marks (start (policy_of n file)) events before at r after) k.named
      (subst (λ (z : Place). ToldFrom p marks z events before at r after) start_place t)
