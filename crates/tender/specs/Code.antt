-- Demands 2 and 3 over the promises of the code, those that stand in the `ensures` of the entries, and for each reading: nobody has to put a
-- promise and a theorem over the definitions together. The two halves are in specs/TickByTick.antt, and the program is in specs/Program.antt.
-- In order: prepare; never 17; what a run releases; the same in C, and the two halves in C; joins; two files that are alike.
use Rattle.std.specs.Prelude.{◌≡◌, refl, Bool, cond, List, [], ◌∷◌, ◌++◌, map, ◌↔◌, ◌⊎◌, ℕ, ◌*◌, ◌/◌, ◌%◌, ◌^◌, ◌≤◌, ◌<◌, leb, length, take, drop}
use Rattle.std.proofs.Common.{sym, ap, ap₂, subst, ◌∙◌, inl, inr, ⊎_elim, eqb-true, eq-eqb}
use Rattle.std.proofs.Math.Bool.{true, false}
use Rattle.std.proofs.Math.Logic.Iff
use native.Mathlib.Omega.{arith}
use Rattle.std.proofs.lemmas.List.{length-map}
use Rattle.streams.specs.Answer.{Answer, refused, gives, ◌or_else◌, unless}
use Rattle.streams.specs.Stream.{Event, Stream, ◌alongside◌, Hopeless}
use Rattle.streams.specs.Laws.{not_both}
use Rattle.streams.specs.Languages.{◌≋◌}
use Rattle.policy.specs.Rules.{input_values, output_values, Permits}
use Rattle.policy.specs.Number.{states}
use Rattle.policy.specs.File.{policy_of}
use Rattle.policy.specs.Check.{reading_refusal, refusal_under, all_pass}
use Rattle.enforcer.specs.Entries.{RunAnswer, byte_of, event_good, marks_refusal, input_of, output_of, run_of}
use Rattle.stepping.specs.Code.{start_state}
use Rattle.enforcer.specs.Promises.{InputPromise, OutputPromise, RunPromise, ran_said}
use Rattle.stepping.specs.declared.state.State.{State}
use Rattle.enforcer.specs.Promises.{Ran}
use Rattle.prepare.specs.Entry.{summary_of, prepare_of, prepared_marks}
use Rattle.prepare.specs.Promise.{PreparePromise}
use Rattle.prepare.specs.Enforces.{leads_inside}
use Rattle.prepare.specs.declared.Summary.{Summary}
use Rattle.join.specs.Promise.{JoinPromise}
use Rattle.console.specs.Scratch.{start_is}
use Rattle.stepping.specs.Five.{state_words, state_in, words_in, words_back}
use Rattle.bays.specs.Odd.{odd_refusal}
use Rattle.bays.specs.Halves.{four_long, output_four}
use Rattle.groovepawn.specs.Words.{is_state, output_state, run_state, run_out}
use Rattle.groovepawn.specs.Calls.{PrepareCall, InputCall, OutputCall, RunCall, JoinCall}
use Rattle.groovepawn.specs.Fields.{summary_in, answer_in, answer_fields, prepare_fields, input_fields, output_fields, run_fields, join_fields}
use Rattle.tender.specs.Granted.{well_formed, given_passed, given_goes_on, prepared_granted, entry_refusal}
use Rattle.tender.specs.Demand2.{ReleasedFor, Released, from_start}
use Rattle.tender.specs.Demand2Shown.{releases, hopeless_exactly, prepared_otherwise, input_never_17, run_never_17}
use Rattle.tender.specs.TickByTick.{TickByTick, ticks_none, ticks_more, TicksReleased, ticks_run, ticks_release, ticks_go_on}
use Rattle.tender.specs.Demand3.{JoinMade, SameReleased, Alike, permits_all}
use Rattle.tender.specs.Demand3Shown.{permits_exactly, order, grouping, repetition, unit_law, unit_law_first}
use Rattle.tender.specs.Calls.{half_in, prepared_refused, prepared_none, half_given, half_refused, c_prepare, c_input, c_output, output_five}

-- "a policy is refused as hopeless exactly if, from its start, some length has no permitted stream": prepare's code, of a file that passes its checks and
-- with a slice for the marks that is long enough.
pub code_hopeless :
    {reading : ℕ} {file before marks : List ℕ} {r : Answer Summary} → PreparePromise reading file before r marks →
    refusal_under reading file ≡ 0 → states (policy_of reading file) ≤ length before →
    (r ≡ refused 11) ↔ Hopeless (Permits (policy_of reading file))
code_hopeless {reading} {file} {before} {r = r} h passed long =
    Iff.trans (λ e. sym h.said ∙ e, λ e. h.said ∙ e)
    (hopeless_exactly reading file before passed long)

-- "Otherwise" prepare's code gives a summary.
pub code_otherwise :
    {reading : ℕ} {file before marks : List ℕ} {r : Answer Summary} → PreparePromise reading file before r marks →
    refusal_under reading file ≡ 0 → states (policy_of reading file) ≤ length before →
    (¬ Hopeless (Permits (policy_of reading file))) ↔ ((s : Summary) × (r ≡ gives s))
code_otherwise {reading} {file} {before} {r = r} h passed long = (
  λ n.
      let t = summary_of (policy_of reading file) in
      let d : Summary = record { verdict = t.verdict; states = t.states; live = t.live } in
      (d, h.said ∙ (prepared_otherwise reading file before passed long).0 n),
  λ g. not_both (Permits (policy_of reading file)) [] (given_goes_on reading file before g.0 (sym h.said ∙ g.1)),
)

-- "With the marks of prepare and a live state, run and the input half never give 17": with the marks that prepare's code wrote, from any state.
module _ {reading : ℕ} {file before marks : List ℕ} {r : Answer Summary} (h : PreparePromise reading file before r marks)
    (passed : refusal_under reading file ≡ 0) (long : states (policy_of reading file) ≤ length before) where
  -- The code's input half never gives 17.
  pub code_input_never_17 : {s : State} {x : ℕ} {a : Answer ℕ} → InputPromise reading file marks s x a → ¬ (a ≡ refused 17)
  code_input_never_17 {s} {x} i e =
      input_never_17 reading file before passed long s x
      (subst (λ (m : List ℕ). input_of reading file m s x ≡ refused 17) h.marks (sym i.said ∙ e))

  -- Run's code never gives 17.
  pub code_run_never_17 :
      {s : State} {events out after : List ℕ} {q : Ran} → RunPromise reading file marks s events out q after → ¬ (q.refusal ≡ 17)
  code_run_never_17 {s} {events} {out} k e =
      run_never_17 reading file before passed long s events out
      (subst (λ (m : List ℕ). (run_of reading file m s events out).refusal ≡ 17) h.marks (ap (λ (z : RunAnswer). z.refusal) (sym k.said) ∙ e))

-- Where prepare gives a summary, the start is the state `start_state`: location 0 and four clocks at 0.
from-start :
    (reading : ℕ) (file before events out : List ℕ) (s : Summary) → prepare_of reading file before ≡ gives s →
    from_start reading file before events out ≡ run_of reading file (prepared_marks reading file before) start_state events out
from-start reading file before events out s e =
    ap (λ (z : State). run_of reading file (prepared_marks reading file before) z events out)
    (start_is (policy_of reading file) (well_formed reading file (given_passed reading file before s e)).clocks)

-- What run's code answered is what the definitions say of a run from the start with the marks of prepare.
code_runs :
    {reading : ℕ} {file before marks events out after : List ℕ} {s : Summary} {r : Ran} → PreparePromise reading file before (gives s) marks →
    RunPromise reading file marks start_state events out r after → from_start reading file before events out ≡ ran_said r after
code_runs {reading} {file} {before} {events = events} {out = out} {s = s} h k =
    from-start reading file before events out s (sym h.said)
    ∙ ap (λ (m : List ℕ). run_of reading file m start_state events out) (sym h.marks)
    ∙ sym k.said

-- "Otherwise" .. "one event is released for each one read": prepare's code gave a summary, and run's code ran from `State::start()` with those marks, over
-- events within the signals and into a slice that holds as many.
pub code_releases :
    {reading : ℕ} {file before marks events out after : List ℕ} {s : Summary} {r : Ran} → PreparePromise reading file before (gives s) marks →
    RunPromise reading file marks start_state events out r after → all_pass (event_good reading file) events ≡ true → length events ≤ length out →
    Released (policy_of reading file) events out (ran_said r after)
code_releases {reading} {file} {before} {events = events} {out = out} {s = s} h k good long =
    subst (Released (policy_of reading file) events out) (code_runs h k) (releases reading file before s (sym h.said) events out good long)

-- The same for a controller in C. The five zeros that its header names for the start are `State::start()`.
abbrev pub c_start : List ℕ
c_start = 0 ∷ 0 ∷ 0 ∷ 0 ∷ 0 ∷ []

-- The five zeros, read as a state, are the start.
pub c-start : state_in c_start ≡ start_state
c-start = refl

-- What groovepawn_run answered, read as the header's macros read it, with the five numbers of the state and the slice of the released events.
abbrev pub run_read : ℕ → (state out : List ℕ) → RunAnswer
run_read r state out = record { refusal = r % 256; count = r / 256; state = state_in state; out = out }

-- Where the word of groovepawn_prepare has no refusal, prepare gives a summary.
pub prepare_read : {reading : ℕ} {file before marks : List ℕ} {v : ℕ} → PrepareCall reading file before v marks → v % 256 ≡ 0 →
    (s : Summary) × (prepare_of reading file before ≡ gives s)
prepare_read {reading} {file} {before} {v = v} h z =
    let s : Summary = record { verdict = v / 256 % 256; states = v / 65536 % 16777216; live = v / 1099511627776 } in
    let e : summary_in v ≡ gives s = rw z in
    (s, sym (prepare_fields reading file before) ∙ ap summary_in (sym h.said) ∙ e)

answer_17 : (w : ℕ) → w % 256 ≡ 17 → answer_in w ≡ refused 17
answer_17 w e = rw e

refused_number : {a : Answer ℕ} {n m : ℕ} → a ≡ refused n → a ≡ refused m → n ≡ m
refused_number e k = cc

-- "refused as hopeless exactly if", "Otherwise": the word of groovepawn_prepare, of a file that passes its checks and with a slice that is long enough.
module _ {reading : ℕ} {file before marks : List ℕ} {v : ℕ} (h : PrepareCall reading file before v marks)
    (passed : refusal_under reading file ≡ 0) (long : states (policy_of reading file) ≤ length before) where
  -- The word's refusal is 11 exactly if the policy is hopeless.
  pub c_hopeless : (v % 256 ≡ 11) ↔ Hopeless (Permits (policy_of reading file))
  c_hopeless =
      let k = prepared_refused v 10 in
      let d = code_hopeless (c_prepare h) passed long in
      (λ e. d.0 (k.1 e), λ e. k.0 (d.1 e))

  -- The word has no refusal exactly if the policy is not hopeless.
  pub c_otherwise : (¬ Hopeless (Permits (policy_of reading file))) ↔ (v % 256 ≡ 0)
  c_otherwise =
      let d = code_otherwise (c_prepare h) passed long in (
        λ n. prepared_none v (d.0 n).1,
        λ z. let s = prepare_read h z in not_both (Permits (policy_of reading file)) [] (given_goes_on reading file before s.0 s.1),
      )

  granted : marks_refusal reading file marks ≡ 0
  granted = subst (λ (m : List ℕ). marks_refusal reading file m ≡ 0) (sym h.marks) (prepared_granted reading file before passed long)

  -- Numbers that are no state are not refused by 17 either.
  odd_never : (room : Bool) → ¬ (odd_refusal reading file marks room ≡ 17)
  unfolding odd_refusal
  odd_never room e = go room (sym (rw granted) ∙ e)
    where
      go : (t : Bool) → ¬ ((unless t 14 or_else 16) ≡ 17)
      go true e = omega arith
      go false e = omega arith

  -- groovepawn_input never gives 17.
  pub c_input_never_17 : {state : List ℕ} {x w : ℕ} → InputCall reading file marks state x w → ¬ (w % 256 ≡ 17)
  c_input_never_17 {state} {x} {w} i e = go (is_state state) refl
    where
      go : (t : Bool) → is_state state ≡ t → ⊥
      go true is = code_input_never_17 (c_prepare h) passed long (c_input (eqb-true (length state) 5 is) i) (half_refused w 16 e)
      go false is =
          let said = ap answer_in i.said ∙ input_fields reading file marks state x in
          let odd : answer_in w ≡ refused (odd_refusal reading file marks true) = rw is at said in
          odd_never true (refused_number odd (answer_17 w e))

  -- groovepawn_run never gives 17.
  pub c_run_never_17 :
      {state events out after written : List ℕ} {w : ℕ} → RunCall reading file marks state events out w after written → ¬ (w % 256 ≡ 17)
  c_run_never_17 {state} {events} {out} {w = w} k e = go (is_state state) refl
    where
      go : (t : Bool) → is_state state ≡ t → ⊥
      go t is =
          let f = run_fields reading file marks state events out in
          let said = sym f.refusal ∙ ap (λ (n : ℕ). n % 256) (sym k.said) ∙ e in
          by t (rw is at said)
        where
          by : (t : Bool) →
              ¬ (cond t (run_of reading file marks (state_in state) events out).refusal (odd_refusal reading file marks (leb (length events) (length out))) ≡ 17)
          by true d =
              run_never_17 reading file before passed long (state_in state) events out
              (subst (λ (m : List ℕ). (run_of reading file m (state_in state) events out).refusal ≡ 17) h.marks d)
          by false d = odd_never _ d

-- groovepawn_prepare refused nothing, and groovepawn_run ran from the five zeros with those marks, over fewer than 2^56 events: what it answered is
-- what the definitions say of a run from the start, where that is demand 2's stream.
c_runs :
    {reading : ℕ} {file before marks events out state written : List ℕ} {v r : ℕ} → PrepareCall reading file before v marks → v % 256 ≡ 0 →
    RunCall reading file marks c_start events out r state written → length events < 2 ^ 56 →
    Released (policy_of reading file) events out (from_start reading file before events out) →
    from_start reading file before events out ≡ run_read r state written
unfolding run_state run_out
c_runs {reading} {file} {before} {marks} {events} {out} {state} {written} {r = r} h z k few released =
    let p = policy_of reading file in
    let s = prepare_read h z in
    let q = run_of reading file marks (state_in c_start) events out in
    let same : from_start reading file before events out ≡ q =
    from-start reading file before events out s.0 s.1 ∙ ap (λ (m : List ℕ). run_of reading file m start_state events out) (sym h.marks)
    in
    let a : Released p events out q = subst (Released p events out) same released in
    let f = run_fields reading file marks c_start events out in
    let refusal : q.refusal ≡ r % 256 = sym (ap (λ (n : ℕ). n % 256) k.said ∙ f.refusal) in
    let count : q.count ≡ r / 256 = sym (ap (λ (n : ℕ). n / 256) k.said ∙ f.whole few) in
    let ok = well_formed reading file (given_passed reading file before s.0 s.1) in
    let clocks : length q.state.clocks ≡ 4 =
    ap (λ (t : State). length t.clocks) a.state ∙ four_long a.place.clocks (omega (arith, (leads_inside p ok a.leads).clocks, ok.clocks))
    in
    let there : q.state ≡ state_in state = sym (ap state_in k.next ∙ words_in q.state clocks) in
    let out : q.out ≡ written = sym k.released in
    same ∙ (λ i. record { refusal = refusal i; count = count i; state = there i; out = out i })

-- For fewer than 2^56 events within the signals, which the slice can hold, groovepawn_run released demand 2's stream.
pub c_releases :
    {reading : ℕ} {file before marks events out state written : List ℕ} {v r : ℕ} → PrepareCall reading file before v marks → v % 256 ≡ 0 →
    RunCall reading file marks c_start events out r state written →
    all_pass (event_good reading file) events ≡ true → length events ≤ length out → length events < 2 ^ 56 →
    Released (policy_of reading file) events out (run_read r state written)
c_releases {reading} {file} {before} {events = events} {out = out} h z k good long few =
    let s = prepare_read h z in
    let a = releases reading file before s.0 s.1 events out good long in
    subst (Released (policy_of reading file) events out) (c_runs h z k few a) a

-- The two halves in C, used tick after tick over the five numbers of one state: each returned a word without a refusal, its value above eight bits of 0.
pub data CTicks (reading : ℕ) (file marks : List ℕ) : List ℕ → (read released : Stream) → List ℕ → Type 0 where
  c_none : {state : List ℕ} → CTicks reading file marks state [] [] state
  c_more : {state next last : List ℕ} {e r : Event} {es rs : Stream} →
      InputCall reading file marks state e.x (r.x * 256) → OutputCall reading file marks state r.x e.y (r.y * 256) next →
      CTicks reading file marks next es rs last → CTicks reading file marks state (e ∷ es) (r ∷ rs) last

-- A word without a refusal comes from five numbers, and its value is the answer.
value_said : (v : ℕ) (t : Bool) (a : Answer ℕ) (n : ℕ) → answer_in (v * 256) ≡ cond t a (refused n) → (t ≡ true) × (gives v ≡ a)
value_said v true a n e = let f = answer_fields v in (refl, rw (f.0, f.1) at e)
value_said v false a n e = let f = answer_fields v in let h : gives v ≡ refused n = rw (f.0, f.1) at e in let z : ◌≡◌ {A = ℕ} 0 1 = cc in absurd (omega arith)

-- They are the halves of the code, and so all that specs/TickByTick.antt says of those holds of them.
pub c_ticks : {reading : ℕ} {file marks state last : List ℕ} {es rs : Stream} → CTicks reading file marks state es rs last →
    TickByTick reading file marks (state_in state) es rs (state_in last)
unfolding output_state
c_ticks c_none = ticks_none
c_ticks {reading} {file} {marks} (c_more {state = state} {next = next} {e = e} {r = r} i o h) =
    let s = state_in state in
    let input =
    value_said r.x (is_state state) (input_of reading file marks s e.x) _ (ap answer_in i.said ∙ input_fields reading file marks state e.x)
    in
    let out = output_of reading file marks s r.x e.y in
    let output = value_said r.y (is_state state) out.answer _ (ap answer_in o.said ∙ output_fields reading file marks state r.x e.y) in
    let moved : next ≡ state_words out.state = o.next ∙ ap (λ (t : Bool). cond t (state_words out.state) state) output.0 in
    let there : state_in next ≡ out.state = ap state_in moved ∙ words_in out.state (output_four reading file marks s r.x e.y refl) in
    ticks_more (record { said = input.1 })
    (record { said = ap₂ (λ (a : Answer ℕ) (t : State). record { answer = a; state = t }) output.1 there }) (c_ticks h)

-- From { 0, 0, 0, 0, 0 }, after groovepawn_prepare refused nothing: demand 2's stream, and the five numbers are the state that it leads to.
pub c_ticks_release :
    {reading : ℕ} {file before marks last : List ℕ} {v : ℕ} {es rs : Stream} → PrepareCall reading file before v marks → v % 256 ≡ 0 →
    CTicks reading file marks c_start es rs last → TicksReleased (policy_of reading file) es rs (state_in last)
c_ticks_release {reading} {file} {before} h z k =
    let s = prepare_read h z in ticks_release {s = s.0} (record { said = sym s.1; marks = h.marks }) (c_ticks k)

-- Five numbers stay five.
five_stay : {reading : ℕ} {file marks state last : List ℕ} {es rs : Stream} → CTicks reading file marks state es rs last → length state ≡ 5 → length last ≡ 5
five_stay c_none e = e
five_stay (c_more i o h) e = five_stay h (output_five e o)

-- And they never stop: whatever is read next, groovepawn_input refuses nothing, and for the input that it gives and whatever the controller answers
-- groovepawn_output refuses nothing.
pub c_ticks_go_on :
    {reading : ℕ} {file before marks last : List ℕ} {v : ℕ} {es rs : Stream} → PrepareCall reading file before v marks → v % 256 ≡ 0 →
    CTicks reading file marks c_start es rs last → (x w : ℕ) → x < input_values (policy_of reading file) → InputCall reading file marks last x w →
    (w % 256 ≡ 0)
    × ((y u : ℕ) (next : List ℕ) → y < output_values (policy_of reading file) → OutputCall reading file marks last (w / 256) y u next → u % 256 ≡ 0)
c_ticks_go_on {reading} {file} {before} {marks} {last} h z k x w f i =
    let s = prepare_read h z in
    let five = five_stay k refl in
    let on = ticks_go_on {s = s.0} (record { said = sym s.1; marks = h.marks }) (c_ticks k) x (half_in w) f (c_input five i) in
    let value = half_given w on.1 in (
      value.0,
      λ y u next g o.
          let out = c_output five o in
          (half_given u
          (on.2 y (record { answer = half_in u; state = state_in next }) g
          (subst (λ (n : ℕ). OutputPromise reading file marks (state_in last) n y (record { answer = half_in u; state = state_in next })) value.1 out)).1
          ).0,
    )

-- One tick by the two halves is one tick of the run, in C too: over the same events and from the same five numbers, groovepawn_run releases the same and leaves
-- the same state.
pub c_ticks_run :
    {reading : ℕ} {file marks state last out next written : List ℕ} {es rs : Stream} {r : ℕ} → CTicks reading file marks state es rs last →
    length state ≡ 5 → entry_refusal reading file marks (state_in state) ≡ 0 →
    RunCall reading file marks state (map byte_of es) out r next written → length es ≤ length out → length es < 2 ^ 56 →
    (r % 256 ≡ 0) × (r / 256 ≡ length rs) × (next ≡ last) × (written ≡ map byte_of rs ++ drop (length rs) out)
unfolding run_state run_out
c_ticks_run {reading} {file} {marks} {state} {last} {out} {es = es} {rs} {r} h five none k long few =
    let q = run_of reading file marks (state_in state) (map byte_of es) out in
    let ran : Ran = record { refusal = q.refusal; count = q.count; state = q.state } in
    let same : q ≡ record { refusal = 0; count = length rs; state = state_in last; out = map byte_of rs ++ drop (length rs) out } =
    ticks_run {r = ran} (c_ticks h) refl none (record { said = refl }) long
    in
    let is : is_state state ≡ true = eq-eqb (length state) 5 five in
    let f = run_fields reading file marks state (map byte_of es) out in
    let odd = odd_refusal reading file marks (leb (length (map byte_of es)) (length out)) in
    let fewer : length (map byte_of es) < 2 ^ 56 = rw length-map few in (
      ap (λ (n : ℕ). n % 256) k.said ∙ f.refusal ∙ ap (λ (t : Bool). cond t q.refusal odd) is ∙ ap (λ (z : RunAnswer). z.refusal) same,
      ap (λ (n : ℕ). n / 256) k.said ∙ f.whole fewer ∙ ap (λ (t : Bool). cond t q.count 0) is ∙ ap (λ (z : RunAnswer). z.count) same,
      k.next ∙ ap (λ (t : Bool). cond t (state_words q.state) state) is ∙ ap (λ (z : RunAnswer). state_words z.state) same
          ∙ words_back last (five_stay h five),
      k.released ∙ ap (λ (t : Bool). cond t q.out out) is ∙ ap (λ (z : RunAnswer). z.out) same,
    )

-- "Wherever the joins named are made": what join's code wrote is a join that was made.
pub code_joined : {a b before after : List ℕ} {n : ℕ} → JoinPromise a b before (gives n) after → JoinMade a b (take n after)
code_joined {before = before} {n = n} h = record { slice = before; size = n; given = sym h.answers; written = ap (take n) h.writes }

-- What groovepawn_join wrote without a refusal is a join that was made.
pub c_joined : {a b before after : List ℕ} {r : ℕ} → JoinCall a b before r after → r % 256 ≡ 0 → JoinMade a b (take (r / 256) after)
c_joined {a} {b} {before} {r = r} h z =
    let e : answer_in r ≡ gives (r / 256) = rw z in
    record {
      slice = before;
      size = r / 256;
      given = sym (join_fields a b before) ∙ ap answer_in (sym h.said) ∙ e;
      written = ap (take (r / 256)) h.out;
    }

-- So demand 3 speaks of the files that the code wrote: "the join permits exactly the streams that all its parts permit", and "rests only where all
-- parts rest together", read under one reading.
pub code_permits :
    (reading : ℕ) {a b before after : List ℕ} {n : ℕ} → JoinPromise a b before (gives n) after →
    Permits (policy_of reading (take n after)) ≋ Permits (policy_of reading a) alongside Permits (policy_of reading b)
code_permits reading h = permits_exactly reading (code_joined h)

-- What groovepawn_join wrote permits exactly what both its parts permit, and rests where both rest.
pub c_permits :
    (reading : ℕ) {a b before after : List ℕ} {r : ℕ} → JoinCall a b before r after → r % 256 ≡ 0 →
    Permits (policy_of reading (take (r / 256) after)) ≋ Permits (policy_of reading a) alongside Permits (policy_of reading b)
c_permits reading h z = permits_exactly reading (c_joined h z)

-- "A with B or B with A", "grouped either way with C", "A with itself", "A with the policy that permits all", on either side: of what join's code wrote, and
-- of what groovepawn_join wrote.
module _ (reading : ℕ) (named : reading_refusal reading ≡ 0) where
  -- A with B and B with A are alike.
  pub code_order :
      {a b x f y g : List ℕ} {n m : ℕ} → JoinPromise a b x (gives n) f → JoinPromise b a y (gives m) g → Alike reading (take n f) (take m g)
  code_order j k = order reading named (code_joined j) (code_joined k)

  -- A with B, and then with C, is like A with the join of B and C.
  pub code_grouping :
      {a b c w f x h y g z k : List ℕ} {n m i j : ℕ} →
      JoinPromise a b w (gives n) f → JoinPromise (take n f) c x (gives m) h →
      JoinPromise b c y (gives i) g → JoinPromise a (take i g) z (gives j) k → Alike reading (take m h) (take j k)
  code_grouping s t u v = grouping reading named (code_joined s) (code_joined t) (code_joined u) (code_joined v)

  -- A with itself is like A.
  pub code_repetition : {a x f : List ℕ} {n : ℕ} → JoinPromise a a x (gives n) f → Alike reading (take n f) a
  code_repetition j = repetition reading named (code_joined j)

  -- A with the policy that permits all is like A.
  pub code_unit : {a x f : List ℕ} {n : ℕ} → JoinPromise a (permits_all a) x (gives n) f → Alike reading (take n f) a
  code_unit j = unit_law reading named (code_joined j)

  -- The policy that permits all, with A, is like A.
  pub code_unit_first : {a x f : List ℕ} {n : ℕ} → JoinPromise (permits_all a) a x (gives n) f → Alike reading (take n f) a
  code_unit_first j = unit_law_first reading named (code_joined j)

  -- In C: A with B and B with A are alike.
  pub c_order :
      {a b x f y g : List ℕ} {r q : ℕ} → JoinCall a b x r f → r % 256 ≡ 0 → JoinCall b a y q g → q % 256 ≡ 0 →
      Alike reading (take (r / 256) f) (take (q / 256) g)
  c_order j z k o = order reading named (c_joined j z) (c_joined k o)

  -- In C: A with B, and then with C, is like A with the join of B and C.
  pub c_grouping :
      {a b c w f x h y g z k : List ℕ} {n m i j : ℕ} →
      JoinCall a b w n f → n % 256 ≡ 0 → JoinCall (take (n / 256) f) c x m h → m % 256 ≡ 0 →
      JoinCall b c y i g → i % 256 ≡ 0 → JoinCall a (take (i / 256) g) z j k → j % 256 ≡ 0 → Alike reading (take (m / 256) h) (take (j / 256) k)
  c_grouping s d t e u f v g = grouping reading named (c_joined s d) (c_joined t e) (c_joined u f) (c_joined v g)

  -- In C: A with itself is like A.
  pub c_repetition : {a x f : List ℕ} {r : ℕ} → JoinCall a a x r f → r % 256 ≡ 0 → Alike reading (take (r / 256) f) a
  c_repetition j z = repetition reading named (c_joined j z)

  -- In C: A with the policy that permits all is like A.
  pub c_unit : {a x f : List ℕ} {r : ℕ} → JoinCall a (permits_all a) x r f → r % 256 ≡ 0 → Alike reading (take (r / 256) f) a
  c_unit j z = unit_law reading named (c_joined j z)

  -- In C: the policy that permits all, with A, is like A.
  pub c_unit_first : {a x f : List ℕ} {r : ℕ} → JoinCall (permits_all a) a x r f → r % 256 ≡ 0 → Alike reading (take (r / 256) f) a
  c_unit_first j z = unit_law_first reading named (c_joined j z)

-- "the same released stream", of two runs over the same events and slice: none is refused, each releases it whole, and the slices hold the same.
pub record SameRuns (reading : ℕ) (f g events out : List ℕ) (a b : RunAnswer) : Type 0 where
  pub released : Stream
  pub first : ReleasedFor (policy_of reading f) events released
  pub second : ReleasedFor (policy_of reading g) events released
  pub refusals : (a.refusal ≡ 0) × (b.refusal ≡ 0)
  pub counts : (a.count ≡ length events) × (b.count ≡ length events)
  pub written : (a.out ≡ map byte_of released ++ drop (length events) out) × (b.out ≡ a.out)

same_runs :
    {reading : ℕ} {f m g n events out : List ℕ} → SameReleased reading f m g n events out → {a b : RunAnswer} →
    from_start reading f m events out ≡ a → from_start reading g n events out ≡ b → SameRuns reading f g events out a b
same_runs {reading} {f} {g = g} {events = events} c {a} {b} one two =
    record {
      released = c.first.released;
      first = c.first.enforced;
      second = subst (ReleasedFor (policy_of reading g) events) (sym c.stream) c.second.enforced;
      refusals = (ap (λ (z : RunAnswer). z.refusal) (sym one) ∙ c.first.refusal, ap (λ (z : RunAnswer). z.refusal) (sym two) ∙ c.second.refusal);
      counts = (ap (λ (z : RunAnswer). z.count) (sym one) ∙ c.first.count, ap (λ (z : RunAnswer). z.count) (sym two) ∙ c.second.count);
      written = (
        ap (λ (z : RunAnswer). z.out) (sym one) ∙ c.first.out,
        ap (λ (z : RunAnswer). z.out) (sym two) ∙ sym c.answer.out ∙ ap (λ (z : RunAnswer). z.out) one,
      );
    }

-- Prepare's code gave a summary for both files, and run's code, from `State::start()` and with the marks m and n that prepare wrote, releases the same
-- for both.
pub record SameGiven (reading : ℕ) (f m g n : List ℕ) (r q : Answer Summary) : Type 0 where
  pub first : (s : Summary) × (r ≡ gives s)
  pub second : (s : Summary) × (q ≡ gives s)
  pub runs :
      (events out after also : List ℕ) (a b : Ran) → all_pass (event_good reading f) events ≡ true → length events ≤ length out →
      RunPromise reading f m start_state events out a after → RunPromise reading g n start_state events out b also →
      SameRuns reading f g events out (ran_said a after) (ran_said b also)

-- "hopeless together, or the same released stream for every event stream": of two files that are alike, and with slices for the marks that are long
-- enough, prepare's code refuses both by 11, or run's code releases the same for both.
pub code_alike :
    {reading : ℕ} {f x m g y n : List ℕ} {r q : Answer Summary} → Alike reading f g → PreparePromise reading f x r m → PreparePromise reading g y q n →
    states (policy_of reading f) ≤ length x → states (policy_of reading g) ≤ length y →
    ((r ≡ refused 11) × (q ≡ refused 11)) ⊎ SameGiven reading f m g n r q
code_alike {reading} {f} {x} {m} {g} {y} {n} {r} {q} alike h k l o =
    ⊎_elim
    (λ d. inl (h.said ∙ d.0, k.said ∙ d.1))
    (λ d.
    let s : Summary = (summary_of (policy_of reading f)) in
    let t : Summary = (summary_of (policy_of reading g)) in
    let i : r ≡ gives s = h.said ∙ d.0 in
    let j : q ≡ gives t = k.said ∙ d.1 in
    let of_f = subst (λ (z : Answer Summary). PreparePromise reading f x z m) i h in
    let of_g = subst (λ (z : Answer Summary). PreparePromise reading g y z n) j k in
    inr (record {
      first = (s, i);
      second = (t, j);
      runs = λ events out after also a b good long u v. same_runs (d.2 events out good long) (code_runs of_f u) (code_runs of_g v);
    })) (alike.together x y l o)

-- The same in C: groovepawn_prepare refused neither file, and groovepawn_run, from { 0, 0, 0, 0, 0 } and over fewer than 2^56 events, releases the same
-- for both.
pub record CSameGiven (reading : ℕ) (f m g n : List ℕ) (v w : ℕ) : Type 0 where
  pub given : (v % 256 ≡ 0) × (w % 256 ≡ 0)
  pub runs :
      (events out state after other also : List ℕ) (r q : ℕ) →
      all_pass (event_good reading f) events ≡ true → length events ≤ length out → length events < 2 ^ 56 →
      RunCall reading f m c_start events out r state after → RunCall reading g n c_start events out q other also →
      SameRuns reading f g events out (run_read r state after) (run_read q other also)

-- Of two files that are alike, groovepawn_prepare refuses both by 11, or groovepawn_run releases the same for both.
pub c_alike :
    {reading : ℕ} {f x m g y n : List ℕ} {v w : ℕ} → Alike reading f g → PrepareCall reading f x v m → PrepareCall reading g y w n →
    states (policy_of reading f) ≤ length x → states (policy_of reading g) ≤ length y →
    ((v % 256 ≡ 11) × (w % 256 ≡ 11)) ⊎ CSameGiven reading f m g n v w
c_alike {reading} {f} {x} {m} {g} {y} {n} {v} {w} alike h k l o =
    ⊎_elim
    (λ d. inl (
      (prepared_refused v 10).0 ((c_prepare h).said ∙ d.0),
      (prepared_refused w 10).0 ((c_prepare k).said ∙ d.1),
    ))
    (λ d.
    let s : Summary = (summary_of (policy_of reading f)) in
    let t : Summary = (summary_of (policy_of reading g)) in
    let i = prepared_none v ((c_prepare h).said ∙ d.0) in
    let j = prepared_none w ((c_prepare k).said ∙ d.1) in
    inr (record {
      given = (i, j);
      runs = λ events out state after other also r q good long few a b.
          let c = d.2 events out good long in
          same_runs c (c_runs h i a few c.first) (c_runs k j b few c.second);
    })) (alike.together x y l o)
