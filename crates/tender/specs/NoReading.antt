-- "Callers name reading 1 or 2." "Refusals: 22 for any other number, before all else": whatever else an entry is given, it answers 22, and nothing is written
-- or moved. Of every entry that takes a reading, by its promise; and of every such function in C, by its call.
use Rattle.streams.specs.Answer.{Answer, refused}
use Rattle.cleaning.specs.declared.Lengths.{Lengths}
use Rattle.prepare.specs.declared.Summary.{Summary}
use Rattle.std.specs.Prelude.{◌≡◌, refl, Bool, true, false, cond, List, ℕ, length}
use Rattle.std.proofs.Common.{sym, ◌∙◌, arith}
use Rattle.std.proofs.Math.Path.{ap}
use Rattle.policy.specs.Layout.{checked_under, no_layout}
use Rattle.enforcer.specs.Entries.{OutputAnswer}
use Rattle.enforcer.specs.Promises.{InputPromise, OutputPromise, RunPromise, input_one, output_one, run_one}
use Rattle.stepping.specs.declared.state.State.{State}
use Rattle.enforcer.specs.Promises.{Ran}
use Rattle.prepare.specs.Promise.{PreparePromise, prepare_one}
use Rattle.fast.specs.Entry.{Work, shortest, lent_refusal}
use Rattle.fast.specs.Promise.{FastPromise}
use Rattle.fast.proofs.PromiseLaws.{first_refusals}
use Rattle.indexed.specs.Entries.{early_refusal, index_refusal}
use Rattle.indexed.specs.Promises.{InputIndexedPromise, OutputIndexedPromise, input_one as input_indexed_one, output_one as output_indexed_one}
use Rattle.reasons.specs.Entry.{refuses, answers_one}
use Rattle.explaining.specs.EachHalf.{Reasons}
use Rattle.reasons.specs.Promise.{WhyPromise, why_one}
use Rattle.reasons.specs.Word.{why_word}
use Rattle.reasons.specs.Runs.{Room, shortest_of, room_refusal, early_refusal as early_run_refusal, why_run_refusal, WhyRunPromise, refuses as run_refuses, run_answers_one, why_run_one}
use Rattle.stepping.specs.Five.{state_in}
use Rattle.bays.specs.Odd.{odd_refusal}
use Rattle.bays.specs.Entries.{BayAnswer}
use Rattle.bays.specs.Promises.{BayInputPromise, BayOutputPromise, bay_input_one, bay_output_one}
use Rattle.meter.specs.Entries.{MeterAnswer}
use Rattle.meter.specs.Promises.{MeterInputPromise, MeterOutputPromise, meter_input_one, meter_output_one}
use Rattle.cleaning.specs.Promise.{CleanPromise, clean_one}
use Rattle.groovepawn.specs.Words.{answer_word, summary_word, ran_word, is_state, prepare_word, input_word, output_word, run_word}
use Rattle.groovepawn.specs.Calls.{PrepareCall, InputCall, OutputCall, RunCall}
use Rattle.groovepawn.specs.Stays.{output_stays, run_stays}
use Rattle.groovepawn.specs.Fast.{FastCall}
use Rattle.groovepawn.specs.Indexed.{InputIndexedCall, OutputIndexedCall, input_indexed_word, output_indexed_word, odd_indexed}
use Rattle.groovepawn.specs.IndexedLaws.{output_indexed_stays}
use Rattle.groovepawn.specs.Bays.{BayInputCall, BayOutputCall}
use Rattle.groovepawn.specs.Meter.{MeterInputCall, MeterOutputCall}
use Rattle.groovepawn.specs.Why.{WhyCall, odd_why_run, WhyRunCall, why_run_stays}
use Rattle.groovepawn.specs.Clean.{CleanCall, lengths_word, clean_word}
use Rattle.tender.specs.Demand1Shown.{under_22, first_22, check_22, prepare_22, fast_22, input_22, output_22, run_22, why_22, input_indexed_22, output_indexed_22, bay_input_22, bay_output_22, meter_input_22, meter_output_22, clean_22}

-- Of the entries.
pub record Entries22 (reading : ℕ) : Type 0 where
  pub check : (file : List ℕ) → checked_under reading file ≡ record { refusal = 22; layout = no_layout }
  pub prepare : {file before after : List ℕ} {r : Answer Summary} → PreparePromise reading file before r after → (r ≡ refused 22) × (after ≡ before)
  pub prepare_fast :
      {file before after : List ℕ} {work left : Work} {r : Answer Summary} → FastPromise reading file before work r after left →
      (r ≡ refused 22) × (after ≡ before) × (left ≡ work)
  pub input : {file marks : List ℕ} {s : State} {x : ℕ} {r : Answer ℕ} → InputPromise reading file marks s x r → r ≡ refused 22
  pub output :
      {file marks : List ℕ} {s : State} {x y : ℕ} {r : OutputAnswer} → OutputPromise reading file marks s x y r →
      r ≡ record { answer = refused 22; state = s }
  pub run :
      {file marks events before after : List ℕ} {s : State} {r : Ran} → RunPromise reading file marks s events before r after →
      (r ≡ record { refusal = 22; count = 0; state = s }) × (after ≡ before)
  pub input_indexed :
      {file index marks : List ℕ} {s : State} {x : ℕ} {r : Answer ℕ} → InputIndexedPromise reading file index marks s x r → r ≡ refused 22
  pub output_indexed :
      {file index marks : List ℕ} {s : State} {x y : ℕ} {r : OutputAnswer} → OutputIndexedPromise reading file index marks s x y r →
      r ≡ record { answer = refused 22; state = s }
  pub why : {file marks : List ℕ} {s : State} {x y : ℕ} {r : Answer Reasons} → WhyPromise reading file marks s x y r → r ≡ refused 22
  pub why_run :
      {file marks events before after : List ℕ} {s : State} {room left : Room} {r : Ran} → WhyRunPromise reading file marks s events before room r after left →
      (r ≡ record { refusal = 22; count = 0; state = s }) × (after ≡ before) × (left ≡ room)
  pub bay_input :
      {file marks states : List ℕ} {bay x : ℕ} {r : Answer ℕ} → BayInputPromise reading file marks states bay x r → r ≡ refused 22
  pub bay_output :
      {file marks states after : List ℕ} {bay x y : ℕ} {r : Answer ℕ} → BayOutputPromise reading file marks states bay x y r after →
      (r ≡ refused 22) × (after ≡ states)
  pub meter_input :
      {file marks station : List ℕ} {register x : ℕ} {r : Answer ℕ} → MeterInputPromise reading file marks station register x r → r ≡ refused 22
  pub meter_output :
      {file marks station totals after risen : List ℕ} {register x y : ℕ} {r : Answer ℕ} →
      MeterOutputPromise reading file marks station totals register x y r after risen →
      (r ≡ refused 22) × (after ≡ station) × (risen ≡ totals)
  pub clean :
      {file out list out_after list_after : List ℕ} {r : Answer Lengths} → CleanPromise reading file out list r out_after list_after →
      (r ≡ refused 22) × (out_after ≡ out) × (list_after ≡ list)

-- Of the functions in C: the word is 22.
pub record Calls22 (reading : ℕ) : Type 0 where
  pub prepare : {file before after : List ℕ} {r : ℕ} → PrepareCall reading file before r after → (r ≡ 22) × (after ≡ before)
  pub prepare_fast :
      {file before after : List ℕ} {work left : Work} {r : ℕ} → FastCall reading file before work r after left →
      (r ≡ 22) × (after ≡ before) × (left ≡ work)
  pub input : {file marks state : List ℕ} {x r : ℕ} → InputCall reading file marks state x r → r ≡ 22
  pub output : {file marks state after : List ℕ} {x y r : ℕ} → OutputCall reading file marks state x y r after → (r ≡ 22) × (after ≡ state)
  pub run :
      {file marks state events before after written : List ℕ} {r : ℕ} → RunCall reading file marks state events before r after written →
      (r ≡ 22) × (after ≡ state) × (written ≡ before)
  pub input_indexed : {file index marks state : List ℕ} {x r : ℕ} → InputIndexedCall reading file index marks state x r → r ≡ 22
  pub output_indexed :
      {file index marks state after : List ℕ} {x y r : ℕ} → OutputIndexedCall reading file index marks state x y r after → (r ≡ 22) × (after ≡ state)
  pub why : {file marks state : List ℕ} {x y r : ℕ} → WhyCall reading file marks state x y r → r ≡ 22
  pub why_run :
      {file marks state events before after written : List ℕ} {room left : Room} {r : ℕ} →
      WhyRunCall reading file marks state events before room r after written left → (r ≡ 22) × (after ≡ state) × (written ≡ before) × (left ≡ room)
  pub bay_input : {file marks states : List ℕ} {bay x r : ℕ} → BayInputCall reading file marks states bay x r → r ≡ 22
  pub bay_output :
      {file marks states after : List ℕ} {bay x y r : ℕ} → BayOutputCall reading file marks states bay x y r after → (r ≡ 22) × (after ≡ states)
  pub meter_input : {file marks station : List ℕ} {register x r : ℕ} → MeterInputCall reading file marks station register x r → r ≡ 22
  pub meter_output :
      {file marks station totals after risen : List ℕ} {register x y r : ℕ} →
      MeterOutputCall reading file marks station totals register x y r after risen → (r ≡ 22) × (after ≡ station) × (risen ≡ totals)
  pub clean :
      {file out list out_after list_after : List ℕ} {r : ℕ} → CleanCall reading file out list r out_after list_after →
      (r ≡ 22) × (out_after ≡ out) × (list_after ≡ list)

module _ (reading : ℕ) (not_one : ¬ (reading ≡ 1)) (not_two : ¬ (reading ≡ 2)) where
  lent_22 : (file before : List ℕ) (work : ℕ) → ¬ (lent_refusal reading file before work ≡ 0)
  lent_22 file before work e = omega (arith, (first_refusals reading file before work 21 (first_22 reading not_one not_two file before)).0)

  room_22 : (file marks : List ℕ) (work events words : ℕ) → room_refusal reading file marks work events words ≡ 22
  unfolding room_refusal
  room_22 file marks work events words = rw (first_refusals reading file marks work 21 (first_22 reading not_one not_two file marks)).0

  early_22 : (file marks : List ℕ) (s : State) (events words : List ℕ) (work : ℕ) → early_run_refusal reading file marks s events words work ≡ 22
  unfolding early_run_refusal
  early_22 file marks s events words work = rw (room_22 file marks work (length events) (length words))

  why_run_22 : (file marks : List ℕ) (s : State) (events words : List ℕ) (work : ℕ) → why_run_refusal reading file marks s events words work ≡ 22
  unfolding why_run_refusal
  why_run_22 file marks s events words work = rw (early_22 file marks s events words work)

  -- Each entry that takes a reading answers 22 where it is neither 1 nor 2, and writes and moves nothing.
  pub entries_22 : Entries22 reading
  entries_22 =
      record {
        check = check_22 reading not_one not_two;
        prepare = λ {file = file} {before = before} h.
            let k = prepare_22 reading not_one not_two file before in
            prepare_one h (record { said = sym k.0; marks = sym k.1 });
        prepare_fast = λ {file = file} {before = before} {work = work} {r = r} h.
            let k = fast_22 reading not_one not_two file before (shortest work) in
            (h.said ∙ k.0, h.marks ∙ k.1, h.scratch (lent_22 file before (shortest work)));
        input = λ {file = file} {marks = marks} {s = s} {x = x} h. input_one h (record { said = sym (input_22 reading not_one not_two file marks s x) });
        output = λ {file = file} {marks = marks} {s = s} {x = x} {y = y} h.
            output_one h (record { said = sym (output_22 reading not_one not_two file marks s x y) });
        run = λ {file = file} {marks = marks} {events = events} {before = before} {s = s} h.
            run_one h (record { said = sym (run_22 reading not_one not_two file marks s events before) });
        input_indexed = λ {file = file} {index = index} {marks = marks} {s = s} {x = x} h.
            input_indexed_one h (record { said = sym (input_indexed_22 reading not_one not_two file marks s index x) });
        output_indexed = λ {file = file} {index = index} {marks = marks} {s = s} {x = x} {y = y} h.
            output_indexed_one h (record { said = sym (output_indexed_22 reading not_one not_two file marks s index x y) });
        why = λ {file = file} {marks = marks} {s = s} {x = x} {y = y} h.
            why_one h (record { answers = refuses (why_22 reading not_one not_two file marks s x y) });
        why_run = λ {file = file} {marks = marks} {events = events} {before = before} {s = s} {room = room} h.
            let k = why_run_one h (record { answers = run_refuses (why_run_22 file marks s events before (shortest_of room)); scratch = λ n. refl }) in
            (k.0, k.1, h.scratch (λ e. omega (arith, early_22 file marks s events before (shortest_of room))));
        bay_input = λ {file = file} {marks = marks} {states = states} {bay = bay} {x = x} h.
            bay_input_one h (record { said = sym (bay_input_22 reading not_one not_two file marks states bay x) });
        bay_output = λ {file = file} {marks = marks} {states = states} {bay = bay} {x = x} {y = y} h.
            bay_output_one h (record { said = sym (bay_output_22 reading not_one not_two file marks states bay x y) });
        meter_input = λ {file = file} {marks = marks} {station = station} {register = register} {x = x} h.
            meter_input_one h (record { said = sym (meter_input_22 reading not_one not_two file marks station register x) });
        meter_output = λ {file = file} {marks = marks} {station = station} {totals = totals} {register = register} {x = x} {y = y} h.
            meter_output_one h (record { said = sym (meter_output_22 reading not_one not_two file marks station totals register x y) });
        clean = λ {file = file} {out = out} {list = list} h.
            let k = clean_22 reading not_one not_two file out list in
            clean_one h (record { said = sym k.0; cleaned = sym k.1; struck = sym k.2 });
      }

  -- Numbers that are no state are refused by 22 too.
  odd_22 : (file marks : List ℕ) (room : Bool) → odd_refusal reading file marks room ≡ 22
  unfolding odd_refusal
  odd_22 file marks room = rw (first_22 reading not_one not_two file marks)

  odd_indexed_22 : (file index marks : List ℕ) → odd_indexed reading file index marks ≡ 22
  unfolding odd_indexed early_refusal index_refusal
  odd_indexed_22 file index marks = rw (under_22 reading not_one not_two file)

  both_22 : (t : Bool) {a b : ℕ} → a ≡ 22 → b ≡ 22 → cond t a b ≡ 22
  both_22 true a b = a
  both_22 false a b = b

  input_word_22 : (file marks state : List ℕ) (x : ℕ) → input_word reading file marks state x ≡ 22
  unfolding input_word
  input_word_22 file marks state x =
      both_22 (is_state state) (ap answer_word (input_22 reading not_one not_two file marks (state_in state) x)) (odd_22 file marks true)

  output_word_22 : (file marks state : List ℕ) (x y : ℕ) → output_word reading file marks state x y ≡ 22
  unfolding output_word
  output_word_22 file marks state x y =
      both_22 (is_state state) (ap (λ (o : OutputAnswer). answer_word o.answer) (output_22 reading not_one not_two file marks (state_in state) x y)) (odd_22 file marks true)

  run_word_22 : (file marks state events out : List ℕ) → run_word reading file marks state events out ≡ 22
  unfolding run_word
  run_word_22 file marks state events out =
      both_22 (is_state state) (ap ran_word (run_22 reading not_one not_two file marks (state_in state) events out)) (odd_22 file marks _)

  input_indexed_word_22 : (file index marks state : List ℕ) (x : ℕ) → input_indexed_word reading file index marks state x ≡ 22
  unfolding input_indexed_word
  input_indexed_word_22 file index marks state x =
      both_22 (is_state state) (ap answer_word (input_indexed_22 reading not_one not_two file marks (state_in state) index x)) (odd_indexed_22 file index marks)

  output_indexed_word_22 : (file index marks state : List ℕ) (x y : ℕ) → output_indexed_word reading file index marks state x y ≡ 22
  unfolding output_indexed_word
  output_indexed_word_22 file index marks state x y =
      both_22 (is_state state)
      (ap (λ (o : OutputAnswer). answer_word o.answer) (output_indexed_22 reading not_one not_two file marks (state_in state) index x y))
      (odd_indexed_22 file index marks)

  why_word_22 : {file marks state : List ℕ} {x y r : ℕ} → WhyCall reading file marks state x y r → r ≡ 22
  why_word_22 {file} {marks} {state} {x} {y} {r} h = go (is_state state) refl
    where
      go : (t : Bool) → is_state state ≡ t → r ≡ 22
      go true e =
          let a = h.said e in
          let s = state_in state in
          a.3 ∙ ap why_word (answers_one reading file marks s x y a.1 (refuses (why_22 reading not_one not_two file marks s x y)))
      go false e = h.odd e ∙ odd_22 file marks true

  odd_why_run_22 : (file marks : List ℕ) (work events words : ℕ) → odd_why_run reading file marks work events words ≡ 22
  unfolding odd_why_run
  odd_why_run_22 file marks work events words = rw (room_22 file marks work events words)

  module _ {file marks state events before after written : List ℕ} {room left : Room} {r : ℕ} (h : WhyRunCall reading file marks state events before room r after written left) where
    why_run_word_22 : r ≡ 22
    why_run_word_22 = go (is_state state) refl
      where
        go : (t : Bool) → is_state state ≡ t → r ≡ 22
        go true e =
            let a = h.said e in
            let s = state_in state in
            let w = shortest_of room in
            a.2.said ∙ ap ran_word (run_answers_one reading file marks s events before w a.1 (run_refuses (why_run_22 file marks s events before w)))
        go false e = (h.odd e).0 ∙ odd_why_run_22 file marks (shortest_of room) (length events) (length before)

    why_run_left_22 : left ≡ room
    why_run_left_22 = h.scratch (λ t e. omega (arith, early_22 file marks (state_in state) events before (shortest_of room)))

  -- So does each function in C that takes one.
  pub calls_22 : Calls22 reading
  unfolding prepare_word clean_word
  calls_22 =
      record {
        prepare = λ {file = file} {before = before} h.
            let k = prepare_22 reading not_one not_two file before in (h.said ∙ ap summary_word k.0, h.marks ∙ k.1);
        prepare_fast = λ {file = file} {before = before} {work = work} h.
            let k = fast_22 reading not_one not_two file before (shortest work) in
            (h.said ∙ ap summary_word k.0, h.marks ∙ k.1, h.scratch (lent_22 file before (shortest work)));
        input = λ {file = file} {marks = marks} {state = state} {x = x} h. h.said ∙ input_word_22 file marks state x;
        output = λ {file = file} {marks = marks} {state = state} {x = x} {y = y} h.
            let w = output_word_22 file marks state x y in
            (h.said ∙ w, h.next ∙ output_stays reading file marks state x y (λ e. omega (arith, w)));
        run = λ {file = file} {marks = marks} {state = state} {events = events} {before = before} h.
            let w = run_word_22 file marks state events before in
            let k = run_stays reading file marks state events before (λ e. omega (arith, w)) (λ e. omega (arith, w)) in
            (h.said ∙ w, h.next ∙ k.0, h.released ∙ k.1);
        input_indexed = λ {file = file} {index = index} {marks = marks} {state = state} {x = x} h. h.said ∙ input_indexed_word_22 file index marks state x;
        output_indexed = λ {file = file} {index = index} {marks = marks} {state = state} {x = x} {y = y} h.
            let w = output_indexed_word_22 file index marks state x y in
            (h.said ∙ w, h.next ∙ output_indexed_stays reading file index marks state x y (λ e. omega (arith, w)));
        why = why_word_22;
        why_run = λ {r = r} h.
            let w = why_run_word_22 h in
            let k = why_run_stays h (λ e. omega (arith, w)) in
            (w, k.0, k.1, why_run_left_22 h);
        bay_input = λ {file = file} {marks = marks} {states = states} {bay = bay} {x = x} h.
            h.said ∙ ap answer_word (bay_input_22 reading not_one not_two file marks states bay x);
        bay_output = λ {file = file} {marks = marks} {states = states} {bay = bay} {x = x} {y = y} h.
            let k = bay_output_22 reading not_one not_two file marks states bay x y in
            (h.said ∙ ap (λ (a : BayAnswer). answer_word a.answer) k, h.next ∙ ap (λ (a : BayAnswer). a.states) k);
        meter_input = λ {file = file} {marks = marks} {station = station} {register = register} {x = x} h.
            h.said ∙ ap answer_word (meter_input_22 reading not_one not_two file marks station register x);
        meter_output = λ {file = file} {marks = marks} {station = station} {totals = totals} {register = register} {x = x} {y = y} h.
            let k = meter_output_22 reading not_one not_two file marks station totals register x y in (
              h.said ∙ ap (λ (a : MeterAnswer). answer_word a.answer) k,
              h.next ∙ ap (λ (a : MeterAnswer). a.station) k,
              h.sums ∙ ap (λ (a : MeterAnswer). a.totals) k,
            );
        clean = λ {file = file} {out = out} {list = list} h.
            let k = clean_22 reading not_one not_two file out list in
            (h.said ∙ ap lengths_word k.0, h.cleaned ∙ k.1, h.struck ∙ k.2);
      }
