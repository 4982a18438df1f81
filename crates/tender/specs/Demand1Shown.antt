-- Demand 1 is shown: what follows from the promises of the entries.
-- In order: 22 from the entries under a reading that is neither 1 nor 2; the one answer of prepare for T and for S, and the worthless versions that it
-- rules out.
use Rattle.std.specs.Prelude.{◌≡◌, Bool, true, false, List, ℕ, ◌≤◌, ltb, length}
use Rattle.std.proofs.Math.Path.{refl}
use Rattle.std.proofs.Common.{ap, ◌∙◌, arith}
use borrow.Author.Tests.{ne_eqb, ltb-true, ltb-false}
use Rattle.streams.specs.Answer.{Answer, refused, gives, unless, answer}
use Rattle.policy.specs.File.{policy_of}
use Rattle.policy.specs.Check.{reading_refusal, refusal_under}
use Rattle.policy.specs.CheckLaws.{under_none}
use Rattle.policy.specs.Layout.{checked_under, no_layout}
use Rattle.stepping.specs.State.{is_marked}
use Rattle.enforcer.specs.Entries.{OutputAnswer, marks_refusal, input_refusal, input_of, output_refusal, output_of, run_refusal, run_of}
use Rattle.enforcer.specs.States.{marks_granted}
use Rattle.trimming.specs.Table.{marks_of}
use Rattle.prepare.specs.Entry.{summary_of, prepare_of, prepared_marks}
use Rattle.prepare.specs.PromiseLaws.{said_past}
use Rattle.reasons.specs.Entry.{why_refusal}
use Rattle.indexed.specs.Entries.{index_refusal, input_indexed_of, output_indexed_of}
use Rattle.cleaning.specs.Entry.{clean_refusal, clean_of, cleaned_out, struck_out}
use Rattle.bays.specs.Bays.{bay_count, bay_state}
use Rattle.fast.specs.Entry.{fast_of, fast_marks}
use Rattle.fast.proofs.PromiseLaws.{first_refusals}
use Rattle.bays.specs.Entries.{BayAnswer, no_bay, bay_input_of, bay_output_of}
use Rattle.bays.specs.There.{input_there, output_there, input_none, output_none}
use Rattle.bays.specs.Halves.{refused_stays}
use Rattle.meter.specs.Entries.{meter_refusal, meter_input_of, meter_output_of}
use Rattle.prepare.specs.Promise.{PreparePromise}
use Rattle.prepare.specs.declared.Summary.{Summary}
use Rattle.tender.specs.Samples.{S, T}
use Rattle.tender.specs.Granted.{each_reading}
use Rattle.stepping.specs.declared.state.State.{State}
use Rattle.prepare.specs.Computing.{the_file, the_check, a_step, the_marks}

-- "Callers name reading 1 or 2." "22 for any other number, before all else": whatever else they are given, the check, prepare, the halves, why, the run and
-- clean answer 22, and nothing is written or moved. Over the promises of the code and the C functions, all of them together: specs/NoReading.antt.
module _ (reading : ℕ) (not_one : ¬ (reading ≡ 1)) (not_two : ¬ (reading ≡ 2)) (file : List ℕ) where
  -- Under such a reading every file is refused by 22.
  pub under_22 : refusal_under reading file ≡ 22
  unfolding refusal_under reading_refusal
  under_22 = rw (ne_eqb reading 1 not_one, ne_eqb reading 2 not_two)

  -- The check gives 22 and no layout.
  pub check_22 : checked_under reading file ≡ record { refusal = 22; layout = no_layout }
  unfolding checked_under
  check_22 = rw under_22

  -- Clean gives 22 and writes nothing.
  pub clean_22 :
      (out list : List ℕ) →
      (clean_of reading file out list ≡ refused 22) × (cleaned_out reading file out list ≡ out) × (struck_out reading file out list ≡ list)
  unfolding clean_of cleaned_out struck_out clean_refusal
  clean_22 out list = (rw under_22, rw under_22, rw under_22)

module _ (reading : ℕ) (not_one : ¬ (reading ≡ 1)) (not_two : ¬ (reading ≡ 2)) (file marks : List ℕ) where
  -- The refusals that prepare, the halves and the run begin with give 22.
  pub first_22 : marks_refusal reading file marks ≡ 22
  unfolding marks_refusal
  first_22 = rw (under_22 reading not_one not_two file)

  -- Prepare gives 22 and writes no mark.
  pub prepare_22 : (prepare_of reading file marks ≡ refused 22) × (prepared_marks reading file marks ≡ marks)
  unfolding prepare_of prepared_marks
  prepare_22 = (rw first_22, rw first_22)

  -- The second engine gives 22 and writes no mark, whatever it has to work in.
  pub fast_22 : (work : ℕ) → (fast_of reading file marks work ≡ refused 22) × (fast_marks reading file marks work ≡ marks)
  fast_22 work = let k = first_refusals reading file marks work 21 first_22 in (k.1, k.2)

  module _ (s : State) where
    -- The input half gives 22.
    pub input_22 : (x : ℕ) → input_of reading file marks s x ≡ refused 22
    unfolding input_of input_refusal
    input_22 x = rw first_22

    -- The output half gives 22 and hands back the state it was given.
    pub output_22 : (x y : ℕ) → output_of reading file marks s x y ≡ record { answer = refused 22; state = s }
    unfolding output_of output_refusal
    output_22 x y = rw first_22

    -- With an index, whatever it is.
    module _ (index : List ℕ) where
      -- The input half with an index gives 22.
      pub input_indexed_22 : (x : ℕ) → input_indexed_of reading file index marks s x ≡ refused 22
      unfolding input_indexed_of index_refusal
      input_indexed_22 x = rw (under_22 reading not_one not_two file)

      -- The output half with an index gives 22 and hands back the state it was given.
      pub output_indexed_22 : (x y : ℕ) → output_indexed_of reading file index marks s x y ≡ record { answer = refused 22; state = s }
      unfolding output_indexed_of index_refusal
      output_indexed_22 x y = rw (under_22 reading not_one not_two file)

    -- The refusal of why is 22.
    pub why_22 : (x y : ℕ) → why_refusal reading file marks s x y ≡ 22
    unfolding why_refusal
    why_22 x y = rw first_22

    -- The run gives 22, with count 0 and the state it was given, and writes nothing.
    pub run_22 : (events out : List ℕ) → run_of reading file marks s events out ≡ record { refusal = 22; count = 0; state = s; out = out }
    unfolding run_of run_refusal
    run_22 events out = rw first_22

  -- So do the halves of a bay, whatever the list and the bay are.
  module _ (states : List ℕ) (bay : ℕ) where
    none_22 : no_bay reading file marks ≡ 22
    unfolding no_bay
    none_22 = rw first_22

    -- A bay's input half gives 22.
    pub bay_input_22 : (x : ℕ) → bay_input_of reading file marks states bay x ≡ refused 22
    bay_input_22 x = go (ltb bay (bay_count states)) refl
      where
        go : (t : Bool) → ltb bay (bay_count states) ≡ t → bay_input_of reading file marks states bay x ≡ refused 22
        go true e = input_there reading file marks states bay (ltb-true _ _ e) x ∙ input_22 (bay_state states bay) x
        go false e = input_none reading file marks states bay x (ltb-false _ _ e) ∙ ap refused none_22

    -- A bay's output half gives 22 and moves no state of the list.
    pub bay_output_22 : (x y : ℕ) → bay_output_of reading file marks states bay x y ≡ record { answer = refused 22; states = states }
    bay_output_22 x y = let e = said in let k = refused_stays reading file marks states bay x y e in λ i. record { answer = e i; states = k i }
      where
        go : (t : Bool) → ltb bay (bay_count states) ≡ t → (bay_output_of reading file marks states bay x y).answer ≡ refused 22
        go true e =
            ap (λ (r : BayAnswer). r.answer) (output_there reading file marks states bay (ltb-true _ _ e) x y)
            ∙ ap (λ (r : OutputAnswer). r.answer) (output_22 (bay_state states bay) x y)
        go false e = ap (λ (r : BayAnswer). r.answer) (output_none reading file marks states bay x y (ltb-false _ _ e)) ∙ ap refused none_22

        said : (bay_output_of reading file marks states bay x y).answer ≡ refused 22
        said = go (ltb bay (bay_count states)) refl

  -- And those of the meter, whatever the station, the totals and the register are.
  module _ (station : List ℕ) where
    -- The meter's input half gives 22.
    pub meter_input_22 : (register x : ℕ) → meter_input_of reading file marks station register x ≡ refused 22
    unfolding meter_input_of meter_refusal
    meter_input_22 register x = rw (under_22 reading not_one not_two file)

    -- The meter's output half gives 22 and moves neither station nor totals.
    pub meter_output_22 : (totals : List ℕ) (register x y : ℕ) →
        meter_output_of reading file marks station totals register x y ≡ record { answer = refused 22; station = station; totals = totals }
    unfolding meter_output_of meter_refusal
    meter_output_22 totals register x y = rw (under_22 reading not_one not_two file)

-- Past 22 and 1 to 10, what is left for prepare to answer of a file under a reading.
abbrev left : ℕ → List ℕ → Answer Summary
left reading file = answer (unless (is_marked (marks_of (policy_of reading file)) 0) 11) (summary_of (policy_of reading file))

module _ {reading : ℕ} (named : reading_refusal reading ≡ 0) {before after : List ℕ} where
  -- Under each reading, into a slice that is long enough, T has one answer: the marked case "T: 2 states, 1 live, verdict 1".
  pub T-answer : {r : Answer Summary} →
      PreparePromise reading T before r after → 2 ≤ length before → r ≡ gives (record { verdict = 1; states = 2; live = 1 })
  unfolding the_file the_check a_step the_marks
  T-answer {r} h long =
      h.said ∙ said_past reading T before ((marks_granted reading T before).1 ((under_none reading T).1 (named, refl), long))
      ∙ each_reading (λ n. left n T ≡ gives (record { verdict = 1; states = 2; live = 1 })) refl refl reading named

  -- "one inventing the number of live states": whatever it says of T but the right numbers, it breaks the promise.
  pub not_inventing : {s : Summary} →
      PreparePromise reading T before (gives s) after → 2 ≤ length before → (s.live ≡ 1) × (s.states ≡ 2) × (s.verdict ≡ 1)
  not_inventing h long = let e = T-answer h long in (cc, cc, cc)

  -- Into a slice that is long enough, S has one answer: the marked case "S: 1 state, 1 live, verdict 0".
  pub S-answer : {r : Answer Summary} →
      PreparePromise reading S before r after → 1 ≤ length before → r ≡ gives (record { verdict = 0; states = 1; live = 1 })
  unfolding the_file the_check a_step the_marks
  S-answer {r} h long =
      h.said ∙ said_past reading S before ((marks_granted reading S before).1 ((under_none reading S).1 (named, refl), long))
      ∙ each_reading (λ n. left n S ≡ gives (record { verdict = 0; states = 1; live = 1 })) refl refl reading named

  -- "one refusing always": a prepare that refuses S, by whatever number, breaks the promise.
  pub not_refusing : {n : ℕ} → PreparePromise reading S before (refused n) after → ¬ (1 ≤ length before)
  not_refusing h long = let e = S-answer h long in let z : ◌≡◌ {A = ℕ} 0 1 = cc in omega arith
