-- Each function in C is the entry below it: what it returned and left keeps that entry's promise, with the answer that the header's macros read from its word.
-- So whatever is said of the entries' promises holds of the functions in C.
-- In order: what a word says; then, function by function: prepare, the two halves, join, clean, bays, the meter, waves, texts.
use Rattle.std.specs.Prelude.{◌≡◌, refl, Bool, true, List, ◌↔◌, ℕ, zero, suc, ◌/◌, ◌%◌, ◌^◌, ◌<◌, length}
use Rattle.std.proofs.Common.{ap₂, ◌∙◌, arith, eq-eqb}
use Rattle.std.proofs.Math.Path.{ap}
use Rattle.std.proofs.Math.Bool.{cond}
use Rattle.streams.specs.Answer.{refused, gives, answer}
use Rattle.streams.specs.Answer as Said
use Rattle.streams.specs.AnswerLaws.{given_only}
use Rattle.enforcer.specs.Entries.{OutputAnswer, input_of, output_of}
use Rattle.enforcer.specs.Promises.{InputPromise, OutputPromise}
use Rattle.stepping.specs.declared.state.State.{State}
use Rattle.prepare.specs.Promise.{PreparePromise}
use Rattle.prepare.specs.declared.Summary.{Summary}
use Rattle.fast.specs.Entry.{Work, shortest}
use Rattle.fast.specs.Promise.{FastPromise}
use Rattle.join.specs.Promise.{JoinPromise}
use Rattle.stepping.specs.Five.{state_words, state_in, words_in}
use Rattle.bays.specs.Odd.{odd_refusal}
use Rattle.bays.specs.Halves.{output_four}
use Rattle.bays.specs.Promises.{NewPromise, BayInputPromise, BayOutputPromise}
use Rattle.meter.specs.Promises.{MeterNewPromise, MeterInputPromise, MeterOutputPromise}
use Rattle.cleaning.specs.Promise.{CleanPromise}
use Rattle.cleaning.specs.declared.Lengths.{Lengths}
use Rattle.compiling.specs.Promise.{ReadTextPromise}
use Rattle.showing.specs.Promise.{WriteTextPromise}
use Rattle.pointing.specs.RuleAt.{RuleAtPromise}
use Rattle.pointing.specs.NameAt.{NameAtPromise}
use Rattle.waves.specs.Promise.{WritePromise, TakePromise}
use Rattle.groovepawn.specs.Words.{is_state, output_state}
use Rattle.groovepawn.specs.Calls.{PrepareCall, InputCall, OutputCall, JoinCall}
use Rattle.groovepawn.specs.Fields.{summary_in, answer_in, prepare_fields, input_fields, output_fields, join_fields}
use Rattle.groovepawn.specs.Fast.{FastCall, fast_fields}
use Rattle.groovepawn.specs.Bays.{NewCall, BayInputCall, BayOutputCall}
use Rattle.groovepawn.specs.BaysLaws.{bay_input_fields, bay_output_fields}
use Rattle.groovepawn.specs.Meter.{MeterNewCall, MeterInputCall, MeterOutputCall, meter_input_fields, meter_output_fields}
use Rattle.groovepawn.specs.Clean.{CleanCall, lengths_in, clean_fields}
use Rattle.groovepawn.specs.Waves.{WaveWriteCall, WaveReadCall, wave_write_fields, wave_read_fields}
use Rattle.groovepawn.specs.Text.{TextReadCall, TextWriteCall, TextRuleCall, TextNameCall, text_read_of, text_rule_of, text_name_of, where_of, text_read_in, text_rule_in, text_name_in}
use Rattle.groovepawn.specs.Text.{text_read_fields, text_write_numbers, text_rule_fields, text_name_fields}

-- The answer of prepare that a word holds.
abbrev pub prepared_in : ℕ → Said.Answer Summary
prepared_in w = summary_in w

-- The answer of a half that a word holds.
abbrev pub half_in : ℕ → Said.Answer ℕ
half_in w = answer_in w

-- The answer of the join that a word holds.
abbrev pub joined_in : ℕ → Said.Answer ℕ
joined_in w = answer_in w

-- The answer of clean that a word holds.
abbrev pub cleaned_in : ℕ → Said.Answer Lengths
cleaned_in w = lengths_in w

-- The answer of the wave writer that a word holds.
abbrev pub written_in : ℕ → Said.Answer ℕ
written_in w = answer_in w

-- The answer of the wave reader that a word holds.
abbrev pub taken_in : ℕ → Said.Answer ℕ
taken_in w = answer_in w

-- Read as a half's answer, a word says what `answer_in` reads in it.
pub half_read : (w : ℕ) → half_in w ≡ answer_in w
half_read w = refl

-- An answer by the number k refuses by a number above 0 exactly if k is that number.
answer_refused : {A : Type 0} (k n : ℕ) (a : A) → (answer k a ≡ refused (suc n)) ↔ (k ≡ suc n)
answer_refused zero n a = (λ e. let z : ◌≡◌ {A = ℕ} 0 1 = cc in absurd (omega arith), λ e. absurd (omega arith))
answer_refused (suc k) n a = (λ e. cc, λ e. ap refused e)

-- A word refuses by a number above 0 exactly if its low eight bits are that number.
pub word_refused : (w n : ℕ) → (answer_in w ≡ refused (suc n)) ↔ (w % 256 ≡ suc n)
word_refused w n = answer_refused (w % 256) n (w / 256)

-- A word of prepare refuses by a number above 0 exactly if its low eight bits are that number.
pub prepared_refused : (w n : ℕ) → (prepared_in w ≡ Said.refused (suc n)) ↔ (w % 256 ≡ suc n)
prepared_refused w n = answer_refused (w % 256) n _

-- A word of prepare that gives a summary has 0 in its low eight bits.
pub prepared_none : (w : ℕ) {s : Summary} → prepared_in w ≡ Said.gives s → w % 256 ≡ 0
prepared_none w {s} e = (given_only (w % 256) _ s e).0

-- A word of a half that gives a value has 0 in its low eight bits, and the value above them.
pub half_given : (w : ℕ) {v : ℕ} → half_in w ≡ Said.gives v → (w % 256 ≡ 0) × (w / 256 ≡ v)
half_given w {v} e = given_only (w % 256) (w / 256) v e

-- A word of a half whose low eight bits are a number above 0 refuses by it.
pub half_refused : (w n : ℕ) → w % 256 ≡ suc n → half_in w ≡ Said.refused (suc n)
half_refused w n e = (answer_refused (w % 256) n (w / 256)).1 e

-- A word of the wave writer that gives a length has 0 in its low eight bits, and the length above them.
pub written_given : (w : ℕ) {n : ℕ} → written_in w ≡ Said.gives n → (w % 256 ≡ 0) × (w / 256 ≡ n)
written_given w {n} e = given_only (w % 256) (w / 256) n e

-- A word of the wave reader that gives a count has 0 in its low eight bits, and the count above them.
pub taken_given : (w : ℕ) {n : ℕ} → taken_in w ≡ Said.gives n → (w % 256 ≡ 0) × (w / 256 ≡ n)
taken_given w {n} e = given_only (w % 256) (w / 256) n e

-- groovepawn_prepare keeps the promise of prepare.
pub c_prepare : {reading : ℕ} {file before marks : List ℕ} {v : ℕ} → PrepareCall reading file before v marks → PreparePromise reading file before (prepared_in v) marks
c_prepare {reading} {file} {before} {v = v} h =
    record { said = ap summary_in h.said ∙ prepare_fields reading file before; marks = h.marks }

-- groovepawn_prepare_fast keeps the promise of the second engine.
pub c_fast :
    {reading : ℕ} {file before marks : List ℕ} {work left : Work} {v : ℕ} → FastCall reading file before work v marks left →
    FastPromise reading file before work (prepared_in v) marks left
c_fast {reading} {file} {before} {work = work} {v = v} h =
    record {
      said = ap summary_in h.said ∙ fast_fields reading file before (shortest work);
      marks = h.marks;
      scratch = h.scratch;
    }

is-state : (state : List ℕ) → length state ≡ 5 → is_state state ≡ true
is-state state five = eq-eqb (length state) 5 five

-- groovepawn_input, groovepawn_output, over five numbers.
module _ {reading : ℕ} {file marks state : List ℕ} (five : length state ≡ 5) where
  -- groovepawn_input keeps the promise of the input half.
  pub c_input : {x r : ℕ} → InputCall reading file marks state x r → InputPromise reading file marks (state_in state) x (half_in r)
  c_input {x} {r} h =
      record {
        said =
            ap answer_in h.said ∙ input_fields reading file marks state x
            ∙ ap (λ (t : Bool). cond t (input_of reading file marks (state_in state) x) (refused (odd_refusal reading file marks true))) (is-state state five);
      }

  -- groovepawn_output leaves the state of the output half, as five numbers.
  output_moves : {x y r : ℕ} {after : List ℕ} → OutputCall reading file marks state x y r after →
      after ≡ state_words (output_of reading file marks (state_in state) x y).state
  unfolding output_state
  output_moves {x} {y} h =
      h.next ∙ ap (λ (t : Bool). cond t (state_words (output_of reading file marks (state_in state) x y).state) state) (is-state state five)

  -- groovepawn_output leaves five numbers again.
  pub output_five : {x y r : ℕ} {after : List ℕ} → OutputCall reading file marks state x y r after → length after ≡ 5
  output_five {x} {y} h = ap length (output_moves h) ∙ ap suc (output_four reading file marks (state_in state) x y refl)

  -- groovepawn_output keeps the promise of the output half.
  pub c_output :
      {x y r : ℕ} {after : List ℕ} → OutputCall reading file marks state x y r after →
      OutputPromise reading file marks (state_in state) x y (record { answer = half_in r; state = state_in after })
  c_output {x} {y} {r} {after} h =
      let o = output_of reading file marks (state_in state) x y in
      let said : half_in r ≡ o.answer =
      ap answer_in h.said ∙ output_fields reading file marks state x y
      ∙ ap (λ (t : Bool). cond t o.answer (refused (odd_refusal reading file marks true))) (is-state state five)
      in
      let there : state_in after ≡ o.state = ap state_in (output_moves h) ∙ words_in o.state (output_four reading file marks (state_in state) x y refl) in
      record { said = ap₂ {C = OutputAnswer} (λ (a : Said.Answer ℕ) (s : State). record { answer = a; state = s }) said there }

-- groovepawn_join keeps the promise of join.
pub c_join : {a b before after : List ℕ} {r : ℕ} → JoinCall a b before r after → JoinPromise a b before (joined_in r) after
c_join {a} {b} {before} {r = r} h = record { answers = ap answer_in h.said ∙ join_fields a b before; writes = h.out }

-- groovepawn_clean keeps the promise of clean.
pub c_clean :
    {reading : ℕ} {file out list out_after list_after : List ℕ} {r : ℕ} → CleanCall reading file out list r out_after list_after →
    CleanPromise reading file out list (cleaned_in r) out_after list_after
c_clean {reading} {file} {out} {list} {r = r} h =
    record { said = ap lengths_in h.said ∙ clean_fields reading file out list; cleaned = h.cleaned; struck = h.struck }

-- groovepawn_bays_new keeps the promise of new bays.
pub c_bays_new : {before after : List ℕ} {r : ℕ} → NewCall before r after → NewPromise before r after
c_bays_new h = record { said = h.said; states = h.states }

module _ {reading : ℕ} {file marks states : List ℕ} {bay x r : ℕ} where
  -- groovepawn_bay_input keeps the promise of a bay's input half.
  pub c_bay_input : BayInputCall reading file marks states bay x r → BayInputPromise reading file marks states bay x (half_in r)
  c_bay_input h = record { said = ap answer_in h.said ∙ bay_input_fields reading file marks states bay x }

  -- groovepawn_bay_output keeps the promise of a bay's output half.
  pub c_bay_output : {y : ℕ} {after : List ℕ} → BayOutputCall reading file marks states bay x y r after → BayOutputPromise reading file marks states bay x y (half_in r) after
  c_bay_output {y} h =
      let said = ap answer_in h.said ∙ bay_output_fields reading file marks states bay x y in
      let next = h.next in
      record { said = λ k. record { answer = said k; states = next k } }

-- groovepawn_meter_new keeps the promise of a new station.
pub c_meter_new :
    {station totals after risen : List ℕ} {register r : ℕ} → MeterNewCall station totals register r after risen →
    MeterNewPromise station totals register r after risen
c_meter_new h = record { said = h.said; placed = h.placed; cleared = h.cleared }

module _ {reading : ℕ} {file marks station : List ℕ} {register x r : ℕ} where
  -- groovepawn_meter_input keeps the promise of the meter's input half.
  pub c_meter_input : MeterInputCall reading file marks station register x r → MeterInputPromise reading file marks station register x (half_in r)
  c_meter_input h = record { said = ap answer_in h.said ∙ meter_input_fields reading file marks station register x }

  -- groovepawn_meter_output keeps the promise of the meter's output half.
  pub c_meter_output :
      {totals after risen : List ℕ} {y : ℕ} → MeterOutputCall reading file marks station totals register x y r after risen →
      MeterOutputPromise reading file marks station totals register x y (half_in r) after risen
  c_meter_output {totals} {y = y} h =
      let said = ap answer_in h.said ∙ meter_output_fields reading file marks station totals register x y in
      let next = h.next in
      let sums = h.sums in
      record { said = λ k. record { answer = said k; station = next k; totals = sums k } }

-- groovepawn_wave_write keeps the promise of the wave writer.
pub c_wave_write : {file events before after : List ℕ} {r : ℕ} → WaveWriteCall file events before r after → WritePromise file events before (written_in r) after
c_wave_write {file} {events} {before} {r = r} h =
    record { answers = ap answer_in h.said ∙ wave_write_fields file events before; writes = h.text }

-- groovepawn_wave_read keeps the promise of the wave reader.
pub c_wave_read : {file text before after : List ℕ} {r : ℕ} → WaveReadCall file text before r after → TakePromise file text before (taken_in r) after
c_wave_read {file} {text} {before} {after} {r} h =
    record { reads = wave_read_fields h }

-- groovepawn_text_read keeps the promise of reading a policy's text, where the line is below 2 ^ 32.
pub c_text_read : {text before after : List ℕ} {r : ℕ} → (text_read_of text before).line < 2 ^ 32 → TextReadCall text before r after → ReadTextPromise text before (text_read_in r) after
c_text_read {text} {before} l h = record { says = ap text_read_in h.said ∙ text_read_fields text before l; writes = h.file }

-- groovepawn_text_write keeps the promise of writing a policy file's text.
pub c_text_write :
    {file before after : List ℕ} {r : ℕ} → TextWriteCall file before r after →
    WriteTextPromise file before (record { refusal = r % 256; length = r / 256 }) after
c_text_write {file} {before} h =
    let k = text_write_numbers file before in
    record { refuses = ap (λ (n : ℕ). n % 256) h.said ∙ k.0; long = ap (λ (n : ℕ). n / 256) h.said ∙ k.1; writes = h.text }

-- groovepawn_text_line_of_rule keeps the promise of the line of a rule, where that is below 2 ^ 32.
pub c_text_rule : {text : List ℕ} {i r : ℕ} → (text_rule_of text i).line < 2 ^ 32 → TextRuleCall text i r → RuleAtPromise text i (text_rule_in r)
c_text_rule {text} {i} l h = ap text_rule_in h.said ∙ text_rule_fields text i l

-- The three functions for names keep the promise of where a name stands, where that is below 2 ^ 32.
pub c_text_name : {kind : ℕ} {text : List ℕ} {i r : ℕ} → where_of (text_name_of kind text i) < 2 ^ 32 → TextNameCall kind text i r → NameAtPromise kind text i (text_name_in r)
c_text_name {kind} {text} {i} l h = ap text_name_in h.said ∙ text_name_fields kind text i l
