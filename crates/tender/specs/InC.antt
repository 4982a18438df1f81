-- Sentences of 01 and 02 that the crates below state of an entry, said of its function in C: over the call and its word.
-- In order: prepare's word and its marks; refusals that leave all as it was; the index, and 28; why; waves; milliseconds to ticks.
use Rattle.std.specs.Prelude.{◌≡◌, Bool, true, false, cond, List, ◌++◌, ◌↔◌, length, get_or, take, drop}
use Rattle.std.proofs.Math.Path.{refl, ap}
use Rattle.std.proofs.Common.{sym, subst, ◌∙◌, arith, take_at}
use Prim.Native.Nat.{ℕ, zero, suc, ◌/◌, ◌%◌, ◌≤◌, ◌<◌}
use Rattle.streams.specs.Answer.{Answer, refused, gives, ◌or_else◌}
use Rattle.policy.specs.Rules.{Live, Dead}
use Rattle.policy.specs.File.{policy_of}
use Rattle.policy.specs.Check.{refusal_under}
use Rattle.policy.specs.Number.{states, place_of}
use Rattle.stepping.specs.State.{place_in}
use Rattle.enforcer.specs.Entries.{OutputAnswer}
use Rattle.enforcer.specs.Promises.{InputPromise, OutputPromise}
use Rattle.stepping.specs.declared.state.State.{State}
use Rattle.prepare.specs.PromiseLaws.{prepare_live, prepare_dead}
use Rattle.prepare.specs.declared.Summary.{Summary}
use Rattle.prepare.specs.Judged.{Judges, gives_judges}
use Rattle.index.specs.Index.{index_of}
use Rattle.index.specs.Names.{index_length}
use Rattle.index.specs.Entry.{BuildPromise, written_over, built_index}
use Rattle.indexed.specs.Entries.{early_refusal}
use Rattle.indexed.specs.Same.{input_28, output_28, input_early, early_granted}
use Rattle.indexed.specs.Promises.{InputIndexedPromise, OutputIndexedPromise, input_alike, output_alike}
use Rattle.explaining.specs.Reasons.{Explained}
use Rattle.explaining.specs.EachHalf.{Reasons}
use Rattle.reasons.specs.Entry.{WhyAnswers, refuses, explains, answers_up_to}
use Rattle.reasons.specs.Promise.{SmallReasons}
use Rattle.reasons.specs.Word.{why_word, WhyFields, why_fields}
use Rattle.ticks.specs.Conversion.{rounded, ticks_of}
use Rattle.ticks.specs.Laws.{Within, exactly_18, exactly_19, exactly_given}
use Rattle.waves.specs.Promise.{WritePromise, TakePromise}
use Rattle.waves.specs.Laws.{written_reads, read_writes}
use Rattle.stepping.specs.Five.{state_in}
use Rattle.bays.specs.Odd.{odd_some, odd_le}
use Rattle.groovepawn.specs.Words.{is_state, is_up}
use Rattle.groovepawn.specs.Calls.{PrepareCall, InputCall, OutputCall, RunCall, TicksCall}
use Rattle.groovepawn.specs.Fields.{answer_in, summary_in, prepare_fields, ticks_fields}
use Rattle.groovepawn.specs.Stays.{output_stays, run_stays}
use Rattle.groovepawn.specs.Indexed.{odd_indexed, IndexCall, InputIndexedCall, OutputIndexedCall}
use Rattle.groovepawn.specs.IndexedLaws.{input_call_same, output_call_same, input_indexed_fields, output_indexed_fields}
use Rattle.groovepawn.specs.Why.{WhyCall}
use Rattle.groovepawn.specs.Waves.{WaveWriteCall, WaveReadCall}
use Rattle.tender.specs.Calls.{written_in, taken_in, word_refused, written_given, taken_given, c_prepare, c_wave_write, c_wave_read}

refused_same : {n m : ℕ} → ◌≡◌ {A = Answer ℕ} (refused n) (refused m) → n ≡ m
refused_same e = cc

-- Prepare.
module _ {reading : ℕ} {file before marks : List ℕ} {v : ℕ} (h : PrepareCall reading file before v marks) where
  -- "the verdict, the number of states and the number of live ones", the verdict as 1/13 has it: where nothing is refused, the word's three numbers.
  pub c_judges :
      v % 256 ≡ 0 → Judges (policy_of reading file) (record { verdict = v / 256 % 256; states = v / 65536 % 16777216; live = v / 1099511627776 })
  c_judges z =
      let s : Summary = record { verdict = v / 256 % 256; states = v / 65536 % 16777216; live = v / 1099511627776 } in
      let e : summary_in v ≡ gives s = rw z in
      gives_judges reading file before s (sym (prepare_fields reading file before) ∙ ap summary_in (sym h.said) ∙ e)

  -- "one mark for each state, 1 live and 0 not": of a file that passes its checks and with a slice that is long enough, with refusal 11 too.
  module _ (passed : refusal_under reading file ≡ 0) (long : states (policy_of reading file) ≤ length before) {n : ℕ} (l : n < states (policy_of reading file)) where
    -- A mark is 1 exactly if its state is live.
    pub c_live : (get_or marks n 0 ≡ 1) ↔ Live (policy_of reading file) (place_of (policy_of reading file) n)
    c_live = prepare_live (c_prepare h) passed long l

    -- A mark is 0 exactly if its state is dead.
    pub c_dead : (get_or marks n 0 ≡ 0) ↔ Dead (policy_of reading file) (place_of (policy_of reading file) n)
    c_dead = prepare_dead (c_prepare h) passed long l

-- "A refusal returns its number, and the by-value half also hands back the state it was given": a call of groovepawn_output that is refused leaves the
-- state as it was.
pub c_output_stays :
    {reading : ℕ} {file marks state after : List ℕ} {x y r : ℕ} → OutputCall reading file marks state x y r after → ¬ (r % 256 ≡ 0) → after ≡ state
c_output_stays {reading} {file} {marks} {state} {x = x} {y} h some =
    h.next ∙ output_stays reading file marks state x y (λ z. some (ap (λ (n : ℕ). n % 256) h.said ∙ z))

-- A run gives "the state given, unless it is 17. Nothing is written": one that is refused by another number leaves the state and the slice as they were.
pub c_run_stays :
    {reading : ℕ} {file marks state events before after written : List ℕ} {r : ℕ} → RunCall reading file marks state events before r after written →
    ¬ (r % 256 ≡ 0) → ¬ (r % 256 ≡ 17) → (after ≡ state) × (written ≡ before)
c_run_stays {reading} {file} {marks} {state} {events} {before} h some other =
    let word = ap (λ (n : ℕ). n % 256) h.said in
    let k = run_stays reading file marks state events before (λ z. some (word ∙ z)) (λ z. other (word ∙ z)) in
    (h.next ∙ k.0, h.released ∙ k.1)

-- 12/13, "built once": what index::write_index's code wrote without a refusal is the file's index.
pub code_index : {file before after : List ℕ} → BuildPromise file before 0 after → take 128 after ≡ index_of file
unfolding built_index
code_index {file} {before} h =
    ap (take 128) (h.writes ∙ ap (written_over file before) (sym h.refuses)) ∙ take_at (index_of file) (drop 128 before) 128 (index_length file)

-- What groovepawn_index wrote without a refusal is the file's index.
pub c_index : {file before after : List ℕ} → IndexCall file before 0 after → take 128 after ≡ index_of file
c_index h = code_index (record { refuses = h.said; writes = h.index })

-- "With it the halves give the same answers as the present ones for every input": with the index that was built they keep the promises of the
-- halves without one.
module _ {file before after : List ℕ} (built : BuildPromise file before 0 after) where
  -- The input half's two promises, with that index and without one, are the same.
  pub code_input_indexed :
      (reading : ℕ) (marks : List ℕ) (s : State) (x : ℕ) (r : Answer ℕ) →
      InputIndexedPromise reading file (take 128 after) marks s x r ↔ InputPromise reading file marks s x r
  code_input_indexed reading marks s x r =
      subst (λ (index : List ℕ). InputIndexedPromise reading file index marks s x r ↔ InputPromise reading file marks s x r) (sym (code_index built))
      (input_alike reading file marks s x r)

  -- The output half's two promises, with that index and without one, are the same.
  pub code_output_indexed :
      (reading : ℕ) (marks : List ℕ) (s : State) (x y : ℕ) (r : OutputAnswer) →
      OutputIndexedPromise reading file (take 128 after) marks s x y r ↔ OutputPromise reading file marks s x y r
  code_output_indexed reading marks s x y r =
      subst (λ (index : List ℕ). OutputIndexedPromise reading file index marks s x y r ↔ OutputPromise reading file marks s x y r) (sym (code_index built))
      (output_alike reading file marks s x y r)

-- In C, with the index that was built: the calls are those of groovepawn_input and groovepawn_output, so what is said of these holds of them.
module _ {file before after : List ℕ} (built : IndexCall file before 0 after) where
  -- A call of groovepawn_input_indexed with that index is one of groovepawn_input.
  pub c_input_indexed :
      {reading : ℕ} {marks state : List ℕ} {x r : ℕ} → InputIndexedCall reading file (take 128 after) marks state x r → InputCall reading file marks state x r
  c_input_indexed {reading} {marks} {state} {x} h = record { said = h.said ∙ input_call_same reading file (take 128 after) marks state (c_index built) x }

  -- A call of groovepawn_output_indexed with that index is one of groovepawn_output.
  pub c_output_indexed :
      {reading : ℕ} {marks state next : List ℕ} {x y r : ℕ} → OutputIndexedCall reading file (take 128 after) marks state x y r next →
      OutputCall reading file marks state x y r next
  c_output_indexed {reading} {marks} {state} {x = x} {y} h =
      let k = output_call_same reading file (take 128 after) marks state (c_index built) x y in record { said = h.said ∙ k.0; next = h.next ∙ k.1 }

-- "Any other index is refused": 28 exactly if the check passes and the numbers are not the file's index. Here of the code.
module _ {reading : ℕ} {file index marks : List ℕ} {s : State} {x : ℕ} where
  -- With an index, the code's input half gives 28 exactly if the file passes and the index is not the file's.
  pub code_input_28 :
      {r : Answer ℕ} → InputIndexedPromise reading file index marks s x r →
      (r ≡ refused 28) ↔ ((refusal_under reading file ≡ 0) × (¬ (index ≡ index_of file)))
  code_input_28 {r} h =
      let k = input_28 reading file index marks s x in
      (λ e. k.0 (sym h.said ∙ e), λ e. h.said ∙ k.1 e)

  -- With an index, the code's output half gives 28 exactly if the file passes and the index is not the file's.
  pub code_output_28 :
      {y : ℕ} {r : OutputAnswer} → OutputIndexedPromise reading file index marks s x y r →
      (r.answer ≡ refused 28) ↔ ((refusal_under reading file ≡ 0) × (¬ (index ≡ index_of file)))
  code_output_28 {y} {r} h =
      let k = output_28 reading file index marks s x y in
      let said = ap (λ (a : OutputAnswer). a.answer) h.said in
      (λ e. k.0 (sym said ∙ e), λ e. said ∙ k.1 e)

-- The same of the functions in C, whatever numbers stand for the state.
module _ (reading : ℕ) (file index marks state : List ℕ) where
  abbrev Wrong : Type 0
  Wrong = (refusal_under reading file ≡ 0) × (¬ (index ≡ index_of file))

  odd_28 : (odd_indexed reading file index marks ≡ 28) ↔ Wrong
  unfolding odd_indexed
  odd_28 = go (early_refusal reading file index marks) refl
    where
      go : (n : ℕ) → early_refusal reading file index marks ≡ n → ((n or_else 16) ≡ 28) ↔ Wrong
      go zero e = (λ z. absurd (omega arith), λ k. absurd (k.1 (early_granted reading file index marks e).0))
      go (suc n) e =
          let k = input_28 reading file index marks (state_in state) 0 in
          let early = input_early reading file index marks (state_in state) 0 (sym e) (λ z. omega arith) in
          (λ z. k.0 (early ∙ ap refused z), λ w. refused_same (sym early ∙ k.1 w))

  by_state : (t : Bool) {a : Answer ℕ} (r : ℕ) → answer_in r ≡ cond t a (refused (odd_indexed reading file index marks)) →
      ((a ≡ refused 28) ↔ Wrong) → (r % 256 ≡ 28) ↔ Wrong
  by_state true r e k = let w = word_refused r 27 in (λ z. k.0 (sym e ∙ w.1 z), λ z. w.0 (e ∙ k.1 z))
  by_state false r e k =
      let w = word_refused r 27 in
      (λ z. odd_28.0 (refused_same (sym e ∙ w.1 z)), λ z. w.0 (e ∙ ap refused (odd_28.1 z)))

  -- groovepawn_input_indexed gives 28 exactly if the file passes and the index is not the file's.
  pub c_input_28 : {x r : ℕ} → InputIndexedCall reading file index marks state x r → (r % 256 ≡ 28) ↔ Wrong
  c_input_28 {x} {r} h =
      by_state (is_state state) r (ap answer_in h.said ∙ input_indexed_fields reading file index marks state x)
      (input_28 reading file index marks (state_in state) x)

  -- groovepawn_output_indexed gives 28 exactly if the file passes and the index is not the file's.
  pub c_output_28 : {x y r : ℕ} {after : List ℕ} → OutputIndexedCall reading file index marks state x y r after → (r % 256 ≡ 28) ↔ Wrong
  c_output_28 {x} {y} {r} h =
      by_state (is_state state) r (ap answer_in h.said ∙ output_indexed_fields reading file index marks state x y)
      (output_28 reading file index marks (state_in state) x y)

-- 2/13: where groovepawn_why refuses nothing, its word holds for each half a reason that is true, given exactly if the half was edited.
pub c_why :
    {reading : ℕ} {file marks state : List ℕ} {x y r : ℕ} → WhyCall reading file marks state x y r → r % 256 ≡ 0 →
    (told : Reasons)
    × Explained (policy_of reading file) marks (place_in (policy_of reading file) (state_in state)) x y told.input told.output × WhyFields told r
c_why {reading} {file} {marks} {state} {x} {y} {r} h z = go (is_state state) refl
  where
    Told : Type 0
    Told =
        (told : Reasons)
        × Explained (policy_of reading file) marks (place_in (policy_of reading file) (state_in state)) x y told.input told.output × WhyFields told r

    by : {a : Answer Reasons} → WhyAnswers reading file marks (state_in state) x y a → SmallReasons a → r ≡ why_word a → Told
    by (refuses e) s w =
        absurd (omega (arith, (answers_up_to reading file marks (state_in state) x y (refuses e)).1))
    by (explains {i = i} {o = o} e k) s w =
        let told : Reasons = record { input = i; output = o } in (told, k, subst (WhyFields told) (sym w) (why_fields told s))

    go : (t : Bool) → is_state state ≡ t → Told
    go true e = let a = h.said e in by a.1 a.2 a.3
    go false e = absurd (omega (arith, h.odd e, odd_some reading file marks true, odd_le reading file marks true))

-- 4/13: "each written file reads back as its stream".
pub c_written_reads :
    {file events before after out later : List ℕ} {r q : ℕ} → WaveWriteCall file events before r after → r % 256 ≡ 0 →
    WaveReadCall file (take (r / 256) after) out q later → length events ≤ length out →
    (q % 256 ≡ 0) × (q / 256 ≡ length events) × (later ≡ events ++ drop (length events) out)
c_written_reads {file} {events} {before} {after} {r = r} {q} w z t long =
    let e : written_in r ≡ gives (r / 256) = rw z in
    let k = written_reads (subst (λ (a : Answer ℕ). WritePromise file events before a after) e (c_wave_write w)) (c_wave_read t) long in
    let g = taken_given q k.0 in (g.0, g.1, k.1)

-- 4/13: the reader "takes back exactly what the writer makes". What groovepawn_wave_read took, groovepawn_wave_write writes as the same text.
pub c_read_writes :
    {file text out later before after : List ℕ} {q r : ℕ} → WaveReadCall file text out q later → q % 256 ≡ 0 →
    WaveWriteCall file (take (q / 256) later) before r after → length text ≤ length before →
    (r % 256 ≡ 0) × (r / 256 ≡ length text) × (after ≡ text ++ drop (length text) before)
c_read_writes {file} {text} {out} {later} {q = q} {r} t z w long =
    let e : taken_in q ≡ gives (q / 256) = rw z in
    let k = read_writes (subst (λ (a : Answer ℕ). TakePromise file text out a later) e (c_wave_read t)) (c_wave_write w) long in
    let g = written_given r k.0 in (g.0, g.1, k.1)

-- "ticks × tick length differs from the time by less than one tick length"; 18 and 19 exactly when 01 says.
module _ {time tick up r : ℕ} (h : TicksCall time tick up r) where
  says : answer_in r ≡ ticks_of time tick (is_up up)
  says = ap answer_in h.said ∙ ticks_fields time tick up

  -- Without a refusal, the word holds at most 1,000 ticks, within one tick length of the time on the side asked for.
  pub c_within : r % 256 ≡ 0 → Within time tick (is_up up) (r / 256) × (r / 256 ≤ 1000)
  c_within z = let e : answer_in r ≡ gives (r / 256) = rw z in (exactly_given time tick (is_up up) (r / 256)).0 (sym says ∙ e)

  -- 18 exactly if the tick length is 0.
  pub c_18 : (r % 256 ≡ 18) ↔ (tick ≡ 0)
  c_18 =
      let k = word_refused r 17 in
      let d = exactly_18 time tick (is_up up) in (λ e. d.0 (sym says ∙ k.1 e), λ e. k.0 (says ∙ d.1 e))

  -- 19 exactly if the tick length is not 0 and there would be more than 1,000 ticks.
  pub c_19 : (r % 256 ≡ 19) ↔ ((0 < tick) × (1000 < rounded time tick (is_up up)))
  c_19 =
      let k = word_refused r 18 in
      let d = exactly_19 time tick (is_up up) in (λ e. d.0 (sym says ∙ k.1 e), λ e. k.0 (says ∙ d.1 e))
