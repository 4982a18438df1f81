-- What is answered is read back from its word, as the header's macros read it: no field reaches into the next.
use Rattle.std.specs.Prelude.{◌≡◌, refl, Bool, cond, List, ℕ, zero, suc, ◌≤◌, ◌<◌, ◌/◌, ◌%◌, ◌^◌, leb}
use Rattle.std.proofs.Math.Bool.{true, false}
use native.Mathlib.Omega.{arith}
use Rattle.std.proofs.Math.ListN.{length}
use Rattle.streams.specs.Answer.{Answer, refused, gives, answer, UpTo}
use Rattle.enforcer.specs.Entries.{RunAnswer, input_of, output_of, run_of}
use Rattle.enforcer.specs.Refusals.{input_up_to, output_up_to, run_up_to, run_few}
use Rattle.prepare.specs.Entry.{prepare_of}
use Rattle.prepare.specs.declared.Summary.{Summary}
use Rattle.prepare.specs.PromiseLaws.{prepare_up_to}
use Rattle.join.specs.Entry.{join_of}
use Rattle.join.specs.Promise.{join_up_to}
use Rattle.ticks.specs.Conversion.{ticks_of}
use Rattle.ticks.specs.Laws.{ticks_up_to}
use Rattle.stepping.specs.Five.{state_in}
use Rattle.bays.specs.Odd.{odd_refusal, odd_some, odd_le}
use Rattle.groovepawn.specs.Words.{answer_word, summary_word, ran_word, is_state, prepare_word, input_word, output_word, run_word, join_word, is_up, ticks_word}
use Rattle.groovepawn.specs.Bounds.{Small, summary_small}

-- The answer that a word holds: the refusal in the low eight bits, and without one what stands above it.
abbrev pub answer_in : ℕ → Answer ℕ
answer_in w = answer (w % 256) (w / 256)

-- The three numbers of prepare.
abbrev pub summary_in : ℕ → Answer Summary
summary_in w = answer (w % 256) (record { verdict = w / 256 % 256; states = w / 65536 % 16777216; live = w / 1099511627776 })

-- The word w has no refusal, and its fields hold the three numbers of s.
pub record SummaryFields (s : Summary) (w : ℕ) : Type 0 where
  pub none : w % 256 ≡ 0
  pub verdict : w / 256 % 256 ≡ s.verdict
  pub states : w / 65536 % 16777216 ≡ s.states
  pub live : w / 1099511627776 ≡ s.live

-- The refusal n of a run and the count k. The word holds the count modulo 2 ^ 56: whole, where the events are fewer than that.
pub record RunFields (events : List ℕ) (n k w : ℕ) : Type 0 where
  pub refusal : w % 256 ≡ n
  pub count : w / 256 ≡ k % 2 ^ 56
  pub whole : length events < 2 ^ 56 → w / 256 ≡ k

-- The word of a number that is given: no refusal, and the number above it.
pub answer_fields : (v : ℕ) → (answer_word (gives v) % 256 ≡ 0) × (answer_word (gives v) / 256 ≡ v)
answer_fields v = (omega arith, omega arith)

-- The word of small numbers holds each of them in its field.
pub summary_fields : (s : Summary) → Small s → SummaryFields s (summary_word (gives s))
summary_fields s h = record { none = omega arith; verdict = omega arith; states = omega arith; live = omega arith }

-- An answer whose refusals are numbers of eight bits, and not 0, comes back from its word.
pub answer_back : (a : Answer ℕ) (k : ℕ) → k < 256 → UpTo k a → answer_in (answer_word a) ≡ a
answer_back (refused zero) k l h = absurd (omega arith)
answer_back (refused (suc n)) k l h = let e : suc n % 256 ≡ suc n = omega arith in rw e
answer_back (gives v) k l h = let f = answer_fields v in rw (f.0, f.1)

-- An answer of prepare with small numbers comes back from its word.
pub summary_back : (a : Answer Summary) (k : ℕ) → k < 256 → UpTo k a → ((s : Summary) → a ≡ gives s → Small s) → summary_in (summary_word a) ≡ a
summary_back (refused zero) k l h f = absurd (omega arith)
summary_back (refused (suc n)) k l h f = let e : suc n % 256 ≡ suc n = omega arith in rw e
summary_back (gives s) k l h f = let g = summary_fields s (f s refl) in rw (g.none, g.verdict, g.states, g.live)

-- What each function of the C interface answers comes back from the word that it returns, whatever it is handed.
pub prepare_fields : (reading : ℕ) (file marks : List ℕ) → summary_in (prepare_word reading file marks) ≡ prepare_of reading file marks
unfolding prepare_word
prepare_fields reading file marks = summary_back (prepare_of reading file marks) 22 (omega arith) (prepare_up_to reading file marks) (summary_small reading file marks)

module _ (reading : ℕ) (file marks state : List ℕ) where
  -- By a half: `a` of a state that is five numbers, and a refusal of one that is not.
  half_back : (t : Bool) (a : Answer ℕ) → UpTo 22 a →
      answer_in (cond t (answer_word a) (odd_refusal reading file marks true)) ≡ cond t a (refused (odd_refusal reading file marks true))
  half_back true a h = answer_back a 22 (omega arith) h
  half_back false a h = answer_back (refused (odd_refusal reading file marks true)) 22 (omega arith) (odd_some reading file marks true, odd_le reading file marks true)

  -- What the input half's word holds: its answer, or the refusal of a state that is not five numbers.
  pub input_fields : (x : ℕ) →
      answer_in (input_word reading file marks state x) ≡ cond (is_state state) (input_of reading file marks (state_in state) x) (refused (odd_refusal reading file marks true))
  unfolding input_word
  input_fields x = half_back (is_state state) (input_of reading file marks (state_in state) x) (input_up_to reading file marks (state_in state) x)

  -- What the output half's word holds: its answer, or the refusal of a state that is not five numbers.
  pub output_fields : (x y : ℕ) →
      answer_in (output_word reading file marks state x y)
      ≡ cond (is_state state) (output_of reading file marks (state_in state) x y).answer (refused (odd_refusal reading file marks true))
  unfolding output_word
  output_fields x y = half_back (is_state state) (output_of reading file marks (state_in state) x y).answer (output_up_to reading file marks (state_in state) x y)

  -- What a run's word holds: its refusal and count, or the refusal of a state that is not five numbers.
  pub run_fields : (events out : List ℕ) →
      let r = run_of reading file marks (state_in state) events out in
      RunFields events (cond (is_state state) r.refusal (odd_refusal reading file marks (leb (length events) (length out)))) (cond (is_state state) r.count 0)
      (run_word reading file marks state events out)
  unfolding run_word
  run_fields events out =
      let s = state_in state in
      go (is_state state) (run_of reading file marks s events out) (run_up_to reading file marks s events out) (run_few reading file marks s events out)
    where
      go : (t : Bool) (r : RunAnswer) → r.refusal ≤ 22 → r.count ≤ length events →
          let odd = odd_refusal reading file marks (leb (length events) (length out)) in
          RunFields events (cond t r.refusal odd) (cond t r.count 0) (cond t (ran_word r) odd)
      go true r h l = record { refusal = omega arith; count = omega arith; whole = λ f. omega arith }
      go false r h l =
          let k = odd_le reading file marks (leb (length events) (length out)) in
          record { refusal = omega arith; count = omega arith; whole = λ f. omega arith }

-- The answer of a join comes back from its word.
pub join_fields : (a b out : List ℕ) → answer_in (join_word a b out) ≡ join_of a b out
unfolding join_word
join_fields a b out = answer_back (join_of a b out) 14 (omega arith) (join_up_to a b out)

-- The answer of the conversion into ticks comes back from its word.
pub ticks_fields : (time tick up : ℕ) → answer_in (ticks_word time tick up) ≡ ticks_of time tick (is_up up)
unfolding ticks_word
ticks_fields time tick up = answer_back (ticks_of time tick (is_up up)) 19 (omega arith) (ticks_up_to time tick (is_up up))
