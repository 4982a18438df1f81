-- What `why_run` answers, for any bytes, marks, state, events and slices to work in; its whole promise under one name, and that one answer alone meets it.
use Rattle.std.specs.Prelude.{◌≡◌, not, List, ◌++◌, ℕ, suc, ◌/◌, ◌%◌, ◌<◌, min, leb, length, get_or, take, drop, Result, Ok, Err}
use Rattle.std.proofs.Common.{sym, ap, ◌∙◌, arith, ext_get_or}
use Rattle.streams.specs.Answer.{Answer, answer, ◌or_else◌, unless}
use Rattle.refusals.specs.Refused.{number_of}
use Rattle.refusals.specs.declared.Refusal.{Refusal}
use Rattle.policy.specs.Layout.{layout_of}
use Rattle.policy.specs.declared.Layout.{Layout}
use Rattle.policy.specs.File.{policy_of}
use Rattle.policy.specs.Check.{all_pass}
use Rattle.enforcer.specs.Entries.{RunAnswer, event_good, state_refusal, run_of}
use Rattle.enforcer.specs.Promises.{Ran, ran_said}
use Rattle.stepping.specs.declared.state.State.{State}
use Rattle.fast.specs.Entry.{Work, shortest, lent_refusal}
use Rattle.counting.specs.OtherMarks.{other_marks}
use Rattle.explaining.specs.EachHalf.{Reasons}
use Rattle.reasons.specs.Entry.{WhyAnswers, answers_one}
use Rattle.reasons.specs.Promise.{SmallReasons}
use Rattle.reasons.specs.Word.{why_word}

-- What the slices hold that the caller lends to work in: two tables of counts, the marks of prepare, and those that the second engine works in.
pub record Room : Type 0 where
  pub ticks : List ℕ
  pub rests : List ℕ
  pub prepared : List ℕ
  pub work : Work

-- How many entries the shortest has.
abbrev pub shortest_of : Room → ℕ
shortest_of m = min (length m.ticks) (min (length m.rests) (min (length m.prepared) (shortest m.work)))

-- Refusals 22 and 1 to 10; 23, "if a work slice has fewer entries than there are states"; and 14, "when the slice is shorter than the events".
unfoldable pub room_refusal : (reading : ℕ) → (file marks : List ℕ) → (work events words : ℕ) → ℕ
room_refusal reading file marks work events words = lent_refusal reading file marks work or_else unless (leb events words) 14

-- The layout of a file that passes, where nothing of this is refused.
unfoldable pub room_for : (reading : ℕ) → (file marks : List ℕ) → (work events words : ℕ) → Answer Layout
room_for reading file marks work events words = answer (room_refusal reading file marks work events words) (layout_of reading file)

-- What the code hands back, by the state after so many events or the refusal: then none is explained, and the state stays.
abbrev pub walked : State → ℕ → Result State Refusal → Ran
walked s n (Ok t) = record { refusal = 0; count = n; state = t }
walked s n (Err r) = record { refusal = number_of r; count = 0; state = s }

module _ (reading : ℕ) (file marks : List ℕ) (s : State) (events : List ℕ) where
  -- The state that the run has before the event i: the one that `run` hands back for the events before it.
  abbrev pub state_before : ℕ → State
  state_before i = (run_of reading file marks s (take i events) (take i events)).state

  -- The word w is that of what `why` answers there for the event i.
  pub record WhyThere (i w : ℕ) : Type 0 where
    pub answer : Answer Reasons
    pub why : WhyAnswers reading file marks (state_before i) (get_or events i 0 % 16) (get_or events i 0 / 16) answer
    pub small : SmallReasons answer
    pub word : w ≡ why_word answer

  module _ (words : List ℕ) (work : ℕ) where
    -- What is refused before the tables are made: the last is 16.
    unfoldable pub early_refusal : ℕ
    early_refusal = room_refusal reading file marks work (length events) (length words) or_else state_refusal reading file marks s

    -- Then 20, as `why` has it, and 15 for any of the events. 17 cannot come, as in `why`.
    unfoldable pub why_run_refusal : ℕ
    why_run_refusal =
        early_refusal or_else unless (not (other_marks (policy_of reading file) marks)) 20 or_else unless (all_pass (event_good reading file) events) 15

    -- A refusal is answered as `run` answers it. Without one there is a word for each event, and the state is that of the run after them.
    pub data WhyRunAnswers : RunAnswer → Type 0 where
      refuses : {n : ℕ} → why_run_refusal ≡ suc n → WhyRunAnswers (record { refusal = suc n; count = 0; state = s; out = words })
      explains : (told : List ℕ) → why_run_refusal ≡ 0 → length told ≡ length events → ((i : ℕ) → i < length events → WhyThere i (get_or told i 0)) →
          WhyRunAnswers
          (record {
            refusal = 0;
            count = length events;
            state = (run_of reading file marks s events events).state;
            out = told ++ drop (length events) words;
          })

    there_one : {i w v : ℕ} → WhyThere i w → WhyThere i v → w ≡ v
    there_one {i} h g = h.word ∙ ap why_word (answers_one reading file marks (state_before i) _ _ h.why g.why) ∙ sym g.word

    -- One answer alone is right.
    pub run_answers_one : {r q : RunAnswer} → WhyRunAnswers r → WhyRunAnswers q → r ≡ q
    run_answers_one (refuses a) (refuses b) = ap (λ (n : ℕ). record { refusal = n; count = 0; state = s; out = words }) (sym a ∙ b)
    run_answers_one (refuses a) (explains u b l h) = absurd (omega arith)
    run_answers_one (explains t a l h) (refuses b) = absurd (omega arith)
    run_answers_one (explains t a l h) (explains u b m g) =
        ap
        (λ (w : List ℕ). record { refusal = 0; count = length events; state = (run_of reading file marks s events events).state; out = w ++ drop (length events) words })
        (ext_get_or 0 t u (l ∙ sym m) (λ i k. there_one (h i (omega arith)) (g i (omega arith))))

-- `before` and `after` are what the slice for the words holds, `room` and `left` what the work slices do. They are scratch: how long the shortest is counts,
-- and what is left in them is said only where they are not written, with a refusal up to 16.
pub record WhyRunPromise (reading : ℕ) (file marks : List ℕ) (s : State) (events before : List ℕ) (room : Room) (r : Ran) (after : List ℕ) (left : Room) : Type 0 where
  pub answers : WhyRunAnswers reading file marks s events before (shortest_of room) (ran_said r after)
  pub scratch : (early_refusal reading file marks s events before (shortest_of room) ≡ 0 → ⊥) → left ≡ room

-- Two results of the code that meet the promise have the same answer and leave the same words.
pub why_run_one : {reading : ℕ} {file marks : List ℕ} {s : State} {events before after also : List ℕ} {room left right : Room} {r q : Ran} →
    WhyRunPromise reading file marks s events before room r after left → WhyRunPromise reading file marks s events before room q also right →
    (r ≡ q) × (after ≡ also)
why_run_one {reading} {file} {marks} {s} {events} {before} {room = room} h g =
    let e = run_answers_one reading file marks s events before (shortest_of room) h.answers g.answers in (
      ap (λ (z : RunAnswer). record { refusal = z.refusal; count = z.count; state = z.state }) e,
      ap (λ (z : RunAnswer). z.out) e,
    )
