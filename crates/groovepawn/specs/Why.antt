-- The calls for reasons, for one event and for a run of them, and that one answer alone meets each.
use Rattle.std.specs.Prelude.{◌≡◌, refl, Bool, true, false, List, ℕ, ◌+◌, ◌*◌, ◌%◌, ◌^◌, length}
use Rattle.std.proofs.Common.{sym, ap, ◌∙◌, arith, eqb-true}
use Rattle.streams.specs.Answer.{Answer, ◌or_else◌}
use Rattle.enforcer.specs.Entries.{RunAnswer}
use Rattle.stepping.specs.Five.{state_words, state_in, words_back}
use Rattle.bays.specs.Odd.{odd_refusal}
use Rattle.explaining.specs.EachHalf.{Reasons}
use Rattle.reasons.specs.Entry.{WhyAnswers, answers_one}
use Rattle.reasons.specs.Promise.{SmallReasons}
use Rattle.reasons.specs.Word.{why_word}
use Rattle.reasons.specs.Runs.{Room, shortest_of, room_refusal, early_refusal, WhyRunAnswers, refuses, explains, run_answers_one}
use Rattle.groovepawn.specs.Words.{ran_word, is_state}

-- Numbers that are not five are no state: 16 in its place in the order.
pub record WhyCall (reading : ℕ) (file marks state : List ℕ) (x y r : ℕ) : Type 0 where
  pub odd : is_state state ≡ false → r ≡ odd_refusal reading file marks true
  pub said : is_state state ≡ true → (a : Answer Reasons) × WhyAnswers reading file marks (state_in state) x y a × SmallReasons a × (r ≡ why_word a)

-- One answer alone meets `WhyCall`.
pub why_one : {reading : ℕ} {file marks state : List ℕ} {x y r q : ℕ} → WhyCall reading file marks state x y r → WhyCall reading file marks state x y q → r ≡ q
why_one {reading} {file} {marks} {state} {x} {y} {r} {q} h g = go (is_state state) refl
  where
    go : (t : Bool) → is_state state ≡ t → r ≡ q
    go true e =
        let a = h.said e in
        let b = g.said e in
        a.3 ∙ ap why_word (answers_one reading file marks (state_in state) x y a.1 b.1) ∙ sym b.3
    go false e = h.odd e ∙ sym (g.odd e)

-- The same for a run.
unfoldable pub odd_why_run : (reading : ℕ) → (file marks : List ℕ) → (work events words : ℕ) → ℕ
odd_why_run reading file marks work events words = room_refusal reading file marks work events words or_else 16

-- The word of the answer a, and what the lent state and the slice for the words hold then.
pub record WhyRunSaid (a : RunAnswer) (r : ℕ) (after written : List ℕ) : Type 0 where
  pub said : r ≡ ran_word a
  pub next : after ≡ state_words a.state
  pub words : written ≡ a.out

-- `after` and `written` are what the lent state and the slice for the words hold then, and `left` what the work slices do. Those are scratch: how long the
-- shortest is counts, and what is left in them is said where they are not written.
pub record WhyRunCall (reading : ℕ) (file marks state events before : List ℕ) (room : Room) (r : ℕ) (after written : List ℕ) (left : Room) : Type 0 where
  pub odd : is_state state ≡ false →
      (r ≡ odd_why_run reading file marks (shortest_of room) (length events) (length before)) × (after ≡ state) × (written ≡ before)
  pub said : is_state state ≡ true → (a : RunAnswer) × WhyRunAnswers reading file marks (state_in state) events before (shortest_of room) a × WhyRunSaid a r after written
  pub scratch : (is_state state ≡ true → early_refusal reading file marks (state_in state) events before (shortest_of room) ≡ 0 → ⊥) → left ≡ room

module _ {reading : ℕ} {file marks state events before : List ℕ} {room : Room} {r : ℕ} {after written : List ℕ} {left : Room}
    (h : WhyRunCall reading file marks state events before room r after written left) where
  -- One answer alone meets `WhyRunCall`, one later state, and one later content of the slice for the words.
  pub why_run_one : {q : ℕ} {also too : List ℕ} {right : Room} → WhyRunCall reading file marks state events before room q also too right →
      (r ≡ q) × (after ≡ also) × (written ≡ too)
  why_run_one {q} {also} {too} g = go (is_state state) refl
    where
      go : (t : Bool) → is_state state ≡ t → (r ≡ q) × (after ≡ also) × (written ≡ too)
      go true e =
          let a = h.said e in
          let b = g.said e in
          let k = run_answers_one reading file marks (state_in state) events before (shortest_of room) a.1 b.1 in (
            a.2.said ∙ ap ran_word k ∙ sym b.2.said,
            a.2.next ∙ ap (λ (z : RunAnswer). state_words z.state) k ∙ sym b.2.next,
            a.2.words ∙ ap (λ (z : RunAnswer). z.out) k ∙ sym b.2.words,
          )
      go false e =
          let a = h.odd e in
          let b = g.odd e in (a.0 ∙ sym b.0, a.1 ∙ sym b.1, a.2 ∙ sym b.2)

  -- With a refusal, read off the word's low eight bits, the state and the slice for the words stay.
  pub why_run_stays : (r % 256 ≡ 0 → ⊥) → (after ≡ state) × (written ≡ before)
  why_run_stays n = go (is_state state) refl
    where
      whole : (k : ℕ) → (0 + k * 256) % 256 ≡ 0
      whole k = omega arith

      told : (e : is_state state ≡ true) (a : RunAnswer) → WhyRunAnswers reading file marks (state_in state) events before (shortest_of room) a → WhyRunSaid a r after written →
          (after ≡ state) × (written ≡ before)
      told e a (refuses f) s = (s.next ∙ words_back state (eqb-true _ _ e), s.words)
      told e a (explains t f l w) s = absurd (n (ap (λ (m : ℕ). m % 256) s.said ∙ whole (length events % 2 ^ 56)))

      go : (t : Bool) → is_state state ≡ t → (after ≡ state) × (written ≡ before)
      go true e = let a = h.said e in told e a.0 a.1 a.2
      go false e = let a = h.odd e in (a.1, a.2)
