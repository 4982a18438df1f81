-- Calls of any bays in any order: each bay gets what it would get alone.
-- In order: calls and replies; a station with bays, and one with a single state; any interleaving of the bays' calls; a bay that is not there; the
-- calls in another order, and two of them exchanged.
use Rattle.std.specs.Prelude.{◌≡◌, Bool, true, false, cond, ltb, eqb, length}
use Rattle.std.proofs.Math.Path.{refl, ap}
use Rattle.std.proofs.Common.{sym, ap₂, ◌∙◌, ltb-true, ltb-false, eqb-true}
use mathlib.Core.List.{List, [], ◌∷◌, map}
use Prim.Native.Nat.{ℕ, ◌≤◌, ◌<◌}
use native.Mathlib.Omega.{arith}
use Rattle.std.proofs.lemmas.Bool.{eqb-false}
use Rattle.streams.specs.Answer.{Answer, refused}
use Rattle.stepping.specs.Five.{state_words, state_in, words_back}
use Rattle.bays.specs.Bays.{bays_in, bay_count, numbers_of, bay_state}
use Rattle.bays.specs.Entries.{BayAnswer, no_bay}
use Rattle.bays.specs.Parts.{fits, is_bay, numbers_five, same_list}
use Rattle.bays.specs.Halves.{Half, one_half, bay_half, half_none, half_answer, half_state, others_stay, length_stays, depends_alone}
use Rattle.stepping.specs.declared.state.State.{State}

-- "A tick names its bay": a half of one, with the bay.
pub record Call : Type 0 where
  pub bay : ℕ
  pub half : Half

-- A half that was asked for, and its answer.
pub record Reply : Type 0 where
  pub half : Half
  pub answer : Answer ℕ

-- A reply, and the bay that it was for.
pub record BayReply : Type 0 where
  pub bay : ℕ
  pub reply : Reply

-- The calls and the replies of one bay alone, in their order.
unfoldable pub calls_of : ℕ → List Call → List Half
calls_of bay [] = []
calls_of bay (c ∷ cs) = cond (eqb c.bay bay) (c.half ∷ calls_of bay cs) (calls_of bay cs)

-- The replies of one bay, in their order.
unfoldable pub replies_to : ℕ → List BayReply → List Reply
replies_to bay [] = []
replies_to bay (r ∷ rs) = cond (eqb r.bay bay) (r.reply ∷ replies_to bay rs) (replies_to bay rs)

module _ (reading : ℕ) (file marks : List ℕ) where
  -- What a station with bays is answered, call after call, and the list that it is left with.
  abbrev pub reply_to : List ℕ → Call → BayReply
  reply_to states c = record { bay = c.bay; reply = record { half = c.half; answer = (bay_half reading file marks states c.bay c.half).answer } }

  -- The list after one call.
  abbrev pub after : List ℕ → Call → List ℕ
  after states c = (bay_half reading file marks states c.bay c.half).states

  -- The replies to the calls, one for each.
  unfoldable pub replies : List ℕ → List Call → List BayReply
  replies states [] = []
  replies states (c ∷ cs) = reply_to states c ∷ replies (after states c) cs

  -- The list after all calls.
  unfoldable pub left : List ℕ → List Call → List ℕ
  left states [] = states
  left states (c ∷ cs) = left (after states c) cs

  -- What a station with one state is answered, and the state that it is left with.
  unfoldable pub replies_alone : State → List Half → List Reply
  replies_alone s [] = []
  replies_alone s (h ∷ hs) = record { half = h; answer = (one_half reading file marks s h).answer } ∷ replies_alone (one_half reading file marks s h).state hs

  -- The state after all halves, in a station with one state.
  unfoldable pub left_alone : State → List Half → State
  left_alone s [] = s
  left_alone s (h ∷ hs) = left_alone (one_half reading file marks s h).state hs

  -- The number of bays stays.
  pub left_length : (states : List ℕ) (cs : List Call) → length (left states cs) ≡ length states
  unfolding left
  left_length states [] = refl
  left_length states (c ∷ cs) = left_length (after states c) cs ∙ length_stays reading file marks states c.bay c.half

  -- Any interleaving of the bays' calls: a bay's replies are those that it would get alone, from its own state with its own calls, and so is the state
  -- that it is left with.
  pub record AsAlone (states : List ℕ) (cs : List Call) (bay : ℕ) : Type 0 where
    pub replied : replies_to bay (replies states cs) ≡ replies_alone (bay_state states bay) (calls_of bay cs)
    pub state : bay_state (left states cs) bay ≡ left_alone (bay_state states bay) (calls_of bay cs)

  -- Every bay that is there is answered as it would be alone.
  pub interleaved : (states : List ℕ) (cs : List Call) (bay : ℕ) → bay < bay_count states → AsAlone states cs bay
  unfolding replies left replies_alone left_alone calls_of replies_to
  interleaved states [] bay is = record { replied = refl; state = refl }
  interleaved states (c ∷ cs) bay is = go (interleaved (after states c) cs bay more) (eqb c.bay bay) refl
    where
      more : bay < bay_count (after states c)
      more = let e = ap bays_in (length_stays reading file marks states c.bay c.half) in omega arith

      go : AsAlone (after states c) cs bay → (t : Bool) → eqb c.bay bay ≡ t → AsAlone states (c ∷ cs) bay
      go h true e =
          let same = eqb-true c.bay bay e in
          let here : c.bay < bay_count states = omega arith in
          let answer = half_answer reading file marks states c.bay here c.half ∙ ap (λ (b : ℕ). (one_half reading file marks (bay_state states b) c.half).answer) same in
          let state : bay_state (after states c) bay ≡ (one_half reading file marks (bay_state states bay) c.half).state =
          ap (bay_state (after states c)) (sym same) ∙ half_state reading file marks states c.bay here c.half
          ∙ ap (λ (b : ℕ). (one_half reading file marks (bay_state states b) c.half).state) same
          in
          record {
            replied =
                rw e
                (ap₂ {C = List Reply} ◌∷◌ (ap (λ (a : Answer ℕ). record { half = c.half; answer = a }) answer)
                (h.replied ∙ ap (λ (s : State). replies_alone s (calls_of bay cs)) state));
            state = rw e (h.state ∙ ap (λ (s : State). left_alone s (calls_of bay cs)) state);
          }
      go h false e =
          let apart = eqb-false c.bay bay e in
          let stays : bay_state (after states c) bay ≡ bay_state states bay =
          ap state_in (others_stay reading file marks states c.bay c.half bay (λ q. apart (sym q)))
          in
          record {
            replied = rw e (h.replied ∙ ap (λ (s : State). replies_alone s (calls_of bay cs)) stays);
            state = rw e (h.state ∙ ap (λ (s : State). left_alone s (calls_of bay cs)) stays);
          }

  -- A bay that is not there is refused, whatever the others do.
  abbrev pub refused_by : Half → Reply
  refused_by h = record { half = h; answer = refused (no_bay reading file marks) }

  -- Each call of a bay that is not there gets that refusal.
  pub not_there : (states : List ℕ) (cs : List Call) (bay : ℕ) → bay_count states ≤ bay →
      replies_to bay (replies states cs) ≡ map refused_by (calls_of bay cs)
  unfolding replies calls_of replies_to
  not_there states [] bay l = refl
  not_there states (c ∷ cs) bay l = go (not_there (after states c) cs bay more) (eqb c.bay bay) refl
    where
      more : bay_count (after states c) ≤ bay
      more = let e = ap bays_in (length_stays reading file marks states c.bay c.half) in omega arith

      go : replies_to bay (replies (after states c) cs) ≡ map refused_by (calls_of bay cs) → (t : Bool) → eqb c.bay bay ≡ t →
          replies_to bay (replies states (c ∷ cs)) ≡ map refused_by (calls_of bay (c ∷ cs))
      go h true e =
          let same = eqb-true c.bay bay e in
          let l : bay_count states ≤ c.bay = omega arith in
          rw e
          (ap₂ {C = List Reply} ◌∷◌
          (ap (λ (r : BayAnswer). record { half = c.half; answer = r.answer }) (half_none reading file marks states c.bay c.half l)) h)
      go h false e = rw e h

  -- Two lists of five for each bay in which every bay has the same state are the same.
  same_states : (a b : List ℕ) (some : ℕ) → some < bay_count a → length a ≡ length b → ((bay : ℕ) → bay < bay_count a → bay_state a bay ≡ bay_state b bay) → a ≡ b
  same_states a b some is l f =
      same_list a b l (fits (length a) some is).2 (λ bay h.
      sym (words_back (numbers_of a bay) (numbers_five a bay h))
      ∙ ap state_words (f bay (is_bay (length a) bay some is h))
      ∙ words_back (numbers_of b bay) (numbers_five b bay (omega arith)))

  -- A list without a bay stays.
  none_left : (states : List ℕ) (cs : List Call) → bay_count states ≡ 0 → left states cs ≡ states
  unfolding left
  none_left states [] e = refl
  none_left states (c ∷ cs) e =
      let k = half_none reading file marks states c.bay c.half (omega arith) in
      let stays : after states c ≡ states = ap (λ (r : BayAnswer). r.states) k in
      ap (λ (l : List ℕ). left l cs) stays ∙ none_left states cs e

  -- So the order in which the bays come to their turns changes no answer and not the list: only each bay's own calls count.
  pub record Same (states : List ℕ) (cs ds : List Call) : Type 0 where
    pub replied : (bay : ℕ) → replies_to bay (replies states cs) ≡ replies_to bay (replies states ds)
    pub list : left states cs ≡ left states ds

  -- Two orders in which each bay makes the same calls come to the same.
  pub any_order : (states : List ℕ) (cs ds : List Call) → ((bay : ℕ) → calls_of bay cs ≡ calls_of bay ds) → Same states cs ds
  any_order states cs ds own = record { replied = λ bay. answers bay (ltb bay (bay_count states)) refl; list = lists (ltb 0 (bay_count states)) refl }
    where
      answers : (bay : ℕ) (t : Bool) → ltb bay (bay_count states) ≡ t → replies_to bay (replies states cs) ≡ replies_to bay (replies states ds)
      answers bay true e =
          let is = ltb-true bay (bay_count states) e in
          (interleaved states cs bay is).replied ∙ ap (replies_alone (bay_state states bay)) (own bay) ∙ sym (interleaved states ds bay is).replied
      answers bay false e =
          let l = ltb-false bay (bay_count states) e in
          not_there states cs bay l ∙ ap (map refused_by) (own bay)
          ∙ sym (not_there states ds bay l)

      lists : (t : Bool) → ltb 0 (bay_count states) ≡ t → left states cs ≡ left states ds
      lists true e =
          let n = ap bays_in (left_length states cs) in
          let is = ltb-true 0 (bay_count states) e in
          same_states (left states cs) (left states ds) 0 (omega arith) (left_length states cs ∙ sym (left_length states ds)) (λ bay h.
          let here : bay < bay_count states = omega arith in
          (interleaved states cs bay here).state ∙ ap (left_alone (bay_state states bay)) (own bay) ∙ sym (interleaved states ds bay here).state)
      lists false e =
          let l = ltb-false 0 (bay_count states) e in
          none_left states cs (omega arith) ∙ sym (none_left states ds (omega arith))

  -- "ticks of different bays may be exchanged in order without changing any answer": two calls in either order give the same answers and the same list.
  pub record Exchanged (states : List ℕ) (c d : Call) : Type 0 where
    pub first : reply_to states c ≡ reply_to (after states d) c
    pub second : reply_to (after states c) d ≡ reply_to states d
    pub list : after (after states c) d ≡ after (after states d) c

  -- Two calls of different bays may be exchanged.
  pub exchange : (states : List ℕ) (c d : Call) → ¬ (c.bay ≡ d.bay) → Exchanged states c d
  unfolding left calls_of
  exchange states c d apart =
      record {
        first = ap (reply c) (unmoved c d apart);
        second = ap (reply d) (sym (unmoved d c (λ e. apart (sym e))));
        list = (any_order states (c ∷ d ∷ []) (d ∷ c ∷ []) own).list;
      }
    where
      reply : Call → Answer ℕ → BayReply
      reply c a = record { bay = c.bay; reply = record { half = c.half; answer = a } }

      unmoved : (c d : Call) → ¬ (c.bay ≡ d.bay) →
          (bay_half reading file marks states c.bay c.half).answer ≡ (bay_half reading file marks (after states d) c.bay c.half).answer
      unmoved c d apart =
          (depends_alone reading file marks states c.bay c.half (after states d) (ap bays_in (sym (length_stays reading file marks states d.bay d.half)))
          (λ _. ap state_in (sym (others_stay reading file marks states d.bay d.half c.bay apart)))).0

      own : (bay : ℕ) → calls_of bay (c ∷ d ∷ []) ≡ calls_of bay (d ∷ c ∷ [])
      own bay = go (eqb c.bay bay) refl (eqb d.bay bay) refl
        where
          go : (t : Bool) → eqb c.bay bay ≡ t → (u : Bool) → eqb d.bay bay ≡ u → calls_of bay (c ∷ d ∷ []) ≡ calls_of bay (d ∷ c ∷ [])
          go true e true k = absurd (apart (eqb-true _ _ e ∙ sym (eqb-true _ _ k)))
          go true e false k = rw (e, k)
          go false e u k = rw e
