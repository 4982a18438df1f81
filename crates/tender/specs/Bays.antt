-- "Demand 2 is read for each bay alone": from a new list, and whatever the other bays do in between. Over the promises of the code, and over the C
-- functions.
-- In order: calls and their replies; demand 2's stream for each bay, and no bay stops; a bay's answers go by its own alone; the order of turns; the
-- same in C.
use Rattle.std.specs.Prelude.{◌≡◌, refl, Bool, true, false, ℕ, ◌/◌, ◌%◌, ◌<◌, ltb, eqb, get_or, drop}
use Rattle.std.proofs.Math.Path.{sym, ap, ap₂}
use Rattle.std.proofs.Common.{subst, ◌∙◌, ltb-true, ltb-false}
use mathlib.Core.List.{List, [], ◌∷◌, map}
use native.Mathlib.Omega.{arith}
use Rattle.streams.specs.Answer.{refused, gives}
use Rattle.streams.specs.Answer as Said
use Rattle.streams.specs.Stream.{Event, Stream}
use Rattle.policy.specs.Rules.{input_values, output_values}
use Rattle.policy.specs.File.{policy_of}
use Rattle.enforcer.specs.Entries.{input_of, output_of}
use Rattle.stepping.specs.Code.{start_state}
use Rattle.stepping.specs.declared.state.State.{State}
use Rattle.prepare.specs.Promise.{PreparePromise}
use Rattle.prepare.specs.declared.Summary.{Summary}
use Rattle.bays.specs.Bays.{bays_in, bay_count, bay_state}
use Rattle.bays.specs.Entries.{BayAnswer}
use Rattle.bays.specs.Promises.{NewPromise, BayInputPromise, BayOutputPromise}
use Rattle.bays.specs.There.{input_there, output_there}
use Rattle.bays.specs.Halves.{Half, input, output, afresh, afresh_count}
use Rattle.bays.specs.Alone.{Call, Reply, BayReply, calls_of, replies_to, replies, left, replies_alone, left_alone, left_length, interleaved, refused_by, not_there, any_order, exchange}
use Rattle.groovepawn.specs.Calls.{PrepareCall}
use Rattle.groovepawn.specs.Fields.{answer_in}
use Rattle.groovepawn.specs.Bays.{NewCall, BayInputCall, BayOutputCall}
use Rattle.tender.specs.TickByTick.{TickByTick, ticks_none, ticks_more, TicksReleased, ticks_release, ticks_go_on}
use Rattle.tender.specs.Calls.{half_in, half_read, half_given, c_bays_new, c_bay_input, c_bay_output}
use Rattle.tender.specs.Code.{prepare_read}

-- A bay's half and its answer.
abbrev pub replied : ℕ → Half → Said.Answer ℕ → BayReply
replied bay h a = record { bay = bay; reply = record { half = h; answer = a } }

-- What the code answered, half after half, of any bays in any order, from the list `states` on; `last` is the list then.
pub data BayCalls (reading : ℕ) (file marks : List ℕ) : List ℕ → List BayReply → List ℕ → Type 0 where
  calls_none : {states : List ℕ} → BayCalls reading file marks states [] states
  calls_input : {states last : List ℕ} {bay x : ℕ} {a : Said.Answer ℕ} {rs : List BayReply} →
      BayInputPromise reading file marks states bay x a → BayCalls reading file marks states rs last →
      BayCalls reading file marks states (replied bay (input x) a ∷ rs) last
  calls_output : {states next last : List ℕ} {bay x y : ℕ} {a : Said.Answer ℕ} {rs : List BayReply} →
      BayOutputPromise reading file marks states bay x y a next → BayCalls reading file marks next rs last →
      BayCalls reading file marks states (replied bay (output x y) a ∷ rs) last

-- The same of groovepawn_bay_input and groovepawn_bay_output, their words read as the header's macros read them.
pub data CBayCalls (reading : ℕ) (file marks : List ℕ) : List ℕ → List BayReply → List ℕ → Type 0 where
  c_calls_none : {states : List ℕ} → CBayCalls reading file marks states [] states
  c_calls_input : {states last : List ℕ} {bay x w : ℕ} {rs : List BayReply} →
      BayInputCall reading file marks states bay x w → CBayCalls reading file marks states rs last →
      CBayCalls reading file marks states (replied bay (input x) (answer_in w) ∷ rs) last
  c_calls_output : {states next last : List ℕ} {bay x y w : ℕ} {rs : List BayReply} →
      BayOutputCall reading file marks states bay x y w next → CBayCalls reading file marks next rs last →
      CBayCalls reading file marks states (replied bay (output x y) (answer_in w) ∷ rs) last

-- A bay's own replies are whole ticks: for each event read, the input half with its x gave the released one's, and the output half, with that and its y,
-- the released one's y.
pub data BayTicks : List Reply → (read released : Stream) → Type 0 where
  bay_none : BayTicks [] [] []
  bay_more : {e r : Event} {es rs : Stream} {more : List Reply} → BayTicks more es rs →
      BayTicks
      (record { half = input e.x; answer = gives r.x } ∷ record { half = output r.x e.y; answer = gives r.y } ∷ more)
      (e ∷ es) (r ∷ rs)

abbrev call_of : BayReply → Call
call_of r = record { bay = r.bay; half = r.reply.half }

-- What was asked for in a reply.
abbrev pub half_of : Reply → Half
half_of r = r.half

-- A bay's calls are those of its replies.
calls_back : (bay : ℕ) (rs : List BayReply) → calls_of bay (map call_of rs) ≡ map half_of (replies_to bay rs)
unfolding calls_of replies_to
calls_back bay [] = refl
calls_back bay (r ∷ rs) = go (calls_back bay rs) (eqb r.bay bay) refl
  where
    go : calls_of bay (map call_of rs) ≡ map half_of (replies_to bay rs) → (t : Bool) → eqb r.bay bay ≡ t →
        calls_of bay (map call_of (r ∷ rs)) ≡ map half_of (replies_to bay (r ∷ rs))
    go h true e = rw e (ap (◌∷◌ r.reply.half) h)
    go h false e = rw e h

module _ (reading : ℕ) (file marks : List ℕ) where
  -- The replies and the list are those that the definitions say.
  abbrev BayTold : List ℕ → List BayReply → List ℕ → Type 0
  BayTold states rs last =
      (replies reading file marks states (map call_of rs) ≡ rs) × (left reading file marks states (map call_of rs) ≡ last)

  calls_told : {states last : List ℕ} {rs : List BayReply} → BayCalls reading file marks states rs last → BayTold states rs last
  unfolding replies left
  calls_told calls_none = (refl, refl)
  calls_told (calls_input {bay = bay} {x = x} {rs = rs} h more) =
      let k = calls_told more in
      (ap₂ {C = List BayReply} (λ (a : Said.Answer ℕ) (l : List BayReply). replied bay (input x) a ∷ l) (sym h.said) k.0, k.1)
  calls_told (calls_output {bay = bay} {x = x} {y = y} {rs = rs} h more) =
      let k = calls_told more in
      let there = ap (λ (r : BayAnswer). r.states) (sym h.said) in (
        ap₂ {C = List BayReply} (λ (a : Said.Answer ℕ) (l : List BayReply). replied bay (output x y) a ∷ l)
            (ap (λ (r : BayAnswer). r.answer) (sym h.said))
            (ap (λ (l : List ℕ). replies reading file marks l (map call_of rs)) there ∙ k.0),
        ap (λ (l : List ℕ). left reading file marks l (map call_of rs)) there ∙ k.1,
      )

  -- Whole ticks that a state alone is answered are ticks of the code's halves.
  alone_ticks :
      {own : List Reply} {es os : Stream} → BayTicks own es os → (s : State) → replies_alone reading file marks s (map half_of own) ≡ own →
      TickByTick reading file marks s es os (left_alone reading file marks s (map half_of own))
  unfolding replies_alone left_alone
  alone_ticks bay_none s e = ticks_none
  alone_ticks (bay_more {e = e} {r = r} {more = more} h) s k =
      let d : Reply = record { half = input 0; answer = refused 0 } in
      let next = (output_of reading file marks s r.x e.y).state in
      let gave : input_of reading file marks s e.x ≡ gives r.x = ap (λ (l : List Reply). (get_or l 0 d).answer) k in
      let also : (output_of reading file marks s r.x e.y).answer ≡ gives r.y = ap (λ (l : List Reply). (get_or l 1 d).answer) k in
      ticks_more (record { said = sym gave }) (record { said = ap (λ (a : Said.Answer ℕ). record { answer = a; state = next }) (sym also) })
      (alone_ticks h next (ap (drop 2) k))

  -- A bay of a new list.
  module _ {before fresh : List ℕ} (new : NewPromise before 0 fresh) {bay : ℕ} (is : bay < bay_count fresh) where
    starts : bay_state fresh bay ≡ start_state
    starts =
        let n = ap bay_count new.states ∙ afresh_count before in
        ap (λ (l : List ℕ). bay_state l bay) new.states ∙ afresh before bay (omega arith)

    module _ {last : List ℕ} {rs : List BayReply} (told : BayTold fresh rs last) {es os : Stream} (ticks : BayTicks (replies_to bay rs) es os) where
      own_ticks : TickByTick reading file marks start_state es os (bay_state last bay)
      own_ticks =
          let i = interleaved reading file marks fresh (map call_of rs) bay is in
          let asked : calls_of bay (map call_of rs) ≡ map half_of (replies_to bay rs) = calls_back bay rs in
          let alone : replies_alone reading file marks start_state (map half_of (replies_to bay rs)) ≡ replies_to bay rs =
          ap₂ (replies_alone reading file marks) (sym starts) (sym asked) ∙ sym i.replied ∙ ap (replies_to bay) told.0
          in
          let there : left_alone reading file marks start_state (map half_of (replies_to bay rs)) ≡ bay_state last bay =
          ap₂ (left_alone reading file marks) (sym starts) (sym asked) ∙ sym i.state ∙ ap (λ (l : List ℕ). bay_state l bay) told.1
          in
          subst (λ (z : State). TickByTick reading file marks start_state es os z) there (alone_ticks ticks start_state alone)

      -- It is there still, and calls of other bays leave it as it is.
      still : bay < bay_count last
      still =
          let n = ap bay_count (sym told.1) ∙ ap bays_in (left_length reading file marks fresh (map call_of rs)) in
          omega arith

  unmoved :
      (last later : List ℕ) (bay : ℕ) (more : List BayReply) → bay < bay_count last → BayTold last more later → replies_to bay more ≡ [] →
      (bay < bay_count later) × (bay_state later bay ≡ bay_state last bay)
  unfolding left_alone
  unmoved last later bay more is told none =
      let n = ap bay_count (sym told.1) ∙ ap bays_in (left_length reading file marks last (map call_of more)) in (
        omega arith,
        ap (λ (l : List ℕ). bay_state l bay) (sym told.1) ∙ (interleaved reading file marks last (map call_of more) bay is).state
            ∙ ap (left_alone reading file marks (bay_state last bay)) (calls_back bay more ∙ ap (map half_of) none),
      )

-- After prepare's code gave a summary, from a list that bays_new's code made, and with any calls of other bays in between: for the events read at a bay
-- the code released demand 2's stream, and the bay's state is the one that it leads to.
module _ {reading : ℕ} {file lent marks : List ℕ} {s : Summary} (h : PreparePromise reading file lent (Said.gives s) marks)
    {before fresh : List ℕ} (new : NewPromise before 0 fresh) {bay : ℕ} (is : bay < bay_count fresh)
    {last : List ℕ} {rs : List BayReply} (calls : BayCalls reading file marks fresh rs last)
    {es os : Stream} (ticks : BayTicks (replies_to bay rs) es os) where
  -- What was released at the bay is demand 2's stream, and leads to the bay's state.
  pub bays_release : TicksReleased (policy_of reading file) es os (bay_state last bay)
  bays_release = ticks_release h (own_ticks reading file marks new is (calls_told reading file marks calls) ticks)

  -- The bay never stops: whatever is read there next, the input half gives an input; and for it and whatever the controller answers the output half
  -- gives an output, also where other bays had their turns in between.
  pub bays_go_on :
      (x : ℕ) (a : Said.Answer ℕ) → x < input_values (policy_of reading file) → BayInputPromise reading file marks last bay x a →
      (z : ℕ) × (a ≡ Said.gives z)
      × ((more : List BayReply) (later next : List ℕ) (y : ℕ) (o : Said.Answer ℕ) → y < output_values (policy_of reading file) →
      BayCalls reading file marks last more later → replies_to bay more ≡ [] → BayOutputPromise reading file marks later bay z y o next →
      (w : ℕ) × (o ≡ Said.gives w))
  bays_go_on x a f i =
      let told = calls_told reading file marks calls in
      let here = still reading file marks new is told ticks in
      let on = ticks_go_on h (own_ticks reading file marks new is told ticks) x a f (record { said = i.said ∙ input_there reading file marks last bay here x }) in (
        on.0,
        on.1,
        λ more later next y o g between none k.
            let u = unmoved reading file marks last later bay more here (calls_told reading file marks between) none in
            let e = output_there reading file marks later bay u.0 on.0 y in
            let t = (output_of reading file marks (bay_state last bay) on.0 y).state in
            let said = ap (λ (r : BayAnswer). r.answer) (k.said ∙ e)
            ∙ ap (λ (s : State). (output_of reading file marks s on.0 y).answer) u.1
            in
            on.2 y (record { answer = o; state = t }) g
            (record { said = ap (λ (b : Said.Answer ℕ). record { answer = b; state = t }) said }),
      )

-- "A bay's answers, refusals included, depend on the policy, the marks, the reading, the number of bays, its own state and its own events and nothing more":
-- from two lists of as many bays, in which the bay has the same state, with the same halves asked of it and any of the others, the code answers it the same.
pub bays_alone :
    {reading : ℕ} {file marks states others last end : List ℕ} {rs qs : List BayReply} →
    BayCalls reading file marks states rs last → BayCalls reading file marks others qs end → bay_count states ≡ bay_count others →
    (bay : ℕ) → (bay < bay_count states → bay_state states bay ≡ bay_state others bay) → map half_of (replies_to bay rs) ≡ map half_of (replies_to bay qs) →
    replies_to bay rs ≡ replies_to bay qs
bays_alone {reading} {file} {marks} {states} {others} {rs = rs} {qs = qs} h k n bay same asked =
    sym (ap (replies_to bay) (calls_told reading file marks h).0) ∙ go (ltb bay (bay_count states)) refl ∙ ap (replies_to bay) (calls_told reading file marks k).0
  where
    own : calls_of bay (map call_of rs) ≡ calls_of bay (map call_of qs)
    own = calls_back bay rs ∙ asked ∙ sym (calls_back bay qs)

    go : (t : Bool) → ltb bay (bay_count states) ≡ t →
        replies_to bay (replies reading file marks states (map call_of rs)) ≡ replies_to bay (replies reading file marks others (map call_of qs))
    go true e =
        let is = ltb-true bay (bay_count states) e in
        (interleaved reading file marks states (map call_of rs) bay is).replied
        ∙ ap₂ (replies_alone reading file marks) (same is) own
        ∙ sym (interleaved reading file marks others (map call_of qs) bay (omega arith)).replied
    go false e =
        let l = ltb-false bay (bay_count states) e in
        not_there reading file marks states (map call_of rs) bay l ∙ ap (map (refused_by reading file marks)) own
        ∙ sym (not_there reading file marks others (map call_of qs) bay (omega arith))

-- "no tick alters .. another bay's state": a bay of which nothing was asked has the state that it had.
pub bays_stay :
    {reading : ℕ} {file marks states last : List ℕ} {rs : List BayReply} → BayCalls reading file marks states rs last →
    (bay : ℕ) → bay < bay_count states → replies_to bay rs ≡ [] → bay_state last bay ≡ bay_state states bay
bays_stay {reading} {file} {marks} {states} {last} {rs} h bay is none =
    (unmoved reading file marks states last bay rs is (calls_told reading file marks h) none).1

-- "ticks of different bays may be exchanged in order without changing any answer": two halves of different bays, asked in either order, get the same answers
-- and leave the same list.
pub bays_exchange :
    {reading : ℕ} {file marks states last end : List ℕ} (c d : Call) {a b also too : Said.Answer ℕ} → ¬ (c.bay ≡ d.bay) →
    BayCalls reading file marks states (replied c.bay c.half a ∷ replied d.bay d.half b ∷ []) last →
    BayCalls reading file marks states (replied d.bay d.half too ∷ replied c.bay c.half also ∷ []) end →
    (a ≡ also) × (b ≡ too) × (last ≡ end)
unfolding replies left
bays_exchange {reading} {file} {marks} {states} c d {a} {b} {also} {too} apart h k =
    let x = exchange reading file marks states c d apart in
    let t = calls_told reading file marks h in
    let u = calls_told reading file marks k in
    let none = replied 0 (input 0) (refused 0) in (
      sym (ap (λ (l : List BayReply). (get_or l 0 none).reply.answer) t.0) ∙ ap (λ (r : BayReply). r.reply.answer) x.first
          ∙ ap (λ (l : List BayReply). (get_or l 1 none).reply.answer) u.0,
      sym (ap (λ (l : List BayReply). (get_or l 1 none).reply.answer) t.0) ∙ ap (λ (r : BayReply). r.reply.answer) x.second
          ∙ ap (λ (l : List BayReply). (get_or l 0 none).reply.answer) u.0,
      sym t.1 ∙ x.list ∙ u.1,
    )

-- Calls in any two orders that keep each bay's own get the same answers and leave the same list.
pub bays_any_order :
    {reading : ℕ} {file marks states last end : List ℕ} {rs qs : List BayReply} →
    BayCalls reading file marks states rs last → BayCalls reading file marks states qs end →
    ((bay : ℕ) → map half_of (replies_to bay rs) ≡ map half_of (replies_to bay qs)) → ((bay : ℕ) → replies_to bay rs ≡ replies_to bay qs) × (last ≡ end)
bays_any_order {reading} {file} {marks} {states} {rs = rs} {qs = qs} h k asked =
    let same = any_order reading file marks states (map call_of rs) (map call_of qs) (λ bay. calls_back bay rs ∙ asked bay ∙ sym (calls_back bay qs)) in (
      λ bay. bays_alone h k refl bay (λ is. refl) (asked bay),
      sym (calls_told reading file marks h).1 ∙ same.list ∙ (calls_told reading file marks k).1,
    )

-- The functions in C answer as the code does, and so all of this holds of them.
pub c_bay_calls : {reading : ℕ} {file marks states last : List ℕ} {rs : List BayReply} → CBayCalls reading file marks states rs last → BayCalls reading file marks states rs last
c_bay_calls c_calls_none = calls_none
c_bay_calls {reading} {file} {marks} {last = last} (c_calls_input {states = states} {bay = bay} {x = x} {w = w} {rs = rs} h more) =
    subst (λ (a : Said.Answer ℕ). BayCalls reading file marks states (replied bay (input x) a ∷ rs) last) (half_read w)
    (calls_input (c_bay_input h) (c_bay_calls more))
c_bay_calls {reading} {file} {marks} {last = last} (c_calls_output {states = states} {bay = bay} {x = x} {y = y} {w = w} {rs = rs} h more) =
    subst (λ (a : Said.Answer ℕ). BayCalls reading file marks states (replied bay (output x y) a ∷ rs) last) (half_read w)
    (calls_output (c_bay_output h) (c_bay_calls more))

-- After groovepawn_prepare and groovepawn_bays_new refused nothing: demand 2's stream for each bay, and no bay ever stops.
module _ {reading : ℕ} {file lent marks : List ℕ} {v : ℕ} (h : PrepareCall reading file lent v marks) (z : v % 256 ≡ 0)
    {before fresh : List ℕ} (new : NewCall before 0 fresh) {bay : ℕ} (is : bay < bay_count fresh)
    {last : List ℕ} {rs : List BayReply} (calls : CBayCalls reading file marks fresh rs last)
    {es os : Stream} (ticks : BayTicks (replies_to bay rs) es os) where
  summary : (s : Summary) × PreparePromise reading file lent (Said.gives s) marks
  summary = let s = prepare_read h z in (s.0, record { said = sym s.1; marks = h.marks })

  -- In C, what was released at the bay is demand 2's stream, and leads to the bay's state.
  pub c_bays_release : TicksReleased (policy_of reading file) es os (bay_state last bay)
  c_bays_release = bays_release summary.1 (c_bays_new new) is (c_bay_calls calls) ticks

  -- In C, whatever is read at the bay next gets an input, and whatever the controller answers then gets an output.
  pub c_bays_go_on :
      (x w : ℕ) → x < input_values (policy_of reading file) → BayInputCall reading file marks last bay x w →
      (w % 256 ≡ 0)
      × ((more : List BayReply) (later next : List ℕ) (y u : ℕ) → y < output_values (policy_of reading file) →
      CBayCalls reading file marks last more later → replies_to bay more ≡ [] → BayOutputCall reading file marks later bay (w / 256) y u next → u % 256 ≡ 0)
  c_bays_go_on x w f i =
      let on = bays_go_on summary.1 (c_bays_new new) is (c_bay_calls calls) ticks x (half_in w) f (c_bay_input i) in
      let value = half_given w on.1 in (
        value.0,
        λ more later next y u g between none k.
            (half_given u
            (on.2 more later next y (half_in u) g (c_bay_calls between) none
            (subst (λ (n : ℕ). BayOutputPromise reading file marks later bay n y (half_in u) next) value.1 (c_bay_output k))).1
            ).0,
      )

-- In C, from two lists of as many bays, in which the bay has the same state, the same halves asked of it get the same answers.
pub c_bays_alone :
    {reading : ℕ} {file marks states others last end : List ℕ} {rs qs : List BayReply} →
    CBayCalls reading file marks states rs last → CBayCalls reading file marks others qs end → bay_count states ≡ bay_count others →
    (bay : ℕ) → (bay < bay_count states → bay_state states bay ≡ bay_state others bay) → map half_of (replies_to bay rs) ≡ map half_of (replies_to bay qs) →
    replies_to bay rs ≡ replies_to bay qs
c_bays_alone h k = bays_alone (c_bay_calls h) (c_bay_calls k)

-- In C, a bay of which nothing was asked has the state that it had.
pub c_bays_stay :
    {reading : ℕ} {file marks states last : List ℕ} {rs : List BayReply} → CBayCalls reading file marks states rs last →
    (bay : ℕ) → bay < bay_count states → replies_to bay rs ≡ [] → bay_state last bay ≡ bay_state states bay
c_bays_stay h = bays_stay (c_bay_calls h)

-- In C, two halves of different bays, asked in either order, get the same answers and leave the same list.
pub c_bays_exchange :
    {reading : ℕ} {file marks states last end : List ℕ} (c d : Call) {a b also too : Said.Answer ℕ} → ¬ (c.bay ≡ d.bay) →
    CBayCalls reading file marks states (replied c.bay c.half a ∷ replied d.bay d.half b ∷ []) last →
    CBayCalls reading file marks states (replied d.bay d.half too ∷ replied c.bay c.half also ∷ []) end →
    (a ≡ also) × (b ≡ too) × (last ≡ end)
c_bays_exchange c d apart h k = bays_exchange c d apart (c_bay_calls h) (c_bay_calls k)

-- In C, calls in any two orders that keep each bay's own get the same answers and leave the same list.
pub c_bays_any_order :
    {reading : ℕ} {file marks states last end : List ℕ} {rs qs : List BayReply} →
    CBayCalls reading file marks states rs last → CBayCalls reading file marks states qs end →
    ((bay : ℕ) → map half_of (replies_to bay rs) ≡ map half_of (replies_to bay qs)) → ((bay : ℕ) → replies_to bay rs ≡ replies_to bay qs) × (last ≡ end)
c_bays_any_order h k = bays_any_order (c_bay_calls h) (c_bay_calls k)
