-- The walk of `why_run` over the events: where its loop stands, a turn, and its end; what no refusal makes sure of, and what is answered then.
-- In order: a run from a marked place; the loop over the events (`Walking`); the slices to work in; the refusals one after the other; the answer.
use Rattle.std.specs.Prelude.{◌≡◌, refl, Bool, false, ◌&&◌, leb, length, get_or, take, drop, set}
use Rattle.std.proofs.Common.{sym, ◌∙◌, add-one, arith, length-set, take-append-drop, drop-cons, drop-set-lt, get_or-set_same, get_or-set_other, get_or-take, length-take-le, take_all, take-suc}
use Rattle.std.proofs.Math.Path.{ap, subst}
use Rattle.std.proofs.Math.Bool.{true, and-eq-true_iff}
use mathlib.Core.List.{List, [], ◌∷◌, ◌++◌, map, map-append}
use Rattle.std.proofs.Math.Logic.{by_cases}
use Rattle.std.proofs.Math.Option.{some}
use Prim.Native.Nat.{ℕ, zero, suc, ◌+◌, ◌/◌, ◌%◌, ◌≤◌, ◌<◌, min, zero-le}
use Rattle.std.proofs.Math.Decide.{dec_lt}
use borrow.Author.Tests.{le-leb, lt-leb, leb-true}
use Rattle.streams.specs.Stream.{Event, Stream}
use Rattle.streams.specs.Answer.{gives, unless}
use Rattle.streams.specs.AnswerLaws.{none_refused, none_unless, first_refused}
use Rattle.policy.specs.Rules.{Policy, Place}
use Rattle.policy.specs.File.{policy_of}
use Rattle.policy.specs.Check.{all_pass}
use Rattle.policy.specs.Number.{states, number_of}
use Rattle.policy.specs.Sound.{WellFormed, Inside}
use Rattle.policy.specs.Checked.{well_sound, all_at}
use Rattle.policy.specs.declared.Layout.{Layout}
use Rattle.stepping.specs.State.{is_marked, place, state_of}
use Rattle.stepping.specs.Tick.{ReleasedTick, Progress, tick, ran}
use Rattle.stepping.specs.Ticks.{ticked, ran_on}
use Rattle.enforcer.specs.Entries.{event_of, x_good, y_good, event_good, marks_refusal, state_refusal, run_refusal, run_of}
use Rattle.stepping.specs.Ready.{Laid, Standing}
use Rattle.stepping.specs.Laid.{laid_well, laid_place, place_back, place_in_state_of}
use Rattle.enforcer.specs.States.{inside_good, state_granted}
use Rattle.stepping.specs.declared.state.State.{State}
use Rattle.prepare.specs.Enforcing.{AsPrepared, MarkedPlace}
use Rattle.prepare.specs.Enforces.{tick_ready, ticked_ready}
use Rattle.fast.specs.Entry.{lent_refusal}
use Rattle.explaining.specs.Reasons.{Explained}
use Rattle.counting.specs.OtherMarks.{other_marks}
use Rattle.explaining.specs.EachHalf.{Reasons}
use Rattle.reasons.specs.Entry.{why_refusal, WhyAnswers, explains as given}
use Rattle.explaining.specs.Edited.{marks_prepared}
use Rattle.explaining.specs.Halves.{BothTold, Moves}
use Rattle.reasons.specs.Word.{reasons_word}
use Rattle.reasons.specs.Runs.{Room, shortest_of, room_refusal, early_refusal, why_run_refusal, WhyThere, WhyRunAnswers, refuses, explains}

-- With the marks of prepare a run from a marked place goes on for every event, and stands in a marked place.
module _ (p : Policy) (ok : WellFormed p) (marks : List ℕ) (by : AsPrepared p marks) where
  -- After any events the run stands in a marked place.
  pub ran_ready : {s : Place} → MarkedPlace p marks s → (es : Stream) → MarkedPlace p marks (ran p marks s es).place
  unfolding ran
  ran_ready k [] = k
  ran_ready {s} k (e ∷ es) =
      let r = tick_ready p ok marks by k e in
      subst (λ (q : Progress). MarkedPlace p marks q.place) (sym (ran_on p marks s e es r.0 r.1)) (ran_ready {s = r.0.place} r.2 es)

  -- One event more.
  pub ran_more : {s : Place} → MarkedPlace p marks s → (es : Stream) (e : Event) (t : ReleasedTick) → tick p marks (ran p marks s es).place e ≡ some t →
      (ran p marks s (es ++ (e ∷ []))).place ≡ t.place
  unfolding ran
  ran_more {s} k [] e t h = ap (λ (q : Progress). q.place) (ran_on p marks s e [] t h)
  ran_more {s} k (d ∷ es) e t h =
      let r = tick_ready p ok marks by k d in
      ap (λ (q : Progress). q.place) (ran_on p marks s d (es ++ (e ∷ [])) r.0 r.1)
      ∙ ran_more {s = r.0.place} r.2 es e t (subst (λ (q : Progress). tick p marks q.place e ≡ some t) (ran_on p marks s d es r.0 r.1) h)

-- Where the run stands before the event i.
abbrev pub place_before : Policy → List ℕ → Place → List ℕ → ℕ → Place
place_before p marks s events i = (ran p marks s (map event_of (take i events))).place

-- The word w is that of the reasons for the event i there.
pub record WordThere (p : Policy) (marks : List ℕ) (s : Place) (events : List ℕ) (i w : ℕ) : Type 0 where
  pub reasons : Reasons
  pub told : BothTold p marks (place_before p marks s events i) (get_or events i 0 % 16) (get_or events i 0 / 16) reasons
  pub word : w ≡ reasons_word reasons

-- From s₀ the first i events are explained in `out`, and the run stands in s.
pub record Walking (f : List ℕ) (l : Layout) (marks events out₀ : List ℕ) (s₀ : State) (i : ℕ) (out : List ℕ) (s : State) : Type 0 where
  pub most : i ≤ length events
  pub long : length out ≡ length out₀
  pub standing : Standing f l marks s
  pub ready : MarkedPlace (policy_of l.reading f) marks (place l.clocks s₀)
  pub live : is_marked marks (number_of (policy_of l.reading f) (place l.clocks s)) ≡ true
  pub state : s ≡ state_of (place_before (policy_of l.reading f) marks (place l.clocks s₀) events i)
  pub here : place l.clocks s ≡ place_before (policy_of l.reading f) marks (place l.clocks s₀) events i
  pub each : (j : ℕ) → j < i → WordThere (policy_of l.reading f) marks (place l.clocks s₀) events j (get_or out j 0)
  pub rest : drop i out ≡ drop i out₀

-- Before the first event nothing is explained or written, and the run stands where it began.
pub walking_starts : {f : List ℕ} {l : Layout} {marks : List ℕ} (events out : List ℕ) {s : State} → Standing f l marks s →
    is_marked marks (number_of (policy_of l.reading f) (place l.clocks s)) ≡ true → state_of (place l.clocks s) ≡ s →
    Walking f l marks events out s 0 out s
unfolding ran
walking_starts events out k m w =
    record {
      most = zero-le;
      long = refl;
      standing = k;
      ready = record { inside = k.inside; marked = m };
      live = m;
      state = sym w;
      here = refl;
      each = λ j h. absurd (omega arith);
      rest = refl;
    }

module _ {f : List ℕ} {l : Layout} {marks events out₀ : List ℕ} {s₀ : State} {i : ℕ} {out : List ℕ} {s : State}
    (g : Walking f l marks events out₀ s₀ i out s) where
  -- When no event is left, all are explained.
  pub walking_ends : length events ≤ i → Walking f l marks events out₀ s₀ (length events) out s
  walking_ends h = let e : i ≡ length events = omega (arith, g.most) in subst (λ (n : ℕ). Walking f l marks events out₀ s₀ n out s) e g

  module _ (by : AsPrepared (policy_of l.reading f) marks) (h : i < length events) (o : i < length out) {r : Reasons} {w x' y' : ℕ} {t : State}
      (b : BothTold (policy_of l.reading f) marks (place l.clocks s) (get_or events i 0 % 16) (get_or events i 0 / 16) r) (e : w ≡ reasons_word r)
      (m : Moves (policy_of l.reading f) marks (place l.clocks s) (get_or events i 0 % 16) (get_or events i 0 / 16) x' y' t) where
    abbrev p : Policy
    p = policy_of l.reading f

    next : MarkedPlace p marks m.done.place
    next =
        let k = g.standing in
        ticked_ready p marks (place l.clocks s) (event_of (get_or events i 0)) m.done (well_sound p (laid_well k.laid)) k.inside
        (ticked p marks (place l.clocks s) (event_of (get_or events i 0)) m.done m.is)

    after : place_before p marks (place l.clocks s₀) events (i + 1) ≡ m.done.place
    after =
        let q = subst (λ (z : Place). tick p marks z (event_of (get_or events i 0)) ≡ some m.done) g.here m.is in
        ap (λ (es : List ℕ). (ran p marks (place l.clocks s₀) (map event_of es)).place) (ap (λ (n : ℕ). take n events) (add-one i) ∙ take-suc events i 0 h)
        ∙ ap (λ (es : Stream). (ran p marks (place l.clocks s₀) es).place) (map-append event_of (take i events) (get_or events i 0 ∷ []))
        ∙ ran_more p (laid_well g.standing.laid) marks by g.ready (map event_of (take i events)) (event_of (get_or events i 0)) m.done q

    back : place l.clocks t ≡ m.done.place
    back = ap (place l.clocks) m.state ∙ place_back g.standing.laid next.inside

    told_here : WordThere p marks (place l.clocks s₀) events i (get_or (set out i w) i 0)
    told_here =
        record {
          reasons = r;
          told = subst (λ (z : Place). BothTold p marks z (get_or events i 0 % 16) (get_or events i 0 / 16) r) g.here b;
          word = get_or-set_same out i w 0 o ∙ e;
        }

    told_each : (j : ℕ) → j < i + 1 → WordThere p marks (place l.clocks s₀) events j (get_or (set out i w) j 0)
    told_each j u =
        by_cases (dec_lt j i)
        (λ a. subst (WordThere p marks (place l.clocks s₀) events j) (sym (get_or-set_other out i j w 0 (λ z. omega arith))) (g.each j a))
        (λ n.
        let z : i ≡ j = omega arith in
        subst (λ (d : ℕ). WordThere p marks (place l.clocks s₀) events d (get_or (set out i w) d 0)) z told_here)

    stays : drop (i + 1) (set out i w) ≡ drop (i + 1) out₀
    stays =
        let o₀ : i < length out₀ = omega (arith, g.long) in
        let q : ◌≡◌ {A = List ℕ} (get_or out i 0 ∷ drop (suc i) out) (get_or out₀ i 0 ∷ drop (suc i) out₀) = sym (drop-cons out i 0 o) ∙ g.rest ∙ drop-cons out₀ i 0 o₀ in
        let d : drop (suc i) out ≡ drop (suc i) out₀ = cc in
        rw add-one (drop-set-lt (suc i) out i w (omega arith) ∙ d)

    -- A turn: the event i is explained by r, and its tick leads to t.
    pub walking_turn : Walking f l marks events out₀ s₀ (i + 1) (set out i w) t
    walking_turn =
        record {
          most = omega arith;
          long = length-set out i w ∙ g.long;
          standing = record { laid = g.standing.laid; enough = g.standing.enough; inside = subst (Inside p) (sym back) next.inside };
          ready = g.ready;
          live = ap (λ (z : Place). is_marked marks (number_of p z)) back ∙ next.marked;
          state = m.state ∙ ap state_of (sym after);
          here = back ∙ sym after;
          each = told_each;
          rest = stays;
        }

-- ---- The refusals one after the other.
-- What the shortest slice has an entry for, each has.
pub record Fits (m : Room) (n : ℕ) : Type 0 where
  pub ticks : n ≤ length m.ticks
  pub rests : n ≤ length m.rests
  pub prepared : n ≤ length m.prepared
  pub stack : n ≤ length m.work.stack
  pub from : n ≤ length m.work.from
  pub ways : n ≤ length m.work.ways
  pub bound : n ≤ length m.work.bound
  pub place : n ≤ length m.work.place

below_both : (n a b : ℕ) → n ≤ min a b → (n ≤ a) × (n ≤ b)
below_both n a b h = (omega arith, omega arith)

-- If the shortest slice has n entries or more, each has.
pub room_fits : (m : Room) (n : ℕ) → n ≤ shortest_of m → Fits m n
room_fits m n h =
    let a = below_both n _ _ h in
    let b = below_both n _ _ a.1 in
    let c = below_both n _ _ b.1 in
    let d = below_both n _ _ c.1 in
    let e = below_both n _ _ d.1 in
    let f = below_both n _ _ e.1 in
    let g = below_both n _ _ f.1 in
    record { ticks = a.0; rests = b.0; prepared = c.0; stack = d.0; from = e.0; ways = f.0; bound = g.0; place = g.1 }

module _ (reading : ℕ) (file marks : List ℕ) (work events words : ℕ) where
  -- The first that is given, in their order.
  pub room_first : {r : ℕ} → r ≡ marks_refusal reading file marks → (r ≡ 0 → ⊥) → room_refusal reading file marks work events words ≡ r
  unfolding room_refusal lent_refusal
  room_first {r = zero} e n = absurd (n refl)
  room_first {r = suc r} e n = rw (← e)

  module _ (m : marks_refusal reading file marks ≡ 0) where
    -- A work slice has fewer entries than there are states: 23.
    pub room_23 : work < states (policy_of reading file) → room_refusal reading file marks work events words ≡ 23
    unfolding room_refusal lent_refusal
    room_23 h = rw (m, lt-leb (states (policy_of reading file)) work h)

    module _ (h : states (policy_of reading file) ≤ work) where
      -- The work slices are long enough, but the slice for the words is shorter than the events: 14.
      pub room_14 : words < events → room_refusal reading file marks work events words ≡ 14
      unfolding room_refusal lent_refusal
      room_14 l = rw (m, le-leb (states (policy_of reading file)) work h, lt-leb events words l)

      -- Every slice is long enough: none of these refusals is given.
      pub room_0 : events ≤ words → room_refusal reading file marks work events words ≡ 0
      unfolding room_refusal lent_refusal
      room_0 l = rw (m, le-leb (states (policy_of reading file)) work h, le-leb events words l)

  -- None is given.
  pub room_none : room_refusal reading file marks work events words ≡ 0 →
      (marks_refusal reading file marks ≡ 0) × (states (policy_of reading file) ≤ work) × (events ≤ words)
  unfolding room_refusal lent_refusal
  room_none z =
      let a = (none_refused (lent_refusal reading file marks work) (unless (leb events words) 14)).0 z in
      let b = (none_refused (marks_refusal reading file marks) (unless (leb (states (policy_of reading file)) work) 23)).0 a.0 in
      (b.0, leb-true _ _ ((none_unless _ 22).0 b.1), leb-true _ _ ((none_unless _ 13).0 a.1))

module _ (reading : ℕ) (file marks : List ℕ) (s : State) (events words : List ℕ) (work : ℕ) where
  -- No early refusal: none for file, marks or slices, and none for the state.
  pub early_none : early_refusal reading file marks s events words work ≡ 0 →
      (room_refusal reading file marks work (length events) (length words) ≡ 0) × (state_refusal reading file marks s ≡ 0)
  unfolding early_refusal
  early_none z = (none_refused (room_refusal reading file marks work (length events) (length words)) (state_refusal reading file marks s)).0 z

  -- A refusal for file, marks or slices is the early one.
  pub early_room : {r : ℕ} → r ≡ room_refusal reading file marks work (length events) (length words) → (r ≡ 0 → ⊥) →
      early_refusal reading file marks s events words work ≡ r
  unfolding early_refusal
  early_room e n = rw (← e) (first_refused _ _ n)

  -- Without such a refusal, the early one is that of the state.
  pub early_state : {r : ℕ} → room_refusal reading file marks work (length events) (length words) ≡ 0 → r ≡ state_refusal reading file marks s →
      early_refusal reading file marks s events words work ≡ r
  unfolding early_refusal
  early_state z e = rw (z, ← e)

  -- An early refusal is the one that is answered.
  pub run_early : {r : ℕ} → early_refusal reading file marks s events words work ≡ r → (r ≡ 0 → ⊥) → why_run_refusal reading file marks s events words work ≡ r
  unfolding why_run_refusal
  run_early e n = rw e (first_refused _ _ n)

  module _ (z : early_refusal reading file marks s events words work ≡ 0) where
    -- The marks are not those of prepare: 20.
    pub run_20 : other_marks (policy_of reading file) marks ≡ true → why_run_refusal reading file marks s events words work ≡ 20
    unfolding why_run_refusal
    run_20 o = rw (z, o)

    -- The marks are those of prepare, but some event has a bit beyond its signals: 15.
    pub run_15 : other_marks (policy_of reading file) marks ≡ false → all_pass (event_good reading file) events ≡ false →
        why_run_refusal reading file marks s events words work ≡ 15
    unfolding why_run_refusal
    run_15 o a = rw (z, o, a)

    -- The marks are those of prepare, and every event fits: nothing is refused.
    pub run_0 : other_marks (policy_of reading file) marks ≡ false → all_pass (event_good reading file) events ≡ true →
        why_run_refusal reading file marks s events words work ≡ 0
    unfolding why_run_refusal
    run_0 o a = rw (z, o, a)

  -- A refusal is answered with the state that was given, and nothing is written.
  pub answers_no : {r : ℕ} → why_run_refusal reading file marks s events words work ≡ r → (r ≡ 0 → ⊥) →
      WhyRunAnswers reading file marks s events words work (record { refusal = r; count = 0; state = s; out = words })
  answers_no {r = zero} e n = absurd (n refl)
  answers_no {r = suc r} e n = refuses e

all_take : (test : ℕ → Bool) (xs : List ℕ) (j : ℕ) → all_pass test xs ≡ true → all_pass test (take j xs) ≡ true
unfolding all_pass
all_take test xs zero e = refl
all_take test [] (suc j) e = refl
all_take test (x ∷ xs) (suc j) e =
    let k = (and-eq-true_iff (test x) (all_pass test xs)).0 e in (and-eq-true_iff (test x) (all_pass test (take j xs))).1 (k.0, all_take test xs j k.1)

-- ---- Nothing is refused: what is answered.
module _ (file marks : List ℕ) {l : Layout} (k : Laid file l) (s : State) (events words : List ℕ) (work : ℕ)
    (early : early_refusal l.reading file marks s events words work ≡ 0) (same : other_marks (policy_of l.reading file) marks ≡ false)
    (fit : all_pass (event_good l.reading file) events ≡ true) where
  abbrev policy : Policy
  policy = policy_of l.reading file

  no_marks : marks_refusal l.reading file marks ≡ 0
  no_marks = (room_none l.reading file marks work (length events) (length words) (early_none l.reading file marks s events words work early).0).0

  no_state : state_refusal l.reading file marks s ≡ 0
  no_state = (early_none l.reading file marks s events words work early).1

  -- `run` refuses none of these events, and hands back the state of the place where it stands.
  run_clear : (es : List ℕ) → all_pass (event_good l.reading file) es ≡ true → run_refusal l.reading file marks s es es ≡ 0
  unfolding run_refusal
  run_clear es f = rw (no_marks, le-leb (length es) (length es) (omega arith), no_state, f)

  runs_to : (es : List ℕ) → all_pass (event_good l.reading file) es ≡ true →
      (run_of l.reading file marks s es es).state ≡ state_of (ran policy marks (place l.clocks s) (map event_of es)).place
  unfolding run_of
  runs_to es f = rw (run_clear es f, laid_place k s)

  module _ (start : MarkedPlace policy marks (place l.clocks s)) where
    ready_before : (i : ℕ) → MarkedPlace policy marks (place_before policy marks (place l.clocks s) events i)
    ready_before i = ran_ready policy (laid_well k) marks (marks_prepared policy marks same) start (map event_of (take i events))

    -- `why` refuses nothing there.
    why_clear : (i : ℕ) → i < length events →
        why_refusal l.reading file marks (state_of (place_before policy marks (place l.clocks s) events i)) (get_or events i 0 % 16) (get_or events i 0 / 16) ≡ 0
    unfolding why_refusal
    why_clear i h =
        let q = place_before policy marks (place l.clocks s) events i in
        let n = ready_before i in
        let t : state_refusal l.reading file marks (state_of q) ≡ 0 =
        (state_granted l.reading file marks (state_of q)).1
        (inside_good policy q n.inside, ap (λ (z : Place). is_marked marks (number_of policy z)) (place_in_state_of policy n.inside) ∙ n.marked) in
        let b : (x_good l.reading file (get_or events i 0 % 16) && y_good l.reading file (get_or events i 0 / 16)) ≡ true = all_at _ events fit i h in
        rw (no_marks, t, same, b)

    there : {w : ℕ} (i : ℕ) → i < length events → WordThere policy marks (place l.clocks s) events i w → WhyThere l.reading file marks s events i w
    there i h t =
        let q = place_before policy marks (place l.clocks s) events i in
        let x = get_or events i 0 % 16 in
        let y = get_or events i 0 / 16 in
        let r = t.reasons in
        let e = subst (λ (z : Place). Explained policy marks z x y r.input r.output) (sym (place_in_state_of policy (ready_before i).inside)) t.told.explained in
        record {
          answer = gives r;
          why =
              subst (λ (u : State). WhyAnswers l.reading file marks u x y (gives r)) (sym (runs_to (take i events) (all_take _ events i fit)))
              (given (why_clear i h) e);
          small = (t.told.few_input, t.told.few_output);
          word = t.word;
        }

    -- Every event is explained, and the run stands in t.
    pub answers_all : {out : List ℕ} {t : State} → length events ≤ length words → Walking file l marks events words s (length events) out t →
        WhyRunAnswers l.reading file marks s events words work (record { refusal = 0; count = length events; state = t; out = out })
    answers_all {out} {t} enough g =
        let n = length events in
        let fits : n ≤ length out = omega (arith, g.long) in
        let a : t ≡ (run_of l.reading file marks s events events).state =
        g.state ∙ ap (λ (es : List ℕ). state_of (ran policy marks (place l.clocks s) (map event_of es)).place) (take_all n events (omega arith)) ∙ sym (runs_to events fit) in
        let b : out ≡ take n out ++ drop n words = sym (take-append-drop n out) ∙ ap (λ (r : List ℕ). take n out ++ r) g.rest in
        subst (λ (u : State). WhyRunAnswers l.reading file marks s events words work (record { refusal = 0; count = n; state = u; out = out })) (sym a)
        (subst
        (λ (o : List ℕ). WhyRunAnswers l.reading file marks s events words work (record { refusal = 0; count = n; state = (run_of l.reading file marks s events events).state; out = o }))
        (sym b)
        (explains (take n out) (run_0 l.reading file marks s events words work early same fit) (length-take-le n out fits)
        (λ i h. there i h (subst (WordThere policy marks (place l.clocks s) events i) (sym (get_or-take n out i 0 h)) (g.each i h)))))
