-- With the marks of prepare, the run over stopped clocks releases what is asked for of the permitted streams, over clocks without limit.
-- In order: the place that a stream leads to; ticks and runs under any marks; with the marks of prepare, what may be released after a stream, that
-- the choices are the nearest of it, and that a run never stops and releases what is asked for.
use Rattle.std.specs.Prelude.{◌≡◌, true, false, ◌↔◌, ℕ, ◌<◌, eqb}
use Rattle.std.proofs.Math.Path.{refl, ap, subst}
use Rattle.std.proofs.Common.{sym, ◌∙◌}
use mathlib.Core.List.{List, [], ◌∷◌, ◌++◌, append-nil, append_assoc}
use Rattle.std.proofs.Math.Logic.Iff
use Rattle.std.proofs.Math.Option.{none, some, bind, some-injective}
use Rattle.std.proofs.Math.ListN.{get_or-append}
use borrow.Author.Tests.{eqb-true, eq-eqb}
use Rattle.streams.specs.Stream.{Event, Stream, GoesOn}
use Rattle.streams.specs.Order.{Nearest}
use Rattle.streams.specs.Corrections.{corrections}
use Rattle.streams.specs.Choose.{Among}
use Rattle.streams.specs.ChooseLaws.{some_has, some_from, nearest_may, nearest_some}
use Rattle.streams.specs.Enforced.{then, MayOut, MayIn, Enforced, done}
use Rattle.streams.specs.Enforced
use Rattle.streams.specs.Laws.{permitted}
use Rattle.policy.specs.Rules.{Policy, Place, start, stopped, step, steps, input_values, output_values, FitsOne, fits_none, fits_more, Permits}
use Rattle.policy.specs.Stopped.{step_same, start_stops}
use Rattle.policy.specs.Stop.{stop, shown}
use Rattle.policy.specs.Number.{number_of}
use Rattle.policy.specs.Sound.{WellFormed, Sound, Inside}
use Rattle.policy.specs.Numbered.{number_of_below}
use Rattle.policy.specs.Stays.{of_some, step_inside, steps_append, stop_inside, fits_append, runs_append, closed}
use Rattle.policy.specs.Checked.{well_sound, well_checked}
use Rattle.stepping.specs.State.{is_marked}
use Rattle.stepping.specs.Tick.{ReleasedTick, Progress, arrives, reaches, may_stand, input_choice, output_choice, moved, output_tick, tick, ran}
pub use Rattle.stepping.specs.Ticks.{TickedBy, ticked, input_stands, output_stands, ran_on}
use Rattle.trimming.specs.Table.{marks_of}
use Rattle.trimming.specs.Live.{arrived, onward, mark_of, marks_length, marks_onward, runs_more, unlimited_step, after_in, goes_on_marked}
use Rattle.prepare.specs.Enforcing.{Enforces, Leads, AsPrepared, MarkedPlace, ins, outs}

-- A slice that begins with the marks of prepare has them, whatever stands past them.
pub prepared_front : (p : Policy) (rest : List ℕ) → AsPrepared p (marks_of p ++ rest)
prepared_front p rest n h = ap (λ (m : ℕ). eqb m 1) (get_or-append (marks_of p) rest 0 n (rw marks_length h))

-- The empty stream leads to the start.
pub leads_start : (p : Policy) → Leads p [] (start p)
unfolding steps
leads_start p = record { fits = fits_none; place = start p; leads = refl; shows = start_stops p }

-- A stream leads to one place.
pub leads_one : {p : Policy} {w : Stream} {s t : Place} → Leads p w s → Leads p w t → s ≡ t
leads_one {p} h k = sym h.shows ∙ ap (stop p) (some-injective _ _ (sym h.leads ∙ k.leads)) ∙ k.shows

module _ (p : Policy) (ok : WellFormed p) {w : Stream} {s : Place} (h : Leads p w s) where
  -- A stream leads to a place of the policy, with no clock above its ceiling.
  pub leads_inside : Inside p s
  leads_inside = subst (Inside p) h.shows (stop_inside p h.place (after_in p ok h.leads h.fits))

  -- With one more event, within the signals and not a violation, the stream leads to the place after its step.
  pub leads_on : (e : Event) (u : Place) → FitsOne p e → step stopped p s e ≡ some u → Leads p (w ++ (e ∷ [])) u
  unfolding steps bind
  leads_on e u f k =
      let v = unlimited_step p ok h.place e u (rw h.shows k) in
      record {
        fits = fits_append p h.fits (fits_more f fits_none);
        place = v.0;
        leads = rw (steps_append, h.leads, v.1);
        shows = v.2;
      }

  -- A permitted event is within the signals and, over clocks that stop, leads to a place.
  pub leads_by : (e : Event) → (Permits p).permits (w ++ (e ∷ [])) → (u : Place) × FitsOne p e × (step stopped p s e ≡ some u)
  unfolding shown
  leads_by e r =
      let m = (runs_more p h.place e []).0 ((runs_append p (start p) h.place w h.leads h.fits (e ∷ [])).0 r) in
      (stop p m.0, m.1, rw (← h.shows, step_same p (well_checked p ok) h.place e, m.2))

-- Whatever the marks are.
module _ (p : Policy) (marks : List ℕ) (s : Place) where
  -- The output half gives the whole tick again, from the x released and the y read.
  pub output_ticked : (e : Event) (r : ReleasedTick) → TickedBy p marks s e r → output_tick p marks s r.event.x e.y ≡ some r
  unfolding output_tick moved bind
  output_ticked e r t = rw (t.output, t.moves)

  -- An input that may stand has an output for every answer of the controller.
  pub output_found : (x y : ℕ) → may_stand p marks s x ≡ true → (r : ReleasedTick) × (output_tick p marks s x y ≡ some r)
  unfolding may_stand output_tick moved output_choice bind
  output_found x y h =
      let z = nearest_some (reaches p marks s x) y (output_values p) h in
      let t = arrived p marks s x z.0 (output_stands p marks s x y z.0 z.1).1 in
      (record { event = record { x = x; y = z.0 }; place = t.0 }, rw (z.1, t.1))

  -- Where an input is chosen, the tick is found.
  pub tick_found : (e : Event) (x : ℕ) → input_choice p marks s e.x ≡ some x → (r : ReleasedTick) × (tick p marks s e ≡ some r)
  unfolding tick bind
  tick_found e x h = let r = output_found x e.y (input_stands p marks s e.x x h).1 in (r.0, rw (h, r.1))

  -- A run stops at an event for which no input may stand.
  pub ran_stuck : (e : Event) (es : Stream) → input_choice p marks s e.x ≡ none → (ran p marks s (e ∷ es)).stuck ≡ true
  unfolding ran tick bind
  ran_stuck e es h = rw (h, ran)

-- A tick ends at a marked place of the policy.
pub ticked_ready :
    (p : Policy) (marks : List ℕ) (s : Place) (e : Event) (r : ReleasedTick) → Sound p → Inside p s → TickedBy p marks s e r → MarkedPlace p marks r.place
unfolding reaches
ticked_ready p marks s e r k i t =
    record {
      inside = of_some (Inside p) t.moves (step_inside p k s i r.event);
      marked = ap (arrives p marks) (sym t.moves) ∙ (output_stands p marks s r.event.x e.y r.event.y t.output).1;
    }

module _ (p : Policy) (ok : WellFormed p) (marks : List ℕ) (by : AsPrepared p marks) where
  marked_by : {s : Place} → Inside p s → (mark_of p s ≡ 1) ↔ (is_marked marks (number_of p s) ≡ true)
  marked_by {s} i = let e = by (number_of p s) (number_of_below p i) in (λ m. e ∙ eq-eqb _ 1 m, λ k. eqb-true _ 1 (sym e ∙ k))

  -- A stream can go on for ever exactly if the state that it leads to is marked.
  pub goes_on_ready : {w : Stream} {s : Place} → Leads p w s → GoesOn (Permits p) w ↔ (is_marked marks (number_of p s) ≡ true)
  goes_on_ready {w} h =
      Iff.trans (subst (λ (z : Place). GoesOn (Permits p) w ↔ (mark_of p z ≡ 1)) h.shows (goes_on_marked p ok h.leads h.fits))
      (marked_by (leads_inside p ok h))

  module _ {w : Stream} {s : Place} (h : Leads p w s) where
    -- An event "takes the state to a live one" exactly if after it the stream can go on for ever.
    pub reaches_goes_on : (x y : ℕ) → FitsOne p (record { x = x; y = y }) → (reaches p marks s x y ≡ true) ↔ GoesOn (Permits p) (then w x y)
    unfolding reaches
    reaches_goes_on x y f = (
      λ k. let t = arrived p marks s x y k in (goes_on_ready (leads_on p ok h _ t.0 f t.1)).1 t.2,
      λ g.
          let t = leads_by p ok h _ (permitted (Permits p) (closed p (start p)) (then w x y) g) in
          ap (arrives p marks) t.2 ∙ (goes_on_ready (leads_on p ok h _ t.0 f t.2)).0 g,
    )

    -- For an input in range, the outputs that reach a marked place are those that let the stream go on for ever.
    pub reaches_may :
        (x : ℕ) → x < input_values p → (y : ℕ) →
        Among (reaches p marks s x) (output_values p) y ↔ MayOut (Permits p) (ins p) (outs p) w x y
    reaches_may x k y = (
      λ a. (a.0, (reaches_goes_on x y (record { x = k; y = a.0 })).0 a.1),
      λ m. (m.0, (reaches_goes_on x y (record { x = k; y = m.0 })).1 m.1),
    )

    -- The inputs that may stand by the marks are those with an output that lets the stream go on for ever.
    pub stands_may : (x : ℕ) → Among (may_stand p marks s) (input_values p) x ↔ MayIn (Permits p) (ins p) (outs p) w x
    unfolding may_stand
    stands_may x = (
      λ a. let y = some_from (reaches p marks s x) (output_values p) a.1 in (a.0, (y.0, (reaches_may x a.0 y.0).0 (y.1, y.2))),
      λ m.
          let a = (reaches_may x m.0 m.1.0).1 m.1.1 in
          (m.0, some_has (reaches p marks s x) (output_values p) m.1.0 a.0 a.1),
    )

    -- The input chosen is the nearest one with which the stream can go on for ever.
    pub input_nearest : (x z : ℕ) → (input_choice p marks s x ≡ some z) ↔ Nearest corrections (MayIn (Permits p) (ins p) (outs p) w) x z
    unfolding input_choice
    input_nearest = nearest_may (may_stand p marks s) (input_values p) (MayIn (Permits p) (ins p) (outs p) w) stands_may

    -- For an input in range, the output chosen is the nearest one with which the stream can go on for ever.
    pub output_nearest :
        (x : ℕ) → x < input_values p → (y z : ℕ) →
        (output_choice p marks s x y ≡ some z) ↔ Nearest corrections (MayOut (Permits p) (ins p) (outs p) w x) y z
    unfolding output_choice
    output_nearest x k = nearest_may (reaches p marks s x) (output_values p) (MayOut (Permits p) (ins p) (outs p) w x) (reaches_may x k)

    -- A tick releases what is asked for after w, and the released stream leads to the place where it ends.
    pub tick_right :
        (e : Event) (r : ReleasedTick) → tick p marks s e ≡ some r →
        Enforced.Tick corrections (Permits p) (ins p) (outs p) w e r.event × Leads p (w ++ (r.event ∷ [])) r.place
    tick_right e r k =
        let t = ticked p marks s e r k in
        let x = (input_nearest e.x r.event.x).0 t.input in
        let y = (output_nearest r.event.x x.may.0 e.y r.event.y).0 t.output in
        (record { input = x; output = y }, leads_on p ok h r.event r.place (record { x = x.may.0; y = y.may.0 }) t.moves)

  -- A stream that can go on for ever leads to a marked place.
  pub leads_ready : {w : Stream} {s : Place} → Leads p w s → GoesOn (Permits p) w → MarkedPlace p marks s
  leads_ready h g = record { inside = leads_inside p ok h; marked = (goes_on_ready h).0 g }

  -- "With the marks of prepare and a live state, run and the input half never give 17".
  module _ {s : Place} (k : MarkedPlace p marks s) where
    -- At a marked place an input is found, whatever was read.
    pub input_found : (x : ℕ) → (z : ℕ) × (input_choice p marks s x ≡ some z)
    unfolding input_choice
    input_found x =
        let o = (marks_onward p ok k.inside).0 ((marked_by k.inside).1 k.marked) in
        let i = of_some (Inside p) o.leads (step_inside p (well_sound p ok) s k.inside o.event) in
        nearest_some (may_stand p marks s) x (input_values p)
        ((onward p marks s).1
        (record {
          event = o.event;
          fits = o.fits;
          next = o.next;
          leads = o.leads;
          marked = eqb-true _ 1 ((marked_by i).0 o.marked);
        }))

    -- At a marked place every event has a tick, and that ends at a marked place.
    pub tick_ready : (e : Event) → (r : ReleasedTick) × (tick p marks s e ≡ some r) × MarkedPlace p marks r.place
    tick_ready e =
        let z = input_found e.x in
        let r = tick_found p marks s e z.0 z.1 in
        (r.0, r.1, ticked_ready p marks s e r.0 (well_sound p ok) k.inside (ticked p marks s e r.0 r.1))

  -- A run from a marked place never stops for want of an input.
  pub never_stuck : {s : Place} → MarkedPlace p marks s → (es : Stream) → (ran p marks s es).stuck ≡ false
  unfolding ran
  never_stuck k [] = refl
  never_stuck {s} k (e ∷ es) = let r = tick_ready k e in ap (λ (q : Progress). q.stuck) (ran_on p marks s e es r.0 r.1) ∙ never_stuck {s = r.0.place} r.2 es

  -- After a stream that can go on for ever, the run releases what is asked for, one event for each one read.
  pub ran_enforces : {w : Stream} {s : Place} → Leads p w s → GoesOn (Permits p) w → (es : List Event) → Enforces p w es (ran p marks s es)
  unfolding ran
  ran_enforces h g [] = record { moving = refl; enforced = done; leads = rw append-nil h }
  ran_enforces {w} {s} h g (e ∷ es) =
      let r = tick_ready (leads_ready h g) e in
      let t = tick_right h e r.0 r.1 in
      let k = ran_enforces {w = w ++ r.0.event ∷ []} t.1 t.0.output.may.1 es in
      subst (Enforces p w (e ∷ es)) (sym (ran_on p marks s e es r.0 r.1))
      (record {
        moving = k.moving;
        enforced = Enforced.tick t.0 k.enforced;
        leads = rw append_assoc at k.leads;
      })
