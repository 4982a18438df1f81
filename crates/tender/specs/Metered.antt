-- The meter on top, over the promises of its code: the stream of a station with a meter is demand 2's, and its two totals are the advance of a register
-- that never rolls over.
use Rattle.std.specs.Prelude.{◌≡◌, refl, List, [], ◌∷◌, ℕ, ◌+◌, ◌-◌, ◌*◌, ◌%◌, ◌≤◌}
use Rattle.std.proofs.Common.{sym, ap, ap₂, subst, ◌∙◌}
use Rattle.streams.specs.Answer as Said
use Rattle.streams.specs.Stream.{Event, Stream}
use Rattle.policy.specs.File.{policy_of}
use Rattle.enforcer.specs.Entries.{OutputAnswer, output_of}
use Rattle.stepping.specs.Code.{start_state}
use Rattle.prepare.specs.Promise.{PreparePromise}
use Rattle.prepare.specs.declared.Summary.{Summary}
use Rattle.meter.specs.Meter.{station_state, last_reading, billed, unbilled, pulses_of, with_pulse}
use Rattle.meter.specs.Entries.{MeterAnswer, weight_p}
use Rattle.meter.specs.Promises.{MeterNewPromise, MeterInputPromise, MeterOutputPromise}
use Rattle.meter.specs.Accepted.{accepted_input, accepted_output, accepted_state}
use Rattle.meter.specs.Sums.{Meter, Turn, both, meter_of, last_accepted, Fewer, fresh, totals_are_the_advance, totals_round, never_falls, new_state, refused_stays}
use Rattle.groovepawn.specs.Calls.{PrepareCall}
use Rattle.groovepawn.specs.Fields.{answer_fields}
use Rattle.groovepawn.specs.Meter.{MeterNewCall, MeterInputCall, MeterOutputCall, meter_output_stays}
use Rattle.tender.specs.Calls.{half_in, c_meter_new, c_meter_input, c_meter_output}
use Rattle.tender.specs.Code.{prepare_read}
use Rattle.tender.specs.TickByTick.{TickByTick, ticks_none, ticks_more, TicksReleased, ticks_release}
use Rattle.stepping.specs.declared.state.State.{State}

-- What a tick of a station with a meter reads: the register, x and the controller's answer.
pub record Read : Type 0 where
  pub register : ℕ
  pub x : ℕ
  pub y : ℕ

module _ (reading : ℕ) (file : List ℕ) where
  -- The event that is read then: in x, P is set exactly if there were pulses.
  abbrev pub event_read : (station : List ℕ) → Read → Event
  event_read station t = record { x = with_pulse (weight_p reading file) (pulses_of t.register (last_reading station)) t.x; y = t.y }

-- The code's two halves, used tick after tick from a station and totals: the ticks read, the events that these are, the released ones, and the station and
-- the totals that are left.
pub data MeterTicks (reading : ℕ) (file marks : List ℕ) : (station totals : List ℕ) → List Read → (read released : Stream) → (last sums : List ℕ) → Type 0 where
  meter_none : {station totals : List ℕ} → MeterTicks reading file marks station totals [] [] [] station totals
  meter_more : {station totals next risen last sums : List ℕ} {t : Read} {ts : List Read} {r : Event} {es rs : Stream} →
      MeterInputPromise reading file marks station t.register t.x (Said.gives r.x) →
      MeterOutputPromise reading file marks station totals t.register r.x t.y (Said.gives r.y) next risen →
      MeterTicks reading file marks next risen ts es rs last sums →
      MeterTicks reading file marks station totals (t ∷ ts) (event_read reading file station t ∷ es) (r ∷ rs) last sums

module _ {reading : ℕ} {file marks : List ℕ} where
  -- They are ticks of the library's own halves, from the state in the station's numbers.
  pub meter_ticks : {station totals last sums : List ℕ} {ts : List Read} {es rs : Stream} →
      MeterTicks reading file marks station totals ts es rs last sums →
      TickByTick reading file marks (station_state station) es rs (station_state last)
  meter_ticks meter_none = ticks_none
  meter_ticks (meter_more {station = station} {totals = totals} {next = next} {t = t} {r = r} i o more) =
      let s = station_state station in
      let e = o.said in
      let a = accepted_output reading file marks station totals t.register r.x t.y (ap (λ (z : MeterAnswer). z.answer) (sym e)) in
      let there : station_state next ≡ (output_of reading file marks s r.x t.y).state =
      ap (λ (z : MeterAnswer). station_state z.station) e ∙ accepted_state reading file marks station totals t.register r.x t.y a
      in
      ticks_more (record { said = sym (accepted_input reading file marks station t.register t.x (sym i.said)) })
      (record { said = ap₂ {C = OutputAnswer} (λ (b : Said.Answer ℕ) (z : State). record { answer = b; state = z }) (sym a.released) there })
      (meter_ticks more)

-- After prepare's code gave a summary, from a station that meter_new's code set up: for the events read the code released demand 2's stream, and the
-- station's state is the one that it leads to.
pub meter_release :
    {reading : ℕ} {file lent marks : List ℕ} {s : Summary} → PreparePromise reading file lent (Said.gives s) marks →
    {before totals fresh zeros : List ℕ} {register : ℕ} → MeterNewPromise before totals register 0 fresh zeros →
    {last sums : List ℕ} {ts : List Read} {es rs : Stream} → MeterTicks reading file marks fresh zeros ts es rs last sums →
    TicksReleased (policy_of reading file) es rs (station_state last)
meter_release {reading} {file} {marks = marks} h {before} {totals} {fresh = first} {register = register} new {last} {es = es} {rs = rs} ticks =
    let start : station_state first ≡ start_state = ap station_state new.placed ∙ new_state before totals (sym new.said) register in
    ticks_release h
    (subst (λ (z : State). TickByTick reading file marks z es rs (station_state last)) start (meter_ticks ticks))

-- The same of the C functions: groovepawn_meter_input and groovepawn_meter_output returned words without a refusal, their values above eight bits of 0.
pub data CMeterTicks (reading : ℕ) (file marks : List ℕ) : (station totals : List ℕ) → List Read → (read released : Stream) → (last sums : List ℕ) → Type 0 where
  c_meter_none : {station totals : List ℕ} → CMeterTicks reading file marks station totals [] [] [] station totals
  c_meter_more : {station totals next risen last sums : List ℕ} {t : Read} {ts : List Read} {r : Event} {es rs : Stream} →
      MeterInputCall reading file marks station t.register t.x (r.x * 256) →
      MeterOutputCall reading file marks station totals t.register r.x t.y (r.y * 256) next risen →
      CMeterTicks reading file marks next risen ts es rs last sums →
      CMeterTicks reading file marks station totals (t ∷ ts) (event_read reading file station t ∷ es) (r ∷ rs) last sums

-- What such a word says.
word_half : (v : ℕ) → half_in (v * 256) ≡ Said.gives v
word_half v = let f = answer_fields v in rw (f.0, f.1)

c_meter_ticks : {reading : ℕ} {file marks station totals last sums : List ℕ} {ts : List Read} {es rs : Stream} →
    CMeterTicks reading file marks station totals ts es rs last sums → MeterTicks reading file marks station totals ts es rs last sums
c_meter_ticks c_meter_none = meter_none
c_meter_ticks {reading} {file} {marks} (c_meter_more {station = station} {totals = totals} {next = next} {risen = risen} {t = t} {r = r} i o more) =
    meter_more
    (subst (MeterInputPromise reading file marks station t.register t.x) (word_half r.x) (c_meter_input i))
    (subst (λ (a : Said.Answer ℕ). MeterOutputPromise reading file marks station totals t.register r.x t.y a next risen) (word_half r.y) (c_meter_output o))
    (c_meter_ticks more)

-- After groovepawn_prepare and groovepawn_meter_new refused nothing: demand 2's stream, and the state that it leads to.
pub c_meter_release :
    {reading : ℕ} {file lent marks : List ℕ} {v : ℕ} → PrepareCall reading file lent v marks → v % 256 ≡ 0 →
    {before totals fresh zeros : List ℕ} {register : ℕ} → MeterNewCall before totals register 0 fresh zeros →
    {last sums : List ℕ} {ts : List Read} {es rs : Stream} → CMeterTicks reading file marks fresh zeros ts es rs last sums →
    TicksReleased (policy_of reading file) es rs (station_state last)
c_meter_release h z new ticks =
    let s = prepare_read h z in
    meter_release {s = s.0} (record { said = sym s.1; marks = h.marks })
    (c_meter_new new) (c_meter_ticks ticks)

-- Any calls of meter_output's code, accepted or refused, one after the other: `count` is the reading of a register that never rolls over.
pub data Turns (reading : ℕ) (file marks : List ℕ) : (station totals : List ℕ) → List Turn → (last sums : List ℕ) → Type 0 where
  turns_none : {station totals : List ℕ} → Turns reading file marks station totals [] station totals
  turns_more : {station totals next risen last sums : List ℕ} {t : Turn} {ts : List Turn} {a : Said.Answer ℕ} →
      MeterOutputPromise reading file marks station totals (t.count % 65536) t.x t.y a next risen →
      Turns reading file marks next risen ts last sums → Turns reading file marks station totals (t ∷ ts) last sums

-- They leave what the definitions say.
turns_meter : {reading : ℕ} {file marks station totals last sums : List ℕ} {ts : List Turn} → Turns reading file marks station totals ts last sums →
    meter_of reading file marks (record { station = station; totals = totals }) ts ≡ record { station = last; totals = sums }
unfolding meter_of
turns_meter turns_none = refl
turns_meter {reading} {file} {marks} (turns_more {ts = ts} h more) =
    ap (λ (a : MeterAnswer). meter_of reading file marks (record { station = a.station; totals = a.totals }) ts) (sym h.said) ∙ turns_meter more

-- From a station that meter_new's code set up, with the count c at first.
module _ {reading : ℕ} {file marks before totals first zeros : List ℕ} (c : ℕ) (new : MeterNewPromise before totals (c % 65536) 0 first zeros)
    {last sums : List ℕ} {ts : List Turn} (turns : Turns reading file marks first zeros ts last sums) where
  abbrev start : Meter
  start = fresh before totals (sym new.said) c

  same : meter_of reading file marks start ts ≡ record { station = last; totals = sums }
  same =
      ap₂ (λ (s t : List ℕ). meter_of reading file marks (record { station = s; totals = t }) ts) (sym new.placed) (sym new.cleared) ∙ turns_meter turns

  -- "The two totals together equal the advance of a register that never rolls over, from the first reading to the last accepted one, provided fewer than
  -- 65,536 pulses pass between accepted readings."
  pub code_advance : Fewer reading file marks start c ts → billed sums + unbilled sums ≡ last_accepted reading file marks start c ts - c
  code_advance f = ap (λ (m : Meter). both m.totals) (sym same) ∙ totals_are_the_advance reading file marks before totals (sym new.said) c ts f

  -- Without that, the same modulo 65,536.
  pub code_round : (billed sums + unbilled sums + c) % 65536 ≡ last_accepted reading file marks start c ts % 65536
  code_round =
      ap (λ (m : Meter). (both m.totals + c) % 65536) (sym same) ∙ totals_round reading file marks before totals (sym new.said) c ts

-- No total ever falls, and so no bill is negative: from any station and totals on.
pub code_never_falls :
    {reading : ℕ} {file marks station totals last sums : List ℕ} {ts : List Turn} → Turns reading file marks station totals ts last sums →
    (billed totals ≤ billed sums) × (unbilled totals ≤ unbilled sums)
code_never_falls {reading} {file} {marks} {station} {totals} {ts = ts} turns =
    let h = never_falls reading file marks (record { station = station; totals = totals }) ts in
    let e = turns_meter turns in
    (subst (λ (m : Meter). billed totals ≤ billed m.totals) e h.0, subst (λ (m : Meter). unbilled totals ≤ unbilled m.totals) e h.1)

-- "A refused tick changes no total, last reading or state."
pub code_refused_stays :
    {reading : ℕ} {file marks station totals next sums : List ℕ} {register x y n : ℕ} →
    MeterOutputPromise reading file marks station totals register x y (Said.refused n) next sums → (next ≡ station) × (sums ≡ totals)
code_refused_stays {reading} {file} {marks} {station} {totals} {register = register} {x} {y} h =
    let k = refused_stays reading file marks station totals register x y (ap (λ (a : MeterAnswer). a.answer) (sym h.said)) in
    (ap (λ (a : MeterAnswer). a.station) h.said ∙ k.0, ap (λ (a : MeterAnswer). a.totals) h.said ∙ k.1)

-- A tick that groovepawn_meter_output refuses changes no total, last reading or state.
pub c_refused_stays :
    {reading : ℕ} {file marks station totals next sums : List ℕ} {register x y r : ℕ} →
    MeterOutputCall reading file marks station totals register x y r next sums → ¬ (r % 256 ≡ 0) → (next ≡ station) × (sums ≡ totals)
c_refused_stays {reading} {file} {marks} {station} {totals} {register = register} {x} {y} h some =
    let k = meter_output_stays reading file marks station totals register x y (λ z. some (ap (λ (n : ℕ). n % 256) h.said ∙ z)) in
    (h.next ∙ k.0, h.sums ∙ k.1)

-- Any calls of groovepawn_meter_output, accepted or refused, one after the other.
pub data CTurns (reading : ℕ) (file marks : List ℕ) : (station totals : List ℕ) → List Turn → (last sums : List ℕ) → Type 0 where
  c_turns_none : {station totals : List ℕ} → CTurns reading file marks station totals [] station totals
  c_turns_more : {station totals next risen last sums : List ℕ} {t : Turn} {ts : List Turn} {r : ℕ} →
      MeterOutputCall reading file marks station totals (t.count % 65536) t.x t.y r next risen →
      CTurns reading file marks next risen ts last sums → CTurns reading file marks station totals (t ∷ ts) last sums

c_turns : {reading : ℕ} {file marks station totals last sums : List ℕ} {ts : List Turn} → CTurns reading file marks station totals ts last sums → Turns reading file marks station totals ts last sums
c_turns c_turns_none = turns_none
c_turns (c_turns_more h more) = turns_more (c_meter_output h) (c_turns more)

module _ {reading : ℕ} {file marks before totals first zeros : List ℕ} (c : ℕ) (new : MeterNewCall before totals (c % 65536) 0 first zeros)
    {last sums : List ℕ} {ts : List Turn} (turns : CTurns reading file marks first zeros ts last sums) where
  abbrev c-start : Meter
  c-start = fresh before totals (sym new.said) c

  -- In C, the two totals together are the register's advance, with fewer than 65,536 pulses between accepted readings.
  pub c_advance : Fewer reading file marks c-start c ts → billed sums + unbilled sums ≡ last_accepted reading file marks c-start c ts - c
  c_advance = code_advance c (c_meter_new new) (c_turns turns)

  -- Without that, the same modulo 65,536.
  pub c_round : (billed sums + unbilled sums + c) % 65536 ≡ last_accepted reading file marks c-start c ts % 65536
  c_round = code_round c (c_meter_new new) (c_turns turns)

-- In C, no total ever falls, from any station and totals on.
pub c_never_falls :
    {reading : ℕ} {file marks station totals last sums : List ℕ} {ts : List Turn} → CTurns reading file marks station totals ts last sums →
    (billed totals ≤ billed sums) × (unbilled totals ≤ unbilled sums)
c_never_falls turns = code_never_falls (c_turns turns)
