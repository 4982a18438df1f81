-- "The two totals together equal the advance of a register that never rolls over, from the first reading to the last accepted one, provided fewer than
-- 65,536 pulses pass between accepted readings." Over any sequence of ticks, accepted and refused.
-- In order: the pulses of one tick and the advance; what the second half can do; one tick; a meter that is set up; a sequence of ticks; the totals from
-- the set-up on.
use Rattle.std.specs.Prelude.{◌≡◌, ℕ, zero, suc, ◌+◌, ◌-◌, ◌*◌, ◌/◌, ◌%◌, ◌<◌, ◌≤◌, Bool, true, false, cond, ◌&&◌, List, [], ◌∷◌, ◌++◌, length, drop, slice_index}
use Rattle.std.proofs.Math.Path.{refl}
use native.Mathlib.Omega.{arith}
use Rattle.std.proofs.lemmas.List.{get_or_at}
use Rattle.streams.specs.Answer.{Answer, refused, gives, unless}
use Rattle.enforcer.specs.Entries.{OutputAnswer, output_of}
use Rattle.stepping.specs.Code.{start_state}
use Rattle.bays.specs.Halves.{output_four}
use Rattle.bays.specs.Odd.{odd_refusal}
use Rattle.meter.specs.Meter.{is_station, are_totals, station_state, last_reading, with_station, billed, unbilled, pulses_of, is_on, risen, fits}
use Rattle.meter.specs.Entries.{MeterAnswer, kept, settled, metered, past, meter_refusal, weight_d, new_refusal, new_station, new_totals, meter_output_of}
use Rattle.stepping.specs.declared.state.State.{State}

-- "so 65,530 followed by 4 is 10 pulses"
pub over_the_top : pulses_of 4 65530 ≡ 10
unfolding pulses_of
over_the_top = refl

-- Where a 16-bit register shows the counts c and k of one that never rolls over, the pulses are the advance, if that is below 65,536; and in any case
-- they are it modulo 65,536.
pub advance : (c k : ℕ) → c ≤ k → k < c + 65536 → pulses_of (k % 65536) (c % 65536) + c ≡ k
unfolding pulses_of
advance c k h l = omega arith

-- The pulses are the advance modulo 65,536, however far it goes.
pub advance_round : (c k : ℕ) → (pulses_of (k % 65536) (c % 65536) + c) % 65536 ≡ k % 65536
unfolding pulses_of
advance_round c k = omega arith

-- What the second half can do: it refuses and all stays, or the state goes on, the register is the last reading, and the pulses go into a total.
pub data MeterTurned (station totals : List ℕ) (register : ℕ) : MeterAnswer → Type 0 where
  stays : {n : ℕ} → MeterTurned station totals register (kept station totals n)
  moves : {y : ℕ} (on : Bool) (s : State) → length s.clocks ≡ 4 → fits totals on (pulses_of register (last_reading station)) ≡ true →
      MeterTurned station totals register
      (record { answer = gives y; station = with_station station s register; totals = risen totals on (pulses_of register (last_reading station)) })

module _ (reading : ℕ) (file marks station totals : List ℕ) (register x y : ℕ) where
  -- The second half refuses and all stays, or it goes on: nothing else.
  pub turned : MeterTurned station totals register (meter_output_of reading file marks station totals register x y)
  unfolding meter_output_of settled
  turned = first (meter_refusal reading file)
    where
      o : OutputAnswer
      o = output_of reading file marks (station_state station) x y

      last : (on : Bool) (z : ℕ) (t : Bool) → fits totals on (pulses_of register (last_reading station)) ≡ t →
          MeterTurned station totals register
          (cond t
          (record { answer = gives z; station = with_station station o.state register; totals = risen totals on (pulses_of register (last_reading station)) })
          (kept station totals 27))
      last on z true e = moves on o.state (output_four reading file marks (station_state station) x y refl) e
      last on z false e = stays

      third : (a : Answer ℕ) → MeterTurned station totals register (metered station totals register (weight_d reading file) o.state a)
      third (refused n) = stays
      third (gives z) = last (is_on (weight_d reading file) z) z (fits totals (is_on (weight_d reading file) z) (pulses_of register (last_reading station))) refl

      second : (t : Bool) →
          MeterTurned station totals register
          (cond t (metered station totals register (weight_d reading file) o.state o.answer) (kept station totals (odd_refusal reading file marks false)))
      second true = third o.answer
      second false = stays

      first : (n : ℕ) →
          MeterTurned station totals register
          (past n (kept station totals)
          (cond (is_station station && are_totals totals)
          (metered station totals register (weight_d reading file) o.state o.answer) (kept station totals (odd_refusal reading file marks false))))
      first zero = second (is_station station && are_totals totals)
      first (suc n) = stays

-- "A refused tick changes no total, last reading or state."
turned_stays : {station totals : List ℕ} {register n : ℕ} (a : MeterAnswer) → MeterTurned station totals register a → a.answer ≡ refused n →
    (a.station ≡ station) × (a.totals ≡ totals)
turned_stays _ stays e = (refl, refl)
turned_stays _ (moves on s f h) e = let z : ◌≡◌ {A = ℕ} 0 1 = cc in absurd (omega arith)

-- A tick that the second half refuses changes neither the station nor the totals.
pub refused_stays : (reading : ℕ) (file marks station totals : List ℕ) (register x y : ℕ) {n : ℕ} →
    let a = meter_output_of reading file marks station totals register x y in
    a.answer ≡ refused n → (a.station ≡ station) × (a.totals ≡ totals)
refused_stays reading file marks station totals register x y e = turned_stays _ (turned reading file marks station totals register x y) e

-- The reading of the register that never rolls over at the last accepted tick: it goes on where the tick is accepted.
abbrev pub reached : Answer ℕ → ℕ → ℕ → ℕ
reached (refused n) c k = c
reached (gives y) c k = k

-- "fewer than 65,536 pulses pass between accepted readings": from c to k, where the tick is accepted.
abbrev pub FewerOne : Answer ℕ → ℕ → ℕ → Type 0
FewerOne (refused n) c k = Unit {0}
FewerOne (gives y) c k = (c ≤ k) × (k < c + 65536)

-- The register follows after four clock values and the location.
after_four : (station cs : List ℕ) (r : ℕ) → length cs ≡ 4 → slice_index (cs ++ (r ∷ drop 6 station)) 4 ≡ r
after_four station cs r e = get_or_at cs r (drop 6 station) 0 4 e

-- The two totals together.
abbrev pub both : List ℕ → ℕ
both totals = billed totals + unbilled totals

risen_both : (totals : List ℕ) (on : Bool) (n : ℕ) → both (risen totals on n) ≡ both totals + n
unfolding risen
risen_both totals true n = omega arith
risen_both totals false n = omega arith

-- One tick: the last reading is the register's that was last accepted; the totals rise by the advance.
pub record OneTick (totals : List ℕ) (c k : ℕ) (a : MeterAnswer) : Type 0 where
  pub last : last_reading a.station ≡ reached a.answer c k % 65536
  pub whole : FewerOne a.answer c k → both a.totals + c ≡ both totals + reached a.answer c k
  pub round : (both a.totals + c) % 65536 ≡ (both totals + reached a.answer c k) % 65536

one_tick : (station totals : List ℕ) (c k : ℕ) (a : MeterAnswer) → MeterTurned station totals (k % 65536) a → last_reading station ≡ c % 65536 → OneTick totals c k a
one_tick station totals c k _ stays e = record { last = e; whole = λ _. refl; round = refl }
one_tick station totals c k _ (moves on s f h) e =
    let n = pulses_of (k % 65536) (last_reading station) in
    let b = risen_both totals on n in
    let r : (n + c) % 65536 ≡ k % 65536 = rw e (advance_round c k) in
    record {
      last = after_four station s.clocks (k % 65536) f;
      whole = λ q. let z : n + c ≡ k = rw e (advance c k q.0 q.1) in omega arith;
      round = omega arith;
    }

risen_more : (totals : List ℕ) (on : Bool) (n : ℕ) → (billed totals ≤ billed (risen totals on n)) × (unbilled totals ≤ unbilled (risen totals on n))
unfolding risen
risen_more totals true n = (omega arith, omega arith)
risen_more totals false n = (omega arith, omega arith)

no_fall : {station totals : List ℕ} {register : ℕ} (a : MeterAnswer) → MeterTurned station totals register a →
    (billed totals ≤ billed a.totals) × (unbilled totals ≤ unbilled a.totals)
no_fall _ stays = (omega arith, omega arith)
no_fall {station} {totals} {register} _ (moves on s f h) = risen_more totals on (pulses_of register (last_reading station))

-- What a station with a meter keeps.
pub record Meter : Type 0 where
  pub station : List ℕ
  pub totals : List ℕ

-- A tick, by its second half: `count` is the reading of a register that never rolls over, and the meter's register shows it modulo 65,536.
pub record Turn : Type 0 where
  pub count : ℕ
  pub x : ℕ
  pub y : ℕ

-- "The first reading is given when the totals are set up, both at 0": from there on, where c is the first count.
module _ (station totals : List ℕ) (granted : new_refusal station totals ≡ 0) (c : ℕ) where
  -- The meter that is set up.
  abbrev pub fresh : Meter
  fresh = record { station = new_station station totals (c % 65536); totals = new_totals station totals }

  good : (is_station station && are_totals totals) ≡ true
  unfolding new_refusal
  good = go (is_station station && are_totals totals) granted
    where
      go : (t : Bool) → unless t 14 ≡ 0 → t ≡ true
      go true e = refl
      go false e = absurd (omega arith)

  -- The last reading of a meter that is set up shows the first count.
  pub fresh_last : last_reading fresh.station ≡ c % 65536
  unfolding new_station
  fresh_last = rw good

  -- The totals of a meter that is set up are 0.
  pub fresh_both : both fresh.totals ≡ 0
  unfolding new_totals
  fresh_both = rw good

  -- The state of a station that is set up is the start.
  pub new_state : station_state (new_station station totals c) ≡ start_state
  unfolding new_station
  new_state = rw good

-- Modulo 65,536 one advance follows after another.
same_round : (x y u v : ℕ) → x + u * 65536 ≡ y + v * 65536 → x % 65536 ≡ y % 65536
same_round x y u v e = omega arith

round_on : (a b d c k l : ℕ) → (a + k) % 65536 ≡ (b + l) % 65536 → (b + c) % 65536 ≡ (d + k) % 65536 → (a + c) % 65536 ≡ (d + l) % 65536
round_on a b d c k l h g =
    same_round (a + c) (d + l) ((b + l) / 65536 + (d + k) / 65536) ((a + k) / 65536 + (b + c) / 65536) (omega arith)

module _ (reading : ℕ) (file marks : List ℕ) where
  -- What the second half answers to a tick.
  abbrev pub answered : Meter → Turn → MeterAnswer
  answered m t = meter_output_of reading file marks m.station m.totals (t.count % 65536) t.x t.y

  -- The meter after a tick.
  abbrev pub after : Meter → Turn → Meter
  after m t = record { station = (answered m t).station; totals = (answered m t).totals }

  -- What is kept after a sequence of ticks, and the count that was last accepted, from c on.
  unfoldable pub meter_of : Meter → List Turn → Meter
  meter_of m [] = m
  meter_of m (t ∷ ts) = meter_of (after m t) ts

  -- The count at the last accepted tick; c, if none is accepted.
  unfoldable pub last_accepted : Meter → ℕ → List Turn → ℕ
  last_accepted m c [] = c
  last_accepted m c (t ∷ ts) = last_accepted (after m t) (reached (answered m t).answer c t.count) ts

  -- "provided fewer than 65,536 pulses pass between accepted readings"
  unfoldable pub Fewer : Meter → ℕ → List Turn → Type 0
  Fewer m c [] = Unit {0}
  Fewer m c (t ∷ ts) = FewerOne (answered m t).answer c t.count × Fewer (after m t) (reached (answered m t).answer c t.count) ts

  one : (m : Meter) (c : ℕ) (t : Turn) → last_reading m.station ≡ c % 65536 → OneTick m.totals c t.count (answered m t)
  one m c t e =
      one_tick m.station m.totals c t.count (answered m t)
      (turned reading file marks m.station m.totals (t.count % 65536) t.x t.y) e

  -- From a last reading that the count c shows as, the totals together rise by the advance from c to the last accepted count.
  pub sums :
      (m : Meter) (c : ℕ) (ts : List Turn) → last_reading m.station ≡ c % 65536 → Fewer m c ts →
      both (meter_of m ts).totals + c ≡ both m.totals + last_accepted m c ts
  unfolding meter_of last_accepted Fewer
  sums m c [] e f = refl
  sums m c (t ∷ ts) e f =
      let o = one m c t e in
      let k = reached (answered m t).answer c t.count in
      let h : both (meter_of (after m t) ts).totals + k ≡ both (answered m t).totals + last_accepted (after m t) k ts = sums (after m t) k ts o.last f.1 in
      let w = o.whole f.0 in
      omega arith

  -- Without the proviso they do so modulo 65,536.
  pub sums_round :
      (m : Meter) (c : ℕ) (ts : List Turn) → last_reading m.station ≡ c % 65536 →
      (both (meter_of m ts).totals + c) % 65536 ≡ (both m.totals + last_accepted m c ts) % 65536
  unfolding meter_of last_accepted
  sums_round m c [] e = refl
  sums_round m c (t ∷ ts) e =
      let o = one m c t e in
      let k = reached (answered m t).answer c t.count in
      let h : (both (meter_of (after m t) ts).totals + k) % 65536 ≡ (both (answered m t).totals + last_accepted (after m t) k ts) % 65536 =
      sums_round (after m t) k ts o.last
      in
      round_on (both (meter_of (after m t) ts).totals) (both (answered m t).totals) (both m.totals) c k (last_accepted (after m t) k ts) h o.round

  -- The last reading is the one that the last accepted count shows as.
  pub last_shown :
      (m : Meter) (c : ℕ) (ts : List Turn) → last_reading m.station ≡ c % 65536 → last_reading (meter_of m ts).station ≡ last_accepted m c ts % 65536
  unfolding meter_of last_accepted
  last_shown m c [] e = e
  last_shown m c (t ∷ ts) e = last_shown (after m t) (reached (answered m t).answer c t.count) ts (one m c t e).last

  -- No total ever falls, wherever it starts.
  pub never_falls :
      (m : Meter) (ts : List Turn) → (billed m.totals ≤ billed (meter_of m ts).totals) × (unbilled m.totals ≤ unbilled (meter_of m ts).totals)
  unfolding meter_of
  never_falls m [] = (omega arith, omega arith)
  never_falls m (t ∷ ts) =
      let o = no_fall (answered m t) (turned reading file marks m.station m.totals (t.count % 65536) t.x t.y) in
      let h = never_falls (after m t) ts in
      (omega (arith, o.0, h.0), omega (arith, o.1, h.1))

  -- So it is from a station that is set up with the count c.
  module _ (station totals : List ℕ) (granted : new_refusal station totals ≡ 0) (c : ℕ) where
    -- With the proviso the totals together are the advance from the first count to the last accepted one.
    pub totals_are_the_advance :
        (ts : List Turn) →
        let m = fresh station totals granted c in Fewer m c ts → both (meter_of m ts).totals ≡ last_accepted m c ts - c
    totals_are_the_advance ts f =
        let h = sums (fresh station totals granted c) c ts (fresh_last station totals granted c) f in
        let z = fresh_both station totals granted c in
        omega arith

    -- Without the proviso they are that advance modulo 65,536.
    pub totals_round :
        (ts : List Turn) →
        let m = fresh station totals granted c in (both (meter_of m ts).totals + c) % 65536 ≡ last_accepted m c ts % 65536
    totals_round ts =
        let h = sums_round (fresh station totals granted c) c ts (fresh_last station totals granted c) in
        let z = fresh_both station totals granted c in
        omega arith
