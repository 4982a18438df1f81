-- The incident, end to end: a long transfer over a rollover of the register, quiet for 65,537 ticks, and then a stale credit pulse. The stream is demand
-- 2's, the pulse does not pass, and the bill is exactly the advance of the register: never negative.
use Rattle.std.specs.Prelude.{◌≡◌, refl, true, ◌&&◌, ℕ, zero, suc, ◌+◌, ◌%◌, ◌≤◌, ◌<◌, length, drop, replicate}
use Rattle.std.proofs.Common.{sym, ap₂, ◌∙◌}
use Rattle.std.proofs.Math.Path.{subst}
use mathlib.Core.List.{List, [], ◌∷◌, ◌++◌}
use native.Mathlib.Omega.{arith}
use Rattle.streams.specs.Answer.{gives}
use Rattle.streams.specs.AnswerLaws.{none_unless}
use Rattle.streams.specs.Stream.{Stream}
use Rattle.policy.specs.File.{policy_of}
use Rattle.policy.specs.Check.{reading_refusal}
use Rattle.policy.specs.CheckLaws.{under_none}
use Rattle.enforcer.specs.States.{marks_granted}
use Rattle.prepare.specs.Entry.{prepare_of}
use Rattle.prepare.specs.Promise.{PreparePromise}
use Rattle.prepare.specs.PromiseLaws.{marks_past}
use Rattle.prepare.specs.declared.Summary.{Summary}
use Rattle.meter.specs.Meter.{is_station, are_totals, station_state}
use Rattle.meter.specs.Entries.{new_refusal, new_station, new_totals}
use Rattle.meter.specs.Promises.{MeterNewPromise}
use Rattle.tender.specs.Granted.{given_passed, given_long}
use Rattle.tender.specs.TickByTick.{TicksReleased}
use Rattle.tender.specs.Bays.{}
use Rattle.tender.specs.Metered.{Read, MeterTicks, meter_none, meter_release}
use Rattle.tender.specs.Transfer.{Transfer, all_live, event, four, live, quiet_0, quiet_1, quiet_2, quiet_3, quiet_tick, stale, stands, transfer_tick}

-- The pulses of all ticks together.
unfoldable pub sum : List ℕ → ℕ
sum [] = 0
sum (d ∷ ds) = d + sum ds

-- The pulses of a transfer, tick after tick: some in each, and fewer than 65,536.
unfoldable pub Flows : List ℕ → Type 0
Flows [] = Unit {0}
Flows (d ∷ ds) = (0 < d) × (d < 65536) × Flows ds

-- What is read of it, from the count c on: the register, no input wired, and the controller asks for D.
unfoldable pub transfer_reads : ℕ → List ℕ → List Read
transfer_reads c [] = []
transfer_reads c (d ∷ ds) = record { register = (c + d) % 65536; x = 0; y = 1 } ∷ transfer_reads (c + d) ds

-- A quiet tick: the register stays at the count c, and the controller asks for nothing.
abbrev pub quiet : ℕ → Read
quiet c = record { register = c % 65536; x = 0; y = 0 }

-- A tick without pulses in which the controller asks for K.
abbrev pub credit : ℕ → Read
credit c = record { register = c % 65536; x = 0; y = 2 }

module _ (reading : ℕ) (named : reading_refusal reading ≡ 0) (rest past more : List ℕ) where
  flows : (c b u : ℕ) (ds : List ℕ) → Flows ds → b + sum ds ≤ 4294967295 → {ts : List Read} {es rs : Stream} {last ends : List ℕ} →
      MeterTicks reading Transfer (live rest) (stands past 0 ((c + sum ds) % 65536)) ((b + sum ds) ∷ u ∷ more) ts es rs last ends →
      MeterTicks reading Transfer (live rest) (stands past 0 (c % 65536)) (b ∷ u ∷ more) (transfer_reads c ds ++ ts)
      (replicate (length ds) (event 1 1) ++ es) (replicate (length ds) (event 1 1) ++ rs) last ends
  unfolding sum Flows transfer_reads
  flows c b u [] f l {ts} {es} {rs} {last} {ends} h =
      let k : c + 0 ≡ c = omega arith in
      let m : b + 0 ≡ b = omega arith in
      subst (λ (n : ℕ). MeterTicks reading Transfer (live rest) (stands past 0 (n % 65536)) (b ∷ u ∷ more) ts es rs last ends) k
      (subst (λ (n : ℕ). MeterTicks reading Transfer (live rest) (stands past 0 ((c + 0) % 65536)) (n ∷ u ∷ more) ts es rs last ends) m h)
  flows c b u (d ∷ ds) f l {ts} {es} {rs} {last} {ends} h =
      let k : c + (d + sum ds) ≡ c + d + sum ds = omega arith in
      let m : b + (d + sum ds) ≡ b + d + sum ds = omega arith in
      transfer_tick reading named rest past more c d b u f.0 f.1 (omega arith)
      (flows (c + d) (b + d) u ds f.2 (omega arith)
      (subst (λ (n : ℕ). MeterTicks reading Transfer (live rest) (stands past 0 (n % 65536)) ((b + d + sum ds) ∷ u ∷ more) ts es rs last ends) k
      (subst (λ (n : ℕ). MeterTicks reading Transfer (live rest) (stands past 0 ((c + (d + sum ds)) % 65536)) (n ∷ u ∷ more) ts es rs last ends) m h)))

  rests : (n c b u : ℕ) → u ≤ 4294967295 → {ts : List Read} {es rs : Stream} {last ends : List ℕ} →
      MeterTicks reading Transfer (live rest) (stands past 3 (c % 65536)) (b ∷ u ∷ more) ts es rs last ends →
      MeterTicks reading Transfer (live rest) (stands past 3 (c % 65536)) (b ∷ u ∷ more) (replicate n (quiet c) ++ ts)
      (replicate n (event 0 0) ++ es) (replicate n (event 0 0) ++ rs) last ends
  rests zero c b u l h = h
  rests (suc n) c b u l h = quiet_tick reading named rest past more (quiet_3 reading named) c b u l (rests n c b u l h)

  -- From the start, with the count c at first: the transfer, three quiet ticks or more, and the stale credit, which does not pass. All pulses are billed.
  told : (c : ℕ) (ds : List ℕ) → Flows ds → sum ds ≤ 4294967295 → (n : ℕ) → 3 ≤ n →
      MeterTicks reading Transfer (live rest) (stands past 0 (c % 65536)) (0 ∷ 0 ∷ more) (transfer_reads c ds ++ (replicate n (quiet (c + sum ds)) ++ (credit (c + sum ds) ∷ [])))
      (replicate (length ds) (event 1 1) ++ (replicate n (event 0 0) ++ (event 0 2 ∷ [])))
      (replicate (length ds) (event 1 1) ++ (replicate n (event 0 0) ++ (event 0 0 ∷ [])))
      (stands past 3 ((c + sum ds) % 65536)) (sum ds ∷ 0 ∷ more)
  told c ds f l zero k = absurd (omega arith)
  told c ds f l (suc zero) k = absurd (omega arith)
  told c ds f l (suc (suc zero)) k = absurd (omega arith)
  told c ds f l (suc (suc (suc n))) k =
      let e = c + sum ds in
      let z : sum ds ≡ 0 + sum ds = omega arith in
      let u : 0 ≤ 4294967295 = omega arith in
      let b = sum ds in
      flows c 0 0 ds f (omega arith)
      (subst (λ (m : ℕ). MeterTicks reading Transfer (live rest) (stands past 0 (e % 65536)) (m ∷ 0 ∷ more) (replicate (suc (suc (suc n))) (quiet e) ++ (credit e ∷ []))
      (replicate (suc (suc (suc n))) (event 0 0) ++ (event 0 2 ∷ [])) (replicate (suc (suc (suc n))) (event 0 0) ++ (event 0 0 ∷ []))
      (stands past 3 (e % 65536)) (b ∷ 0 ∷ more)) z
      (quiet_tick reading named rest past more (quiet_0 reading named) e b 0 u
      (quiet_tick reading named rest past more (quiet_1 reading named) e b 0 u
      (quiet_tick reading named rest past more (quiet_2 reading named) e b 0 u
      (rests n e b 0 u (quiet_tick reading named rest past more (stale reading named) e b 0 u meter_none))))))

-- The whole story, over the promises of the code: after prepare's code gave a summary, from a station that meter_new's code set up with the count c at
-- first, whatever the transfer is that has no more than 4,294,967,295 pulses. The ticks are those that the code's halves answer, the stream is demand 2's,
-- the stale credit is not in it, and the bill is the advance of the register, whether it rolled over or not.
pub record Story (reading : ℕ) (marks fresh zeros : List ℕ) (c : ℕ) (ds : List ℕ) (n : ℕ) : Type 0 where
  pub last : List ℕ
  pub ticks : MeterTicks reading Transfer marks fresh zeros (transfer_reads c ds ++ (replicate n (quiet (c + sum ds)) ++ (credit (c + sum ds) ∷ [])))
      (replicate (length ds) (event 1 1) ++ (replicate n (event 0 0) ++ (event 0 2 ∷ [])))
      (replicate (length ds) (event 1 1) ++ (replicate n (event 0 0) ++ (event 0 0 ∷ [])))
      last (sum ds ∷ 0 ∷ drop 2 zeros)
  pub enforced :
      TicksReleased (policy_of reading Transfer) (replicate (length ds) (event 1 1) ++ (replicate n (event 0 0) ++ (event 0 2 ∷ [])))
      (replicate (length ds) (event 1 1) ++ (replicate n (event 0 0) ++ (event 0 0 ∷ []))) (station_state last)

module _ {reading : ℕ} {lent marks : List ℕ} {s : Summary} (h : PreparePromise reading Transfer lent (gives s) marks)
    {before totals fresh zeros : List ℕ} (c : ℕ) (new : MeterNewPromise before totals (c % 65536) 0 fresh zeros) where
  summed : prepare_of reading Transfer lent ≡ gives s
  summed = sym h.said

  named : reading_refusal reading ≡ 0
  named = ((under_none reading Transfer).0 (given_passed reading Transfer lent s summed)).0

  marked : marks ≡ live (drop 4 lent)
  marked =
      let ok = given_passed reading Transfer lent s summed in
      let long = given_long reading Transfer lent s summed in
      h.marks ∙ marks_past reading Transfer lent ((marks_granted reading Transfer lent).1 (ok, long))
      ∙ ap₂ (λ (l : List ℕ) (n : ℕ). l ++ drop n lent) (all_live reading named) (four reading named)

  set_up : (is_station before && are_totals totals) ≡ true
  unfolding new_refusal
  set_up = (none_unless _ 13).0 (sym new.said)

  placed : fresh ≡ stands (drop 6 before) 0 (c % 65536)
  unfolding new_station
  placed = new.placed ∙ rw set_up

  cleared : zeros ≡ 0 ∷ 0 ∷ drop 2 totals
  unfolding new_totals
  cleared = new.cleared ∙ rw set_up

  -- The story holds of every such transfer, with three quiet ticks or more after it.
  pub story : (ds : List ℕ) → Flows ds → sum ds ≤ 4294967295 → (n : ℕ) → 3 ≤ n → Story reading marks fresh zeros c ds n
  story ds f l n k =
      let reads = transfer_reads c ds ++ (replicate n (quiet (c + sum ds)) ++ (credit (c + sum ds) ∷ [])) in
      let es = replicate (length ds) (event 1 1) ++ (replicate n (event 0 0) ++ (event 0 2 ∷ [])) in
      let rs = replicate (length ds) (event 1 1) ++ (replicate n (event 0 0) ++ (event 0 0 ∷ [])) in
      let last = stands (drop 6 before) 3 ((c + sum ds) % 65536) in
      let t : MeterTicks reading Transfer marks fresh zeros reads es rs last (sum ds ∷ 0 ∷ drop 2 zeros) =
      subst (λ (m : List ℕ). MeterTicks reading Transfer m fresh zeros reads es rs last (sum ds ∷ 0 ∷ drop 2 zeros)) (sym marked)
      (subst (λ (z : List ℕ). MeterTicks reading Transfer (live (drop 4 lent)) fresh z reads es rs last (sum ds ∷ 0 ∷ drop 2 z)) (sym cleared)
      (subst (λ (z : List ℕ). MeterTicks reading Transfer (live (drop 4 lent)) z (0 ∷ 0 ∷ drop 2 totals) reads es rs last (sum ds ∷ 0 ∷ drop 2 totals)) (sym placed)
      (told reading named (drop 4 lent) (drop 6 before) (drop 2 totals) c ds f l n k)))
      in
      record { last = last; ticks = t; enforced = meter_release h new t }

  -- Quiet for 65,537 ticks.
  pub quiet_for_65537 : (ds : List ℕ) → Flows ds → sum ds ≤ 4294967295 → Story reading marks fresh zeros c ds 65537
  quiet_for_65537 ds f l = story ds f l 65537 (omega arith)

-- Ticks with as many pulses each, some and fewer than 65,536, are a transfer.
same_flow : (n d : ℕ) → 0 < d → d < 65536 → Flows (replicate n d)
unfolding Flows
same_flow zero d p l = tt
same_flow (suc n) d p l = (p, l, same_flow n d p l)

-- A long transfer: a hundred ticks of 1,000 pulses each, 100,000 together. From 65,000 on the register rolls over twice in it.
pub a_long_transfer : Flows (replicate 100 1000) × (sum (replicate 100 1000) ≡ 100000)
unfolding sum
a_long_transfer = (same_flow 100 1000 (omega arith) (omega arith), refl)
