-- The incident: on a long transfer a sixteen-bit clock wrapped, and a stale credit pulse passed as fresh. Sample K is that rule, "credit K only while
-- the clock is at most 2", and after however many quiet ticks no stale pulse passes, under either reading.
use Rattle.std.specs.Prelude.{◌≡◌, true, false, replicate}
use Rattle.std.proofs.Math.Path.{refl, ap}
use Rattle.std.proofs.Common.{ap₂, ◌∙◌, arith, length-append}
use mathlib.Core.List.{List, [], ◌∷◌, ◌++◌, map}
use Prim.Native.Nat.{ℕ, zero, suc, ◌+◌, ◌≤◌}
use Rattle.std.proofs.Math.ListN.{length, drop, length-map}
use Rattle.std.proofs.lemmas.List.{length-replicate}
use Rattle.streams.specs.Stream.{Stream}
use Rattle.policy.specs.Rules.{Place, start}
use Rattle.policy.specs.Number.{states, states_of}
use Rattle.policy.specs.File.{policy_of}
use Rattle.policy.specs.Check.{reading_refusal, refusal_under, refusal_of, all_pass}
use Rattle.policy.specs.CheckLaws.{under_none}
use Rattle.policy.specs.Checked.{well_sound}
use Rattle.policy.specs.Stays.{start_inside}
use Rattle.stepping.specs.State.{state_of}
use Rattle.stepping.specs.Tick.{Progress, ran}
use Rattle.enforcer.specs.Entries.{event_of, byte_of, event_good}
use Rattle.trimming.specs.Table.{marks_of}
use Rattle.prepare.specs.Entry.{prepared_marks}
use Rattle.prepare.specs.PromiseLaws.{marks_past}
use Rattle.prepare.specs.Enforcing.{MarkedPlace}
use Rattle.tender.specs.Samples.{K}
use Rattle.enforcer.specs.States.{marks_granted}
use Rattle.tender.specs.Granted.{each_reading, well_formed, prepared_granted, run_ready}
use Rattle.tender.specs.Demand2.{from_start}
use Rattle.prepare.specs.Computing.{the_file, the_check, a_step, the_marks, the_run}

-- n quiet ticks, and then the event b.
abbrev pub quiet_then : ℕ → ℕ → List ℕ
quiet_then n b = replicate n 0x00 ++ (b ∷ [])

K-passes : refusal_of K ≡ 0
unfolding the_file the_check
K-passes = refl

-- K's one location, with the clock at v.
abbrev pub clock_at : ℕ → Place
clock_at v = record { location = 0; clocks = v ∷ [] }

-- K's marks, and `rest` after them. The clock's values are 0 to its ceiling 3, so there are four states, and all of them are live.
abbrev live : List ℕ → List ℕ
live rest = 1 ∷ 1 ∷ 1 ∷ 1 ∷ rest

-- K's run from there. Whoever unfolds it unfolds all that a tick of K goes through.
run_at : ℕ → List ℕ → ℕ → Stream → Progress
unfolding the_file a_step the_marks the_run states_of
run_at reading rest v = ran (policy_of reading K) (live rest) (clock_at v)

-- One quiet event more, before the others.
abbrev quietly : Progress → Progress
quietly r = record { released = event_of 0x00 ∷ r.released; place = r.place; stuck = r.stuck }

-- What is released of n quiet ticks and then a pulse: the quiet events, then the event b, and after it the clock is at v.
abbrev released : ℕ → ℕ → ℕ → Progress
released n b v = record { released = map event_of (quiet_then n b); place = clock_at v; stuck = false }

module _ (rest : List ℕ) where
  -- At its ceiling the clock stands still through every quiet tick, and the pulse does not pass.
  at_ceiling : (n : ℕ) →
      (run_at 1 rest 3 (map event_of (quiet_then n 0x10)) ≡ released n 0x00 3) × (run_at 2 rest 3 (map event_of (quiet_then n 0x10)) ≡ released n 0x00 3)
  unfolding run_at
  at_ceiling zero = (refl, refl)
  at_ceiling (suc n) = let h = at_ceiling n in (ap quietly h.0, ap quietly h.1)

  abbrev Stale : ℕ → Type 0
  Stale reading = (n : ℕ) → 4 ≤ n + reading → run_at reading rest 0 (map event_of (quiet_then n 0x10)) ≡ released n 0x00 3

  -- Three ticks from the start it is there, and reading 2 looks one tick ahead.
  stale : (reading : ℕ) → reading_refusal reading ≡ 0 → Stale reading
  unfolding run_at
  stale = each_reading Stale first second
    where
      first : Stale 1
      first zero h = absurd (omega arith)
      first (suc zero) h = absurd (omega arith)
      first (suc (suc zero)) h = absurd (omega arith)
      first (suc (suc (suc n))) h = ap (λ r. quietly (quietly (quietly r))) (at_ceiling n).0

      second : Stale 2
      second zero h = absurd (omega arith)
      second (suc zero) h = absurd (omega arith)
      second (suc (suc zero)) h = refl
      second (suc (suc (suc n))) h = ap (λ r. quietly (quietly (quietly r))) (at_ceiling n).1

  abbrev Fresh : ℕ → Type 0
  Fresh reading = (n : ℕ) → n + reading ≤ 3 → run_at reading rest 0 (map event_of (quiet_then n 0x10)) ≡ released n 0x10 (n + 1)

  fresh : (reading : ℕ) → reading_refusal reading ≡ 0 → Fresh reading
  unfolding run_at
  fresh = each_reading Fresh first second
    where
      first : Fresh 1
      first zero h = refl
      first (suc zero) h = refl
      first (suc (suc zero)) h = refl
      first (suc (suc (suc n))) h = absurd (omega arith)

      second : Fresh 2
      second zero h = refl
      second (suc zero) h = refl
      second (suc (suc n)) h = absurd (omega arith)

bytes_back : (bytes : List ℕ) → map byte_of (map event_of bytes) ≡ bytes
bytes_back [] = refl
bytes_back (b ∷ bs) = ap₂ {C = List ℕ} ◌∷◌ (omega arith) (bytes_back bs)

module _ (reading : ℕ) (named : reading_refusal reading ≡ 0) where
  passed : refusal_under reading K ≡ 0
  passed = (under_none reading K).1 (named, K-passes)

  all_live : marks_of (policy_of reading K) ≡ live []
  unfolding run_at
  all_live = each_reading (λ r. marks_of (policy_of r K) ≡ live []) refl refl reading named

  pulse_good : (n : ℕ) → all_pass (event_good reading K) (quiet_then n 0x10) ≡ true
  unfolding all_pass run_at
  pulse_good zero = refl
  pulse_good (suc n) = pulse_good n

  module _ (marks : List ℕ) (room : 4 ≤ length marks) where
    long : states (policy_of reading K) ≤ length marks
    unfolding run_at
    long = room

    marked : prepared_marks reading K marks ≡ live (drop 4 marks)
    unfolding run_at
    marked = marks_past reading K marks ((marks_granted reading K marks).1 (passed, long)) ∙ ap (λ (l : List ℕ). l ++ drop 4 marks) all_live

    from-start :
        (n b v : ℕ) → run_at reading (drop 4 marks) 0 (map event_of (quiet_then n 0x10)) ≡ released n b v →
        (out : List ℕ) → n + 1 ≤ length out →
        from_start reading K marks (quiet_then n 0x10) out
        ≡ record { refusal = 0; count = n + 1; state = state_of (clock_at v); out = quiet_then n b ++ drop (n + 1) out }
    unfolding run_at
    from-start n b v e out l =
        let p = policy_of reading K in
        let M = prepared_marks reading K marks in
        let ready : MarkedPlace p M (start p) = record { inside = start_inside p (well_sound p (well_formed reading K passed)); marked = rw marked } in
        let many : (c : ℕ) → length (quiet_then n c) ≡ n + 1 = λ c. simp (length-append, length-replicate) in
        run_ready reading K M (prepared_granted reading K marks passed long) (start p) ready (quiet_then n 0x10) out (rw many l) (pulse_good n)
        ∙ rw (marked, e, bytes_back, length-map, many b)

-- From the start and with the marks of prepare, for which K's four states need four bytes. After n quiet ticks the clock that is looked at is n under
-- reading 1 and n + 1 under reading 2, stopped at its ceiling 3.
module _ (reading : ℕ) (named : reading_refusal reading ≡ 0) (n : ℕ) (marks out : List ℕ) (room : 4 ≤ length marks) (long : n + 1 ≤ length out) where
  -- Above 2 the pulse is stale: however many quiet ticks there were, 10 gives 00. The clock stands at its ceiling.
  pub stale_credit :
      4 ≤ n + reading →
      from_start reading K marks (quiet_then n 0x10) out
      ≡ record { refusal = 0; count = n + 1; state = state_of (clock_at 3); out = quiet_then n 0x00 ++ drop (n + 1) out }
  stale_credit h = from-start reading named marks room n 0x00 3 (stale (drop 4 marks) reading named n h) out long

  -- At most 2, it is fresh and passes.
  pub fresh_credit :
      n + reading ≤ 3 →
      from_start reading K marks (quiet_then n 0x10) out
      ≡ record { refusal = 0; count = n + 1; state = state_of (clock_at (n + 1)); out = quiet_then n 0x10 ++ drop (n + 1) out }
  fresh_credit h = from-start reading named marks room n 0x10 (n + 1) (fresh (drop 4 marks) reading named n h) out long

-- "K after 65,537 quiet ticks: 10 gives 00", under both readings.
pub after_65537 :
    (reading : ℕ) → reading_refusal reading ≡ 0 → (marks out : List ℕ) → 4 ≤ length marks → 65538 ≤ length out →
    from_start reading K marks (quiet_then 65537 0x10) out
    ≡ record { refusal = 0; count = 65538; state = state_of (clock_at 3); out = quiet_then 65537 0x00 ++ drop 65538 out }
after_65537 reading named marks out room long = stale_credit reading named 65537 marks out room long (omega arith)
