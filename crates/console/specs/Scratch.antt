-- What the slices lent to prepare and to the run hold makes no difference to what they answer.
use Rattle.std.specs.Prelude.{◌≡◌, Bool, true, cond, replicate}
use Rattle.std.proofs.Math.Path.{refl, sym}
use Rattle.std.proofs.Common.{ap, ◌∙◌, true≢false, arith, drop_of_length-le}
use Rattle.std.proofs.Math.Bool.{false}
use mathlib.Core.List.{List, [], ◌∷◌, ◌++◌, map, append-nil}
use Rattle.std.proofs.Math.Option.{Option, none, some}
use Prim.Native.Nat.{ℕ, zero, suc, ◌+◌, ◌-◌, ◌≤◌}
use Rattle.std.proofs.Math.ListN.{length, take, length-map}
use Rattle.std.proofs.lemmas.List.{length-replicate, replicate-append-replicate}
use Rattle.std.proofs.Math.Seq.{take_at}
use borrow.Author.Tests.{le-leb}
use Rattle.streams.specs.Answer.{◌or_else◌, unless}
use Rattle.streams.specs.Stream.{Stream}
use Rattle.policy.specs.Rules.{Policy, Place, start}
use Rattle.policy.specs.File.{policy_of}
use Rattle.policy.specs.Check.{all_pass}
use Rattle.stepping.specs.State.{place_in, state_of}
use Rattle.stepping.specs.Tick.{ReleasedTick, Progress, tick, ran}
use Rattle.stepping.specs.Ticks.{ran_on, ran_none}
use Rattle.enforcer.specs.Entries.{event_of, byte_of, run_from, event_good, marks_refusal, state_refusal, run_refusal, run_of}
use Rattle.stepping.specs.Code.{start_state}
use Rattle.prepare.specs.Entry.{prepare_of}
use Rattle.stepping.specs.declared.state.State.{State}

-- Of the marks that are lent, prepare's answer depends on their number alone.
pub prepare_alike : (reading : ℕ) (file marks others : List ℕ) → length marks ≡ length others → prepare_of reading file marks ≡ prepare_of reading file others
unfolding prepare_of marks_refusal
prepare_alike reading file marks others e = rw e

-- A run that does not stop releases an event for each one read.
ran_all : (p : Policy) (marks : List ℕ) (s : Place) (es : Stream) → (ran p marks s es).stuck ≡ false → length (ran p marks s es).released ≡ length es
unfolding ran
ran_all p marks s [] h = refl
ran_all p marks s (e ∷ es) h = go (λ t. ran_all p marks t.place es) (tick p marks s e) refl h
  where
    go :
        ((t : ReleasedTick) → (ran p marks t.place es).stuck ≡ false → length (ran p marks t.place es).released ≡ length es) →
        (o : Option ReleasedTick) → tick p marks s e ≡ o → (ran p marks s (e ∷ es)).stuck ≡ false → length (ran p marks s (e ∷ es)).released ≡ suc (length es)
    go more none k h = let r = ran_none p marks s e es k in absurd (true≢false (sym (ap (λ (r : Progress). r.stuck) r) ∙ h))
    go more (some t) k h =
        let r = ran_on p marks s e es t k in
        ap (λ (r : Progress). length r.released) r ∙ ap suc (more t (sym (ap (λ (r : Progress). r.stuck) r) ∙ h))

moving : (t : Bool) → ◌≡◌ {A = ℕ} (cond t 17 0) 0 → t ≡ false
moving true e = absurd (omega arith)
moving false e = refl

module _ (reading : ℕ) (file marks : List ℕ) (s : State) (events a b : List ℕ) where
  -- A run is refused by the same number with any two slices that have room for the events.
  pub run_alike : length events ≤ length a → length events ≤ length b →
      (run_of reading file marks s events a).refusal ≡ (run_of reading file marks s events b).refusal
  unfolding run_of run_refusal
  run_alike h k =
      rw (le-leb _ _ h, le-leb _ _ k)
      (go (marks_refusal reading file marks or_else state_refusal reading file marks s or_else unless (all_pass (event_good reading file) events) 15) _)
    where
      go : (n : ℕ) (r : Progress) → (run_from s a n r).refusal ≡ (run_from s b n r).refusal
      go (suc n) r = refl
      go zero r = refl

  -- The events released stand in front, and are the whole of a slice that is as long as the events.
  pub run_front : length events ≤ length a → length b ≡ length events → (run_of reading file marks s events a).refusal ≡ 0 →
      take (length events) (run_of reading file marks s events a).out ≡ (run_of reading file marks s events b).out
  unfolding run_of run_refusal
  run_front h e =
      let t = place_in (policy_of reading file) s in
      let r = ran (policy_of reading file) marks t (map event_of events) in
      rw (le-leb _ _ h, le-leb (length events) (length b) (omega arith))
      (go (marks_refusal reading file marks or_else state_refusal reading file marks s or_else unless (all_pass (event_good reading file) events) 15) r
      (λ k. length-map r.released byte_of ∙ ran_all (policy_of reading file) marks t (map event_of events) k ∙ length-map events event_of))
    where
      go : (n : ℕ) (r : Progress) → (r.stuck ≡ false → length (map byte_of r.released) ≡ length events) → (run_from s a n r).refusal ≡ 0 →
          take (length events) (run_from s a n r).out ≡ (run_from s b n r).out
      go (suc n) r f z = absurd (omega arith)
      go zero r f z =
          let bytes = map byte_of r.released in
          let k = f (moving r.stuck z) in
          let l : length b ≤ length r.released = omega (arith, length-map r.released byte_of) in
          take_at bytes _ _ k ∙ sym (ap (λ (rest : List ℕ). bytes ++ rest) (drop_of_length-le b l) ∙ append-nil bytes)

-- "The start state is location 0 with every clock 0", whatever the clocks are.
pub start_is : (p : Policy) → length p.ceilings ≤ 4 → state_of (start p) ≡ start_state
start_is p h =
    let n = length p.ceilings in
    let e : n + (4 - length (replicate {A = ℕ} n 0)) ≡ 4 = rw length-replicate (omega arith) in
    ap (λ (vs : List ℕ). record { location = 0; clocks = vs }) (replicate-append-replicate n (4 - length (replicate {A = ℕ} n 0)) 0 ∙ rw e)
