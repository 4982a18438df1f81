-- What a refusal leaves as it was, read off the word's low eight bits.
use Rattle.std.specs.Prelude.{◌≡◌, Bool, List, map, leb, length}
use Rattle.std.proofs.Math.Path.{refl}
use Rattle.std.proofs.Math.Bool.{true, false, cond}
use Prim.Native.Nat.{ℕ, zero, suc, ◌+◌, ◌*◌, ◌%◌, ◌^◌}
use Rattle.std.proofs.Common.{arith, eqb-true}
use Rattle.streams.specs.Answer.{Answer, refused, gives}
use Rattle.policy.specs.File.{policy_of}
use Rattle.stepping.specs.State.{place_in}
use Rattle.stepping.specs.Tick.{ReleasedTick, Progress, output_tick, ran}
use Rattle.enforcer.specs.Entries.{event_of, chosen, output_from, output_refusal, output_of, run_from, run_refusal, run_of}
use Rattle.groovepawn.specs.Words.{answer_word, ran_word, is_state, output_word, output_state, run_word, run_state, run_out}
use Rattle.stepping.specs.Five.{state_words, state_in, words_back}
use Rattle.bays.specs.Odd.{odd_refusal}

-- The refusal that a run that is not refused at once ends by.
ended : (t : Bool) (k : ℕ) → ((cond t 17 0 + k * 256) % 256 ≡ 0 → ⊥) → ((cond t 17 0 + k * 256) % 256 ≡ 17 → ⊥) → ⊥
ended true k h g = g (omega arith)
ended false k h g = h (omega arith)

module _ (reading : ℕ) (file marks state : List ℕ) where
  -- "the by-value half also hands back the state it was given": with a refusal the lent state stays.
  pub output_stays : (x y : ℕ) → (output_word reading file marks state x y % 256 ≡ 0 → ⊥) → output_state reading file marks state x y ≡ state
  unfolding output_word output_state output_of
  output_stays x y =
      let p = policy_of reading file in
      let s = state_in state in
      go (is_state state) refl (chosen (output_refusal reading file marks s x y) (output_tick p marks (place_in p s) x y))
    where
      go : (t : Bool) → is_state state ≡ t → (a : Answer ReleasedTick) →
          (cond t (answer_word (output_from (state_in state) a).answer) (odd_refusal reading file marks true) % 256 ≡ 0 → ⊥) →
          cond t (state_words (output_from (state_in state) a).state) state ≡ state
      go false e a h = refl
      go true e (refused n) h = words_back state (eqb-true _ _ e)
      go true e (gives r) h = absurd (h (omega arith))

  -- "count 0 and the state given, unless it is 17"; and nothing is written.
  pub run_stays : (events out : List ℕ) →
      (run_word reading file marks state events out % 256 ≡ 0 → ⊥) → (run_word reading file marks state events out % 256 ≡ 17 → ⊥) →
      (run_state reading file marks state events out ≡ state) × (run_out reading file marks state events out ≡ out)
  unfolding run_word run_state run_out run_of
  run_stays events out =
      let p = policy_of reading file in
      let s = state_in state in
      go (is_state state) refl (run_refusal reading file marks s events out) (ran p marks (place_in p s) (map event_of events))
    where
      go : (t : Bool) → is_state state ≡ t → (n : ℕ) (r : Progress) →
          let a = run_from (state_in state) out n r in
          (cond t (ran_word a) (odd_refusal reading file marks (leb (length events) (length out))) % 256 ≡ 0 → ⊥) →
          (cond t (ran_word a) (odd_refusal reading file marks (leb (length events) (length out))) % 256 ≡ 17 → ⊥) →
          (cond t (state_words a.state) state ≡ state) × (cond t a.out out ≡ out)
      go false e n r h g = (refl, refl)
      go true e (suc n) r h g = (words_back state (eqb-true _ _ e), refl)
      go true e zero r h g = absurd (ended r.stuck (length r.released % 2 ^ 56) h g)
