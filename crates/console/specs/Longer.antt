-- Of an input longer than the longest the first 2 + 5,974 + 2 + 16,384 + 1 bytes decide: it is enough to read those.
use Rattle.std.specs.Prelude.{◌≡◌, Bool, List, ◌++◌, length}
use Rattle.std.proofs.Math.Path.{refl}
use Rattle.std.proofs.Common.{sym, ◌∙◌, arith}
use Rattle.std.proofs.Math.Bool.{true, false}
use Prim.Native.Nat.{ℕ, zero, suc, ◌+◌, ◌≤◌}
use Rattle.std.proofs.Math.Dec.{leb}
use Rattle.std.proofs.Math.ListN.{length-append}
use borrow.Author.Tests.{leb-true, le-leb, lt-leb}
use Rattle.streams.specs.Answer.{Answer, refused, gives, answer, ◌or_else◌, unless}
use Rattle.streams.specs.AnswerLaws.{none_refused}
use Rattle.policy.specs.File.{pair_at}
use Rattle.policy.specs.Check.{reading_refusal}
use Rattle.prepare.specs.Entry.{prepare_of}
use Rattle.prepare.specs.declared.Summary.{Summary}
use Rattle.frames.specs.Frame.{count_refusal, policy_frame_refusal, policy_end, policy_part, events_frame_refusal, events_end, input_refusal}
use Rattle.frames.specs.Framed.{count_fits, events_fit}
use Rattle.frames.specs.FileFront.{pair_front, part_front}
use Rattle.console.specs.Outcome.{lent, ◌and_then◌, events_refusal, outcome}
use Rattle.console.specs.OutcomeLaws.{events_refused, outcome_gives}
use Rattle.console.specs.Printed.{printed}
use Rattle.printing.specs.Text.{line_or}

module _ (front rest : List ℕ) where
  -- A count whose bytes cannot end behind the front.
  count_front : (at most : ℕ) → at + 2 + most ≤ length front → count_refusal (front ++ rest) at most ≡ count_refusal front at most
  unfolding count_refusal
  count_front at most h =
      let n = length-append front rest in
      rw (pair_front front rest at (omega arith), le-leb (at + 2) (length (front ++ rest)) (omega arith), le-leb (at + 2) (length front) (omega arith))
      (go (leb (pair_at front at) most) refl)
    where
      go : (t : Bool) → leb (pair_at front at) most ≡ t →
          (unless (leb (pair_at front at) most) 2 or_else unless (leb (at + 2 + pair_at front at) (length (front ++ rest))) 1)
          ≡ (unless (leb (pair_at front at) most) 2 or_else unless (leb (at + 2 + pair_at front at) (length front)) 1)
      go false e = rw e
      go true e =
          let l = leb-true (pair_at front at) most e in
          let n = length-append front rest in
          rw (e, le-leb (at + 2 + pair_at front at) (length (front ++ rest)) (omega arith), le-leb (at + 2 + pair_at front at) (length front) (omega arith))

  module _ (long : 22363 ≤ length front) where
    -- Where the policy is framed, the events' frame is refused, and for both by the same number.
    module _ (framed : policy_frame_refusal front ≡ 0) where
      short : pair_at front 0 ≤ 5974
      short = (count_fits front 0 5974 framed).0

      left_over : events_frame_refusal front ≡ 0 → ⊥
      left_over e = let f = events_fit front e in omega (arith, short)

      events_same : events_frame_refusal (front ++ rest) ≡ events_frame_refusal front
      events_same =
          rw (pair_front front rest 0 (omega arith), pair_front front rest (policy_end front) (omega (arith, short)), count_front (policy_end front) 16384 (omega (arith, short)))
          (go (count_refusal front (policy_end front) 16384) refl)
        where
          go : (c : ℕ) → count_refusal front (policy_end front) 16384 ≡ c →
              (c or_else unless (leb (length (front ++ rest)) (events_end front)) 8) ≡ (c or_else unless (leb (length front) (events_end front)) 8)
          go (suc c) e = refl
          go zero e =
              let f = count_fits front (policy_end front) 16384 e in
              let n = length-append front rest in
              rw (lt-leb (length (front ++ rest)) (events_end front) (omega (arith, short)), lt-leb (length front) (events_end front) (omega (arith, short)))

      refusal_same : (reading : ℕ) → events_refusal reading (front ++ rest) ≡ events_refusal reading front
      refusal_same reading =
          sym (events_refused reading (front ++ rest) (sym events_same) left_over) ∙ events_refused reading front refl left_over

    -- The checks come to the same for the whole input and for a front of at least 22,363 bytes.
    pub outcome_front : (reading : ℕ) → outcome reading (front ++ rest) ≡ outcome reading front
    unfolding outcome
    outcome_front reading = rw (count_front 0 5974 (omega arith)) (go (input_refusal front reading) refl)
      where
        go : (n : ℕ) → input_refusal front reading ≡ n →
            (answer n (policy_part (front ++ rest)) and_then (λ policy. prepare_of reading policy (lent 65536)) and_then answer (events_refusal reading (front ++ rest)))
            ≡ (answer n (policy_part front) and_then (λ policy. prepare_of reading policy (lent 65536)) and_then answer (events_refusal reading front))
        go (suc n) e = refl
        go zero e =
            let framed = ((none_refused (reading_refusal reading) _).0 e).1 in
            rw (pair_front front rest 0 (omega arith), part_front front rest 2 (pair_at front 0) (omega (arith, short framed)), refusal_same framed reading)

    -- So nothing but the line of a refusal is told of it.
    pub line_front : (reading : ℕ) (whole part : Summary → List ℕ) → line_or (outcome reading (front ++ rest)) whole ≡ line_or (outcome reading front) part
    line_front reading whole part = rw (outcome_front reading) (go (outcome reading front) refl)
      where
        go : (o : Answer Summary) → outcome reading front ≡ o → line_or o whole ≡ line_or o part
        go (refused n) e = refl
        go (gives s) e = let p = outcome_gives reading front e in absurd (left_over p.policy p.events)

    -- `enforce` prints the same for both.
    pub printed_front : printed (front ++ rest) ≡ printed front
    unfolding printed
    printed_front = line_front 1 _ _
