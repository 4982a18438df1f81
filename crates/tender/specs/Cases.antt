-- The twelve marked cases of 01, then those of 02: "when x is 0 and only 1 and 2 may stand, the answer is 2" and its like for outputs; "S with a second
-- location that no rule enters and that has no rules becomes 0", where "Sample T stays verdict 1"; "Under reading 2, D turns 01 00 00 00 00 into
-- 01 00 00 10 00", and refusal 22. One list, one statement, by computation.
use Rattle.std.specs.Prelude.{◌≡◌, refl, List, [], ◌∷◌, map, ℕ, zero, suc, length, replicate}
use Rattle.streams.specs.Answer.{Answer, refused, gives}
use Rattle.policy.specs.Rules.{start}
use Rattle.policy.specs.Number.{states}
use Rattle.policy.specs.File.{policy_of}
use Rattle.stepping.specs.State.{state_of}
use Rattle.enforcer.specs.Entries.{RunAnswer, run_of}
use Rattle.prepare.specs.Entry.{prepare_of, prepared_marks}
use Rattle.prepare.specs.declared.Summary.{Summary}
use Rattle.tender.specs.Samples.{S, D, T, K, N, OneInput, OneOutput, Unentered}
use Rattle.prepare.specs.Computing.{the_file, the_check, a_step, the_marks, the_run}

-- What is asked of a policy: to be prepared, or to enforce a stream "from the start" with the marks of prepare.
pub data Request : Type 0 where
  prepared : Request
  enforced : List ℕ → Request

-- What is said to it.
pub data Said : Type 0 where
  summary : (verdict states live : ℕ) → Said
  released : List ℕ → Said
  refusal : ℕ → List ℕ → Said

-- A policy under a reading, what is asked of it, and what is to be said.
pub record Case : Type 0 where
  pub reading : ℕ
  pub file : List ℕ
  pub asked : Request
  pub expected : Said

-- The slices lent are as long as needed, and hold what nobody would write.
abbrev pub lent : ℕ → List ℕ
lent n = replicate n 99

-- The marks that prepare writes for the policy.
abbrev pub marks : ℕ → List ℕ → List ℕ
marks reading file = prepared_marks reading file (lent (states (policy_of reading file)))

-- What prepare says: its summary, or its refusal and what the marks hold then.
abbrev pub said_of_prepare : List ℕ → Answer Summary → Said
said_of_prepare marks (refused n) = refusal n marks
said_of_prepare marks (gives s) = summary s.verdict s.states s.live

-- What a run says: the released events, or its refusal and what the slice holds then.
abbrev pub said_of_run : ℕ → List ℕ → Said
said_of_run zero out = released out
said_of_run (suc n) out = refusal (suc n) out

-- A run from the start with the marks of prepare, into a slice as long as the events.
abbrev pub run : ℕ → List ℕ → List ℕ → RunAnswer
run reading file events = run_of reading file (marks reading file) (state_of (start (policy_of reading file))) events (lent (length events))

-- What is said to a request.
abbrev pub said : ℕ → List ℕ → Request → Said
said reading file prepared = said_of_prepare (marks reading file) (prepare_of reading file (lent (states (policy_of reading file))))
said reading file (enforced events) = said_of_run (run reading file events).refusal (run reading file events).out

-- The marked cases of 01 in their order, then those of 02.
unfoldable pub cases : List Case
cases =
    record { reading = 1; file = S; asked = enforced (0x03 ∷ []); expected = released (0x01 ∷ []) }
    ∷ record { reading = 1; file = S; asked = enforced (0x12 ∷ []); expected = released (0x02 ∷ []) }
    ∷ record { reading = 1; file = S; asked = enforced (0x13 ∷ []); expected = released (0x11 ∷ []) }
    ∷ record { reading = 1; file = S; asked = enforced (0x11 ∷ []); expected = released (0x11 ∷ []) }
    ∷ record { reading = 1; file = S; asked = prepared; expected = summary 0 1 1 }
    ∷ record { reading = 1; file = D; asked = prepared; expected = summary 0 8 8 }
    ∷ record {
      reading = 1;
      file = D;
      asked = enforced (0x01 ∷ 0x00 ∷ 0x00 ∷ 0x00 ∷ 0x00 ∷ []);
      expected = released (0x01 ∷ 0x00 ∷ 0x00 ∷ 0x00 ∷ 0x10 ∷ []);
    }
    ∷ record { reading = 1; file = T; asked = prepared; expected = summary 1 2 1 }
    ∷ record { reading = 1; file = T; asked = enforced (0x01 ∷ 0x11 ∷ []); expected = released (0x00 ∷ 0x10 ∷ []) }
    ∷ record { reading = 1; file = N; asked = prepared; expected = refusal 11 (0 ∷ []) }
    ∷ record { reading = 1; file = K; asked = enforced (0x00 ∷ 0x00 ∷ 0x10 ∷ []); expected = released (0x00 ∷ 0x00 ∷ 0x10 ∷ []) }
    ∷ record {
      reading = 1;
      file = K;
      asked = enforced (0x00 ∷ 0x00 ∷ 0x00 ∷ 0x10 ∷ []);
      expected = released (0x00 ∷ 0x00 ∷ 0x00 ∷ 0x00 ∷ []);
    }
    ∷ record { reading = 1; file = OneInput; asked = enforced (0x00 ∷ []); expected = released (0x02 ∷ []) }
    ∷ record { reading = 1; file = OneOutput; asked = enforced (0x00 ∷ []); expected = released (0x20 ∷ []) }
    ∷ record { reading = 1; file = Unentered; asked = prepared; expected = summary 0 2 1 }
    ∷ record {
      reading = 2;
      file = D;
      asked = enforced (0x01 ∷ 0x00 ∷ 0x00 ∷ 0x00 ∷ 0x00 ∷ []);
      expected = released (0x01 ∷ 0x00 ∷ 0x00 ∷ 0x10 ∷ 0x00 ∷ []);
    }
    -- "22 for any other number, before all else": before the 11 of N, and before the 1 of a file without a byte.
    ∷ record { reading = 0; file = N; asked = prepared; expected = refusal 22 (99 ∷ []) }
    ∷ record { reading = 3; file = []; asked = enforced (0xFF ∷ []); expected = refusal 22 (99 ∷ []) } ∷ []

-- In each case, what is said is what is expected.
pub marked_cases : map (λ c. said c.reading c.file c.asked) cases ≡ map (λ c. c.expected) cases
unfolding the_file the_check a_step the_marks the_run cases
marked_cases = refl
