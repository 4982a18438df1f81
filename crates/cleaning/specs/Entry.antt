-- What clean answers, for any reading, any bytes and any two slices to write to.
use Rattle.std.specs.Prelude.{◌&&◌, List, ◌++◌, ℕ, zero, suc, leb, length, drop}
use Rattle.streams.specs.Answer.{Answer, ◌or_else◌, unless, answer}
use Rattle.policy.specs.Rules.{Policy}
use Rattle.policy.specs.File.{policy_of}
use Rattle.policy.specs.Check.{refusal_under}
use Rattle.policy.specs.Bytes.{bytes_of}
use Rattle.usage.specs.Clean.{Struck, cleaned, struck, struck_bytes}
use Rattle.usage.specs.Flags.{entered_flags, used_flags}
use Rattle.cleaning.specs.declared.Lengths.{Lengths}

-- The cleaned policy, and what was struck from it.
unfoldable pub cleaned_of : Policy → Policy
cleaned_of p = cleaned p (entered_flags p) (used_flags p)

-- What is struck from a policy: locations that are not entered, then rules that are not used.
unfoldable pub struck_of : Policy → List Struck
struck_of p = struck p (entered_flags p) (used_flags p)

-- What a slice holds then: a refusal writes nothing, and "Bytes past the written part stay."
abbrev pub written_in : ℕ → List ℕ → List ℕ → List ℕ
written_in zero bytes before = bytes ++ drop (length bytes) before
written_in (suc n) bytes before = before

-- "14 for either slice": of the bytes of the policy and those of the list, `out` is the slice for the first and `list` the one for the second.
unfoldable pub short_refusal : (bytes entries out list : List ℕ) → ℕ
short_refusal bytes entries out list = unless (leb (length bytes) (length out) && leb (length entries) (length list)) 14

module _ (reading : ℕ) (file : List ℕ) where
  -- "A tool writes a cleaned policy and a list of each location and rule struck out".
  unfoldable pub cleaned_file : List ℕ
  cleaned_file = bytes_of (cleaned_of (policy_of reading file))

  -- The bytes of the list of what is struck.
  unfoldable pub struck_list : List ℕ
  struck_list = struck_bytes (struck_of (policy_of reading file))

  module _ (out list : List ℕ) where
    -- 22 and 1 to 9, then 14.
    unfoldable pub clean_refusal : ℕ
    clean_refusal = refusal_under reading file or_else short_refusal cleaned_file struck_list out list

    -- The refusal, or how long the cleaned policy and the list are.
    unfoldable pub clean_of : Answer Lengths
    clean_of = answer clean_refusal (record { cleaned = length cleaned_file; struck = length struck_list })

    -- "nothing written in both"
    unfoldable pub cleaned_out : List ℕ
    cleaned_out = written_in clean_refusal cleaned_file out

    -- What the slice for the list holds then; after a refusal, what it held.
    unfoldable pub struck_out : List ℕ
    struck_out = written_in clean_refusal struck_list list
