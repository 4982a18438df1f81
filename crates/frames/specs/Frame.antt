-- The input's frame: "a two-byte count (at most 5,974), the policy, a two-byte count (at most 16,384), the events".
use Rattle.std.specs.Prelude.{List, ℕ, ◌+◌, leb, length}
use Rattle.streams.specs.Answer.{◌or_else◌, unless}
use Rattle.policy.specs.File.{pair_at, part}
use Rattle.policy.specs.Check.{reading_refusal}

-- Of a count at `at` and the bytes that it counts: "count whole (1), within its limit (2), .. all there (1)".
unfoldable pub count_refusal : List ℕ → (at most : ℕ) → ℕ
count_refusal input at most =
    unless (leb (at + 2) (length input)) 1 or_else unless (leb (pair_at input at) most) 2
    or_else unless (leb (at + 2 + pair_at input at) (length input)) 1

module _ (input : List ℕ) where
  -- "first count whole (1), within its limit (2), policy bytes all there (1)"
  abbrev pub policy_frame_refusal : ℕ
  policy_frame_refusal = count_refusal input 0 5974

  -- Where the policy ends.
  abbrev pub policy_end : ℕ
  policy_end = 2 + pair_at input 0

  -- The bytes of the policy.
  abbrev pub policy_part : List ℕ
  policy_part = part input 2 (pair_at input 0)

  -- Where the events begin.
  abbrev pub events_start : ℕ
  events_start = policy_end + 2

  -- Where the events end.
  abbrev pub events_end : ℕ
  events_end = events_start + pair_at input policy_end

  -- "second count whole (1), within its limit (2), events all there (1), nothing after them (8)"
  abbrev pub events_frame_refusal : ℕ
  events_frame_refusal = count_refusal input policy_end 16384 or_else unless (leb (length input) events_end) 8

  -- The bytes of the events.
  abbrev pub events_part : List ℕ
  events_part = part input events_start (pair_at input policy_end)

  -- Of a program that is told its reading: "22 for any other number, before all else".
  abbrev pub input_refusal : (reading : ℕ) → ℕ
  input_refusal reading = reading_refusal reading or_else policy_frame_refusal
