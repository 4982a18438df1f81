-- Laws of the frame: what is not refused is all there, and a policy and events that are put into a frame are read back.
use Rattle.std.specs.Prelude.{◌≡◌, List, [], ◌∷◌, ◌++◌, ℕ, ◌+◌, ◌-◌, ◌/◌, ◌%◌, ◌≤◌, leb, length, take, drop}
use Rattle.std.proofs.Common.{subst, append-nil, arith, length-append, length-take, get_or-append-add, leb-true, le-leb}
use Rattle.std.proofs.Math.Seq.{get_or-append_seam, take-append_seam, drop-append-add}
use Rattle.streams.specs.Answer.{unless}
use Rattle.streams.specs.AnswerLaws.{none_refused, none_unless}
use Rattle.policy.specs.File.{pair_at, part}
use Rattle.frames.specs.Frame.{
  count_refusal,
  policy_frame_refusal,
  policy_end,
  policy_part,
  events_frame_refusal,
  events_start,
  events_end,
  events_part,
}

-- A count that is not refused is within its limit, and what it counts within the input.
pub count_fits :
    (input : List ℕ) (at most : ℕ) → count_refusal input at most ≡ 0 →
    (pair_at input at ≤ most) × (at + 2 + pair_at input at ≤ length input)
unfolding count_refusal
count_fits input at most e =
    let a = (none_refused (unless (leb (at + 2) (length input)) 1) _).0 e in
    let b = (none_refused (unless (leb (pair_at input at) most) 2) _).0 a.1 in
    (leb-true _ _ ((none_unless _ 1).0 b.0), leb-true _ _ ((none_unless _ 0).0 b.1))

-- A part, by where it starts and where it ends.
pub part_between : (input : List ℕ) (at n : ℕ) {start end : ℕ} → start ≡ at → end ≡ at + n → take (end - start) (drop start input) ≡ part input at n
part_between input at n {start} {end} s e = let k : end - start ≡ n = omega arith in rw (k, s)

-- The events end with the input.
pub events_fit :
    (input : List ℕ) → events_frame_refusal input ≡ 0 →
    (pair_at input (policy_end input) ≤ 16384) × (events_end input ≡ length input)
events_fit input e =
    let a = (none_refused (count_refusal input (policy_end input) 16384) _).0 e in
    let fits = count_fits input (policy_end input) 16384 a.0 in
    let none : length input ≤ events_end input = leb-true _ _ ((none_unless _ 7).0 a.1) in
    (fits.0, omega (arith, fits.1))

-- Events whose frame is not refused are at most 16,384.
pub events_few : (input : List ℕ) → events_frame_refusal input ≡ 0 → length (events_part input) ≤ 16384
events_few input e = simp length-take (omega (arith, events_fit input e))

-- The bytes stand in the input, after their count at `at`.
record StandsIn (input : List ℕ) (at : ℕ) (bytes : List ℕ) : Type 0 where
  count : pair_at input at ≡ length bytes
  there : part input (at + 2) (length bytes) ≡ bytes
  within : at + 2 + length bytes ≤ length input

-- Bytes after their count, which takes two bytes, the high one first.
abbrev pub counted : List ℕ → List ℕ
counted bytes = length bytes / 256 ∷ length bytes % 256 ∷ bytes

stands : (before bytes after : List ℕ) → StandsIn (before ++ (counted bytes ++ after)) (length before) bytes
stands before bytes after =
    let high = get_or-append_seam before (length bytes / 256) (length bytes % 256 ∷ bytes ++ after) 0 in
    let low = get_or-append-add before (counted bytes ++ after) 1 0 in
    record {
      count = omega arith;
      there = rw drop-append-add (take-append_seam bytes after);
      within = simp length-append (omega arith);
    }

accepted : {input : List ℕ} {at : ℕ} {bytes : List ℕ} (most : ℕ) → StandsIn input at bytes → length bytes ≤ most → count_refusal input at most ≡ 0
unfolding count_refusal
accepted {input} {at} {bytes} most s h =
    rw (
      s.count,
      le-leb (at + 2) (length input) (omega (arith, s.within)),
      le-leb (length bytes) most h,
      le-leb (at + 2 + length bytes) (length input) s.within,
    )

-- "a two-byte count (at most 5,974), the policy, a two-byte count (at most 16,384), the events"
abbrev pub framed : (policy events : List ℕ) → List ℕ
framed policy events = counted policy ++ counted events

module _ (policy events : List ℕ) where
  policy_stands : StandsIn (framed policy events) 0 policy
  policy_stands = stands [] policy (counted events)

  policy-end : length (counted policy) ≡ policy_end (framed policy events)
  policy-end = omega (arith, policy_stands.count)

  events_stand : StandsIn (framed policy events) (policy_end (framed policy events)) events
  events_stand =
      subst (λ (at : ℕ). StandsIn (framed policy events) at events) policy-end
      (rw append-nil at (stands (counted policy) events []))

  -- A policy of at most 5,974 bytes is read back from its frame.
  pub policy_read : length policy ≤ 5974 → (policy_frame_refusal (framed policy events) ≡ 0) × (policy_part (framed policy events) ≡ policy)
  policy_read h = (accepted 5974 policy_stands h, rw policy_stands.count policy_stands.there)

  -- Events of at most 16,384 bytes are read back from their frame.
  pub events_read : length events ≤ 16384 → (events_frame_refusal (framed policy events) ≡ 0) × (events_part (framed policy events) ≡ events)
  events_read h =
      let e = events_stand in
      let n : length (framed policy events) ≤ events_start (framed policy events) + length events = omega (arith, policy-end, length-append (counted policy) (counted events)) in
      (rw (accepted 16384 e h, e.count, le-leb _ _ n), rw e.count e.there)
