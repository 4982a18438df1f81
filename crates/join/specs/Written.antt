-- Where the join refuses nothing, what it writes is a file that passes the check, and under each reading its policy is the join.
use Rattle.std.specs.Prelude.{◌≡◌, true, List, ℕ, zero, suc, ◌*◌, ◌≤◌, length, take}
use Rattle.std.proofs.Math.Path.{refl}
use Rattle.std.proofs.Common.{ap₂, sym, ◌∙◌, take_at}
use borrow.Author.Tests.{leb-true}
use Rattle.streams.specs.Stream.{◌alongside◌}
use Rattle.streams.specs.Languages.{◌narrows◌}
use Rattle.streams.specs.Answer.{unless}
use Rattle.streams.specs.AnswerLaws.{none_refused, none_unless}
use Rattle.policy.specs.Rules.{rests, Permits}
use Rattle.policy.specs.File.{location_count, policy_of}
use Rattle.policy.specs.Check.{refusal_of}
use Rattle.policy.specs.Sound.{WellFormed}
use Rattle.policy.specs.Checked.{checked_file, well_sound}
use Rattle.policy.specs.Bytes.{counts_bytes, bytes_of}
use Rattle.policy.specs.ReadBack.{read_back}
use Rattle.policy.specs.WrittenPasses.{written_passes}
use Rattle.pairing.specs.Join.{left_at, left_below, join}
use Rattle.pairing.specs.Joins.{Joins}
use Rattle.join.specs.Steps.{within_both, both_within}
use Rattle.join.specs.Entry.{same_signals, join_fits, said, joined_file, join_refusal, joined_out}
use Rattle.join.specs.Again.{joins_of, join_well}

-- None of "A by 1 to 9, B likewise, then 12, 13, 14" is given.
pub record Unrefused (a b out : List ℕ) : Type 0 where
  pub first : refusal_of a ≡ 0
  pub second : refusal_of b ≡ 0
  pub signals : same_signals (said a) (said b) ≡ true
  pub fits : join_fits (join (said a) (said b)) ≡ true
  pub room : length (joined_file a b out) ≤ length out

-- The bytes of a join carry no reading.
left_alike : (a b : List ℕ) (reading m : ℕ) → left_below (policy_of reading a) (policy_of reading b) m ≡ left_below (said a) (said b) m
unfolding left_below left_at rests policy_of
left_alike a b reading zero = refl
left_alike a b reading (suc m) = rw (left_alike a b reading m)

-- The joined file is the same whatever reading its parts are read under.
pub joined_bytes : (a b out : List ℕ) (reading : ℕ) → bytes_of (join (policy_of reading a) (policy_of reading b)) ≡ joined_file a b out
unfolding joined_file bytes_of counts_bytes join policy_of
joined_bytes a b out reading = rw (left_alike a b reading (location_count a * location_count b))

joined_reading : (a b : List ℕ) (reading : ℕ) → (join (policy_of reading a) (policy_of reading b)).reading ≡ reading
unfolding join policy_of
joined_reading a b reading = refl

module _ (a b out : List ℕ) (e : join_refusal a b out ≡ 0) where
  -- Where the refusal is 0, none of them is given.
  pub unrefused : Unrefused a b out
  unfolding join_refusal
  unrefused =
      let f = (none_refused (refusal_of a) _).0 e in
      let s = (none_refused (refusal_of b) _).0 f.1 in
      let t = (none_refused (unless (same_signals (said a) (said b)) 12) _).0 s.1 in
      let l = (none_refused (unless (join_fits (join (said a) (said b))) 13) _).0 t.1 in
      record {
        first = f.0;
        second = s.0;
        signals = (none_unless _ 11).0 t.0;
        fits = (none_unless _ 12).0 l.0;
        room = leb-true _ _ ((none_unless _ 13).0 l.1);
      }

  -- Under each reading the two files have the join that they have under the first.
  module _ (reading : ℕ) where
    joined_signals : same_signals (policy_of reading a) (policy_of reading b) ≡ true
    unfolding same_signals policy_of
    joined_signals = unrefused.signals

    joined_fits : join_fits (join (policy_of reading a) (policy_of reading b)) ≡ true
    unfolding join_fits join policy_of
    joined_fits = unrefused.fits

    -- Under each reading the premise of the join's laws holds.
    pub joined_joins : Joins (policy_of reading a) (policy_of reading b)
    unfolding policy_of
    joined_joins = joins_of (policy_of reading a) (policy_of reading b) refl joined_signals joined_fits

    joined_well : WellFormed (join (policy_of reading a) (policy_of reading b))
    joined_well =
        join_well (policy_of reading a) (policy_of reading b) (checked_file reading a unrefused.first) (checked_file reading b unrefused.second)
        joined_signals joined_fits

  -- The joined file passes the check.
  pub joined_passes : refusal_of (joined_file a b out) ≡ 0
  unfolding joined_file
  joined_passes = written_passes (join (said a) (said b)) (joined_well 1)

  -- The joined bytes, read under a reading, are the join of the parts read under it.
  pub joined_policy : (reading : ℕ) → policy_of reading (joined_file a b out) ≡ join (policy_of reading a) (policy_of reading b)
  joined_policy reading =
      ap₂ policy_of (sym (joined_reading a b reading)) (sym (joined_bytes a b out reading))
      ∙ read_back (join (policy_of reading a) (policy_of reading b)) (joined_well reading)

  -- The first so many bytes of the slice are the file.
  pub joined_written : take (length (joined_file a b out)) (joined_out a b out) ≡ joined_file a b out
  unfolding joined_out
  joined_written = rw e (take_at (joined_file a b out) _ _ refl)

  -- It permits what both permit, for each reading.
  pub joined_both : (reading : ℕ) →
      (Permits (policy_of reading (joined_file a b out)) narrows Permits (policy_of reading a) alongside Permits (policy_of reading b))
      × (Permits (policy_of reading a) alongside Permits (policy_of reading b) narrows Permits (policy_of reading (joined_file a b out)))
  joined_both reading =
      let p = policy_of reading a in
      let q = policy_of reading b in
      let f = well_sound p (checked_file reading a unrefused.first) in
      let g = well_sound q (checked_file reading b unrefused.second) in
      rw (joined_policy reading) (within_both p q f g (joined_joins reading), both_within p q f g (joined_joins reading))
