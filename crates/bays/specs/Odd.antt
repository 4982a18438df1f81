-- Numbers that are too many or too few to be a state.
use Rattle.std.specs.Prelude.{◌≡◌, Bool, List}
use Rattle.std.proofs.Math.Bool.{true, false}
use Prim.Native.Nat.{ℕ, zero, suc, ◌≤◌, ◌<◌}
use native.Mathlib.Omega.{arith}
use Rattle.streams.specs.Answer.{◌or_else◌, unless}
use Rattle.streams.specs.AnswerLaws.{first_refused, unless_le, else_le}
use Rattle.policy.specs.Check.{refusal_under}
use Rattle.enforcer.specs.Entries.{marks_refusal}
use Rattle.enforcer.specs.Refusals.{marks_le, marks_first}

-- They are refused by 16 in its place in the order, after 22, 1 to 10 and, where there is no room for what is to be written, 14.
unfoldable pub odd_refusal : ℕ → List ℕ → List ℕ → Bool → ℕ
odd_refusal reading file marks room = marks_refusal reading file marks or_else unless room 14 or_else 16

-- So they are refused, by a number up to 22.
module _ (reading : ℕ) (file marks : List ℕ) (room : Bool) where
  -- Such numbers are always refused.
  pub odd_some : 0 < odd_refusal reading file marks room
  unfolding odd_refusal
  odd_some = go (marks_refusal reading file marks) room
    where
      go : (n : ℕ) (t : Bool) → 0 < (n or_else unless t 14 or_else 16)
      go zero true = omega arith
      go zero false = omega arith
      go (suc n) t = omega arith

  -- The refusal is at most 22.
  pub odd_le : odd_refusal reading file marks room ≤ 22
  unfolding odd_refusal
  odd_le = let m = marks_le reading file marks in let n : 16 ≤ 22 = omega arith in search (else_le, unless_le)

  -- Where the reading or the file is refused, they are refused by that number.
  pub odd_first : (refusal_under reading file ≡ 0 → ⊥) → odd_refusal reading file marks room ≡ refusal_under reading file
  unfolding odd_refusal
  odd_first bad = rw (marks_first reading file marks bad) (first_refused (refusal_under reading file) _ bad)
