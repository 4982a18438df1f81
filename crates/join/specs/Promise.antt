-- What the join promises: its answer and what the slice holds then are those of specs/Entry.antt, for any two files and any slice.
use Rattle.std.specs.Prelude.{◌≡◌, List, ℕ, ◌≤◌, length}
use Rattle.std.proofs.Common.{sym, ◌∙◌, arith}
use Rattle.streams.specs.Answer.{Answer, UpTo}
use Rattle.streams.specs.AnswerLaws.{unless_le, else_le, answer_up_to}
use Rattle.policy.specs.Check.{refusal_of}
use Rattle.policy.specs.CheckLaws.{refusal_le}
use Rattle.join.specs.Entry.{joined_file, join_refusal, join_of, joined_out}

-- What the join answers, and what its slice holds `before` and `after`.
pub record JoinPromise (a b before : List ℕ) (r : Answer ℕ) (after : List ℕ) : Type 0 where
  pub answers : r ≡ join_of a b before
  pub writes : after ≡ joined_out a b before

-- It allows one answer and one later slice.
pub join_one : {a b before after later : List ℕ} {r s : Answer ℕ} → JoinPromise a b before r after → JoinPromise a b before s later →
    (r ≡ s) × (after ≡ later)
join_one g h = (g.answers ∙ sym h.answers, g.writes ∙ sym h.writes)

-- No refusal of the join is above 14.
refusals_le : (a b out : List ℕ) → join_refusal a b out ≤ 14
unfolding join_refusal
refusals_le a b out =
    let f : refusal_of a ≤ 14 = omega (arith, refusal_le a) in
    let g : refusal_of b ≤ 14 = omega (arith, refusal_le b) in
    search (else_le, unless_le) depth 7

-- The answer of the join is a length or a refusal by 1 to 14.
pub join_up_to : (a b out : List ℕ) → UpTo 14 (join_of a b out)
unfolding join_of
join_up_to a b out = answer_up_to (join_refusal a b out) (length (joined_file a b out)) (refusals_le a b out)
