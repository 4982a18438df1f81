-- How large the numbers in a word are.
use Rattle.std.specs.Prelude.{◌≡◌, Bool, true, false, cond, List, ℕ, ◌≤◌, length}
use Rattle.std.proofs.Common.{subst, arith}
use Rattle.streams.specs.Answer.{gives}
use Rattle.streams.specs.AnswerLaws.{given_only, none_refused}
use Rattle.policy.specs.Rules.{start}
use Rattle.policy.specs.File.{policy_of}
use Rattle.policy.specs.CheckLaws.{under_none}
use Rattle.policy.specs.Number.{number_of}
use Rattle.policy.specs.Frame.{frame, longest}
use Rattle.policy.specs.Checked.{checked_file}
use Rattle.enforcer.specs.Entries.{marks_refusal}
use Rattle.enforcer.specs.States.{marks_granted}
use Rattle.trimming.specs.Table.{machine_of, marks_of}
use Rattle.resting.specs.Marks.{total_le}
use Rattle.resting.specs.Reached.{stray_of}
use Rattle.trimming.specs.Live.{marks_length, marks_bits}
use Rattle.prepare.specs.Entry.{prepare_of}
use Rattle.prepare.specs.declared.Summary.{Summary}
use Rattle.join.specs.Entry.{join_refusal, joined_file, join_of}
use Rattle.join.specs.Written.{joined_passes}

-- The verdict is 0 or 1, and the states and the live ones are at most 65,536 each.
pub record Small (s : Summary) : Type 0 where
  pub verdict : s.verdict ≤ 1
  pub states : s.states ≤ 65536
  pub live : s.live ≤ 65536

bit_small : (t : Bool) → cond t 1 0 ≤ 1
bit_small true = omega arith
bit_small false = omega arith

-- "at most 65,536" states, and no more live ones.
pub summary_small : (reading : ℕ) (file marks : List ℕ) (s : Summary) → prepare_of reading file marks ≡ gives s → Small s
unfolding prepare_of
summary_small reading file marks s e =
    let p = policy_of reading file in
    let k = given_only _ _ s e in
    let passed = ((marks_granted reading file marks).0 ((none_refused (marks_refusal reading file marks) _).0 k.0).0).0 in
    let few = (checked_file reading file ((under_none reading file).0 passed).1).states in
    subst Small k.1 (record {
      verdict = bit_small (stray_of (machine_of p) (marks_of p) (number_of p (start p)));
      states = few;
      live = omega (arith, total_le (marks_of p) (marks_bits p), marks_length p);
    })

-- "The longest is 5,974 bytes."
pub joined_short : (a b out : List ℕ) (n : ℕ) → join_of a b out ≡ gives n → n ≤ 5974
unfolding join_of
joined_short a b out n e =
    let f = joined_file a b out in
    let k = given_only (join_refusal a b out) (length f) n e in
    omega (arith, longest f (frame f (joined_passes a b out k.0)), k.1)
