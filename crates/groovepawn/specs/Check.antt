-- The call of the check: its word, that one answer alone meets it, that the answer comes back from its word, and that it tells how many marks are enough.
use Rattle.std.specs.Prelude.{◌≡◌, refl, List, ℕ, zero, suc, ◌+◌, ◌*◌, ◌/◌, ◌%◌, ◌≤◌, leb, length}
use Rattle.std.proofs.Common.{sym, ◌∙◌, arith}
use Rattle.streams.specs.Answer.{Answer, ◌or_else◌, unless, answer}
use Rattle.streams.specs.AnswerLaws.{answer_up_to}
use Rattle.policy.specs.File.{policy_of}
use Rattle.policy.specs.Number.{states}
use Rattle.policy.specs.Check.{reading_refusal, refusal_of, refusal_under}
use Rattle.policy.specs.CheckLaws.{refusal_le}
use Rattle.policy.specs.Checked.{checked_file}
use Rattle.policy.specs.Layout.{checked_of}
use Rattle.policy.specs.LayoutLaws.{checked_passed, checked_refused}
use Rattle.enforcer.specs.Entries.{marks_refusal}
use Rattle.stepping.specs.Laid.{laid_out}
use Rattle.groovepawn.specs.Words.{answer_word}
use Rattle.groovepawn.specs.Fields.{answer_in, answer_back}

-- 1 to 9 as 01 has them, or the number of states: a file has it under either reading.
abbrev pub check_of : List ℕ → Answer ℕ
check_of file = answer (refusal_of file) (states (policy_of 1 file))

-- The word that the check returns.
unfoldable pub check_word : List ℕ → ℕ
check_word file = answer_word (check_of file)

-- r is what the check returns.
pub record CheckCall (file : List ℕ) (r : ℕ) : Type 0 where
  pub said : r ≡ check_word file

-- One answer alone meets `CheckCall`.
pub check_one : {file : List ℕ} {r q : ℕ} → CheckCall file r → CheckCall file q → r ≡ q
check_one h g = h.said ∙ sym g.said

-- What the code adds up is the word, and the number of states is small: with a refusal the layout has none.
pub checked_word : (file : List ℕ) →
    ((checked_of file).layout.states ≤ 65536) × ((checked_of file).refusal + (checked_of file).layout.states * 256 ≡ check_word file)
unfolding check_word
checked_word file = go (refusal_of file) refl
  where
    go : (n : ℕ) → refusal_of file ≡ n →
        ((checked_of file).layout.states ≤ 65536)
        × ((checked_of file).refusal + (checked_of file).layout.states * 256 ≡ answer_word (answer n (states (policy_of 1 file))))
    go zero e = rw (checked_passed file e, (laid_out 1 file e).states, e) ((checked_file 1 file e).states, omega arith)
    go (suc n) e = rw (checked_refused file (λ z. omega arith), e) (omega arith, omega arith)

-- What is answered comes back from the word.
pub check_fields : (file : List ℕ) → answer_in (check_word file) ≡ check_of file
unfolding check_word
check_fields file = answer_back (check_of file) 9 (omega arith) (answer_up_to (refusal_of file) (states (policy_of 1 file)) (refusal_le file))

-- Of a file that passes, 10 is given exactly for fewer marks than the number told, whatever the reading.
pub check_marks : (reading : ℕ) (file marks : List ℕ) → check_word file % 256 ≡ 0 →
    marks_refusal reading file marks ≡ (reading_refusal reading or_else unless (leb (check_word file / 256) (length marks)) 10)
unfolding check_word marks_refusal refusal_under policy_of
check_marks reading file marks = go (refusal_of file) (refusal_le file)
  where
    go : (n : ℕ) → n ≤ 9 → answer_word (answer n (states (policy_of 1 file))) % 256 ≡ 0 →
        ((reading_refusal reading or_else n) or_else unless (leb (states (policy_of reading file)) (length marks)) 10)
        ≡ (reading_refusal reading or_else unless (leb (answer_word (answer n (states (policy_of 1 file))) / 256) (length marks)) 10)
    go zero l h = let e : states (policy_of 1 file) * 256 / 256 ≡ states (policy_of 1 file) = omega arith in rw e (none (reading_refusal reading))
      where
        none : (r : ℕ) → ((r or_else 0) or_else unless (leb (states (policy_of reading file)) (length marks)) 10) ≡ (r or_else unless (leb (states (policy_of reading file)) (length marks)) 10)
        none zero = refl
        none (suc r) = refl
    go (suc n) l h = absurd (omega arith)
