-- When clean refuses, and what it writes then and otherwise.
use Rattle.std.specs.Prelude.{◌≡◌, List, ◌⊎◌, ℕ, zero, suc, ◌≤◌, ◌<◌, leb, length}
use Rattle.std.proofs.Math.Path.{refl}
use Rattle.std.proofs.Math.Bool.{and-false}
use Rattle.std.proofs.Common.{inl, inr, arith, le-leb}
use Rattle.std.proofs.lemmas.Bool.{lt-leb}
use Rattle.streams.specs.Answer.{refused, answer}
use Rattle.streams.specs.AnswerLaws.{first_refused, next_refused}
use Rattle.policy.specs.Check.{refusal_under}
use Rattle.cleaning.specs.Entry.{cleaned_file, struck_list, written_in, short_refusal, clean_refusal, clean_of, cleaned_out, struck_out}
use Rattle.cleaning.specs.Laws.{Answers}

answer_refused : {A : Type 0} (n : ℕ) (a : A) → ¬ (n ≡ 0) → answer n a ≡ refused n
answer_refused zero a h = absurd (h refl)
answer_refused (suc n) a h = refl

-- What is refused writes nothing.
unwritten : {A : Type 0} (n k : ℕ) (a : A) (bytes before : List ℕ) → answer n a ≡ refused k → written_in n bytes before ≡ before
unwritten zero k a bytes before e = let z : ◌≡◌ {A = ℕ} 0 1 = cc in absurd (omega arith)
unwritten (suc n) k a bytes before e = refl

-- "14 for either slice"
one_short : (bytes entries out list : List ℕ) → (length out < length bytes) ⊎ (length list < length entries) → short_refusal bytes entries out list ≡ 14
unfolding short_refusal
one_short bytes entries out list (inl h) = rw (lt-leb (length bytes) (length out) h)
one_short bytes entries out list (inr h) = rw (lt-leb (length entries) (length list) h, and-false (leb (length bytes) (length out)))

none_short : (bytes entries out list : List ℕ) → length bytes ≤ length out → length entries ≤ length list → short_refusal bytes entries out list ≡ 0
unfolding short_refusal
none_short bytes entries out list h k = rw (le-leb (length bytes) (length out) h, le-leb (length entries) (length list) k)

module _ (reading : ℕ) (file out list : List ℕ) where
  after_passed : refusal_under reading file ≡ 0 → clean_refusal reading file out list ≡ short_refusal (cleaned_file reading file) (struck_list reading file) out list
  unfolding clean_refusal
  after_passed = next_refused (refusal_under reading file) _

  refused_first : ¬ (refusal_under reading file ≡ 0) → clean_refusal reading file out list ≡ refusal_under reading file
  unfolding clean_refusal
  refused_first = first_refused (refusal_under reading file) _

  -- What clean answers and writes, for any reading, bytes and slices, is what `Laws` says.
  pub answers : Answers reading file out list
  unfolding clean_of cleaned_out struck_out
  answers =
      record {
        first = λ h. rw (refused_first h) (answer_refused (refusal_under reading file) _ h);
        short = λ passed h. rw (after_passed passed, one_short (cleaned_file reading file) (struck_list reading file) out list h);
        unwritten = λ n e. (
          unwritten (clean_refusal reading file out list) n _ (cleaned_file reading file) out e,
          unwritten (clean_refusal reading file out list) n _ (struck_list reading file) list e,
        );
        both = λ passed h k. rw (after_passed passed, none_short (cleaned_file reading file) (struck_list reading file) out list h k) (refl, refl, refl);
      }
