-- The call of the second engine: its word and what the marks and the work slices hold then, that one answer alone meets it, and that the answer comes back from its word.
use Rattle.std.specs.Prelude.{◌≡◌, List, ℕ, ◌≤◌, ◌%◌, leb}
use Rattle.std.proofs.Common.{sym, ap, ◌∙◌, arith}
use Rattle.streams.specs.Answer.{gives}
use Rattle.policy.specs.File.{policy_of}
use Rattle.policy.specs.Number.{states}
use Rattle.prepare.specs.declared.Summary.{Summary}
use Rattle.fast.specs.Entry.{Work, shortest, lent_refusal, fast_of, fast_marks}
use Rattle.fast.specs.PromiseLaws.{by_length, fast_up_to}
use Rattle.fast.proofs.PromiseLaws.{as_plain, unless_short, fast_gives}
use Rattle.groovepawn.specs.Words.{summary_word, prepare_word}
use Rattle.groovepawn.specs.Bounds.{Small, summary_small}
use Rattle.groovepawn.specs.Fields.{summary_in, summary_back}
use Rattle.groovepawn.specs.Calls.{PrepareCall, prepare_one}

-- `work` and `left` are what the work slices hold before and after. They are scratch: how long the shortest is counts, and what is left in them is said only where
-- nothing is written.
pub record FastCall (reading : ℕ) (file before : List ℕ) (work : Work) (r : ℕ) (after : List ℕ) (left : Work) : Type 0 where
  pub said : r ≡ summary_word (fast_of reading file before (shortest work))
  pub marks : after ≡ fast_marks reading file before (shortest work)
  pub scratch : (lent_refusal reading file before (shortest work) ≡ 0 → ⊥) → left ≡ work

-- One answer and one slice of marks meet it, whatever the work slices hold.
pub fast_one : {reading : ℕ} {file before after also : List ℕ} {work other left right : Work} {r q : ℕ} →
    FastCall reading file before work r after left → FastCall reading file before other q also right →
    leb (states (policy_of reading file)) (shortest work) ≡ leb (states (policy_of reading file)) (shortest other) → (r ≡ q) × (after ≡ also)
fast_one {reading} {file} {before} {work = work} {other = other} h g e =
    let k = by_length reading file before (shortest work) (shortest other) e in
    (h.said ∙ ap summary_word k.0 ∙ sym g.said, h.marks ∙ k.1 ∙ sym g.marks)

-- With slices that are long enough the call is that of the plain engine.
pub fast_prepares : {reading : ℕ} {file before after : List ℕ} {work left : Work} {r : ℕ} →
    FastCall reading file before work r after left → states (policy_of reading file) ≤ shortest work → PrepareCall reading file before r after
unfolding prepare_word
fast_prepares {reading} {file} {before} {work = work} h l =
    let k = as_plain reading file before (shortest work) l in
    record { said = h.said ∙ ap summary_word k.0; marks = h.marks ∙ k.1 }

-- "Unless 23 is given" it is that call too, whatever the slices are.
pub fast_unless : {reading : ℕ} {file before after : List ℕ} {work left : Work} {r : ℕ} →
    FastCall reading file before work r after left → (r % 256 ≡ 23 → ⊥) → PrepareCall reading file before r after
unfolding prepare_word
fast_unless {reading} {file} {before} {work = work} h not_short =
    let k = unless_short reading file before (shortest work) (λ e. not_short (ap (λ (n : ℕ). n % 256) (h.said ∙ ap summary_word e))) in
    record { said = h.said ∙ ap summary_word k.0; marks = h.marks ∙ k.1 }

-- So "both are proved to leave equal marks and give equal verdicts, counts and refusals for every policy and both readings": their words are equal, and
-- all that is in them.
pub same_answers : {reading : ℕ} {file before after also : List ℕ} {work left : Work} {r q : ℕ} →
    PrepareCall reading file before r after → FastCall reading file before work q also left → (q % 256 ≡ 23 → ⊥) → (r ≡ q) × (after ≡ also)
same_answers h g not_short = prepare_one h (fast_unless g not_short)

module _ (reading : ℕ) (file before : List ℕ) (work : ℕ) where
  -- The numbers that the second engine gives are small.
  pub fast_small : (s : Summary) → fast_of reading file before work ≡ gives s → Small s
  fast_small s e = summary_small reading file before s (fast_gives reading file before work s e)

  -- What is answered comes back from the word.
  pub fast_fields : summary_in (summary_word (fast_of reading file before work)) ≡ fast_of reading file before work
  fast_fields = summary_back (fast_of reading file before work) 23 (omega arith) (fast_up_to reading file before work) fast_small
