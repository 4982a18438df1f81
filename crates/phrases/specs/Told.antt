-- A rule's words, one after another, by what the code has of it.
use Rattle.std.specs.Prelude.{◌≡◌, refl, List, [], ◌∷◌, ℕ, zero, suc, ◌-◌, ◌≤◌, ◌<◌, length, take, drop, replicate, Result, Ok}
use Rattle.std.proofs.Math.Path.{ap}
use Rattle.std.proofs.Common.{arith, drop_of_length-le}
use borrow.Author.Tests.{lt-ltb, le-ltb}
use Rattle.streams.specs.Answer.{Answer, gives}
use Rattle.wording.specs.Words.{words_of}
use Rattle.wording.specs.Names.{◌and_then◌, through}
use Rattle.words.specs.Lex.{Next}
use Rattle.wording.specs.Reader.{Scope, Begun, no_bound, bare, word_at, rule_word}
use Rattle.conditions.specs.Steps.{bounds_of, begun_of, parse_said, part_of}
use Rattle.conditions.specs.declared.steps.Parsed.{Parsed}
use Rattle.refusals.specs.declared.Refusal.{Refusal}

-- Before the first word.
pub no_bounds : (n : ℕ) → n ≤ 4 → bounds_of n (0 ∷ 0 ∷ 0 ∷ 0 ∷ []) (65535 ∷ 65535 ∷ 65535 ∷ 65535 ∷ []) ≡ replicate n no_bound
unfolding bounds_of
no_bounds zero h = refl
no_bounds (suc zero) h = refl
no_bounds (suc (suc zero)) h = refl
no_bounds (suc (suc (suc zero))) h = refl
no_bounds (suc (suc (suc (suc zero)))) h = refl
no_bounds (suc (suc (suc (suc (suc n))))) h = absurd (omega arith)

-- What the words from `at` on make of what was said before.
module _ (s : Scope) (n : ℕ) (l : List ℕ) where
  -- The answer to the words from `at` on: a refusal, or the rule as it stands after the last.
  unfoldable pub from_there : ℕ → Parsed → Answer Begun
  from_there at p = through (rule_word s) (begun_of n p) (words_of (drop at l))

  -- From the first word on it is the answer to the whole line.
  pub from_first : (p : Parsed) → begun_of n p ≡ bare n → from_there 0 p ≡ through (rule_word s) (bare n) (words_of l)
  unfolding from_there
  from_first p e = ap (λ (b : Begun). through (rule_word s) b (words_of l)) e

  -- No word is left.
  pub from_end : (at : ℕ) (p : Parsed) → length l ≤ at → gives (begun_of n p) ≡ from_there at p
  unfolding from_there through words_of
  from_end at p h = rw (drop_of_length-le l h)

  module _ (at : ℕ) (p : Parsed) (start end : ℕ) (next : Next l at start end) where
    -- No word was found from there on: the rule stands as it is.
    pub from_none : end ≤ start → gives (begun_of n p) ≡ from_there at p
    unfolding from_there through
    from_none h = rw (next.words, le-ltb start end h)

    module _ (step : Result Parsed Refusal) (h : start < end)
        (e : parse_said n step ≡ word_at s (begun_of n p) (part_of p.part p.clock) (take (end - start) (drop start l))) where
      -- The next word's refusal is the answer; else the answer is that to the words after it.
      pub from_word : from_there at p ≡ parse_said n step and_then λ t. through (rule_word s) t (words_of (drop end l))
      unfolding from_there through
      from_word = rw (next.words, lt-ltb start end h, e)

    -- The next word is taken, and the answer is that to the words after it.
    pub from_on : (q : Parsed) → start < end → parse_said n (Ok q) ≡ word_at s (begun_of n p) (part_of p.part p.clock) (take (end - start) (drop start l)) → from_there at p ≡ from_there end q
    unfolding from_there
    from_on q h e = from_word (Ok q) h e
