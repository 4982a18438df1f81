-- What the entry that builds an index answers.
use Rattle.std.specs.Prelude.{◌≡◌, List, ◌++◌, ℕ, zero, suc, ◌≤◌, leb, length, drop}
use Rattle.std.proofs.Common.{sym, ◌∙◌, arith}
use Rattle.streams.specs.Answer.{◌or_else◌, unless}
use Rattle.streams.specs.AnswerLaws.{unless_le, else_le}
use Rattle.policy.specs.Check.{refusal_of}
use Rattle.policy.specs.CheckLaws.{refusal_le}
use Rattle.index.specs.Index.{index_of}

module _ (f index : List ℕ) where
  -- 1 to 9 as the check has them, then 14: "the slice to be written is too short".
  unfoldable pub build_refusal : ℕ
  build_refusal = refusal_of f or_else unless (leb 128 (length index)) 14

  -- What the slice holds by the refusal: for 0 the index in front, else what it held.
  abbrev pub written_over : ℕ → List ℕ
  written_over zero = index_of f ++ drop 128 index
  written_over (suc n) = index

  -- What the slice holds then: a refusal writes nothing, and what stands past the index stays.
  unfoldable pub built_index : List ℕ
  built_index = written_over build_refusal

  -- The refusal of a build is at most 14.
  pub build_le : build_refusal ≤ 14
  unfolding build_refusal
  build_le = let h : refusal_of f ≤ 14 = omega (arith, refusal_le f) in search (else_le, unless_le)

-- All that is promised of what `write_index` gives, and of what the slice holds `after`.
pub record BuildPromise (f before : List ℕ) (r : ℕ) (after : List ℕ) : Type 0 where
  pub refuses : r ≡ build_refusal f before
  pub writes : after ≡ built_index f before

-- One answer and one later slice alone meet the promise.
pub build_one : {f before after also : List ℕ} {r q : ℕ} → BuildPromise f before r after → BuildPromise f before q also → (r ≡ q) × (after ≡ also)
build_one h g = (h.refuses ∙ sym g.refuses, h.writes ∙ sym g.writes)
