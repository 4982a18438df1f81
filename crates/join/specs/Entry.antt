-- What the join answers, for any two files and any slice to write to: "A join checks A by 1 to 9, B likewise, then 12, 13, 14."
use Rattle.std.specs.Prelude.{Bool, true, false, ◌&&◌, List, [], ◌∷◌, ◌++◌, ℕ, zero, suc, leb, eqb, length, drop}
use Rattle.streams.specs.Answer.{Answer, ◌or_else◌, unless, answer}
use Rattle.policy.specs.Rules.{Policy}
use Rattle.policy.specs.Number.{states}
use Rattle.policy.specs.File.{policy_of}
use Rattle.policy.specs.Check.{refusal_of}
use Rattle.policy.specs.Bytes.{bytes_of}
use Rattle.pairing.specs.Join.{join}

-- The same tags in the same order.
unfoldable pub same_tags : List ℕ → List ℕ → Bool
same_tags [] [] = true
same_tags [] (b ∷ bs) = false
same_tags (a ∷ rest) [] = false
same_tags (a ∷ rest) (b ∷ bs) = eqb a b && same_tags rest bs

-- 12: "two policies differ in signal tags or their order".
unfoldable pub same_signals : Policy → Policy → Bool
same_signals a b = same_tags a.inputs b.inputs && same_tags a.outputs b.outputs

-- 13: "a join has over 64 locations, 4 clocks, 256 rules or 65,536 states".
unfoldable pub join_fits : Policy → Bool
join_fits p =
    leb p.locations 64 && (leb (length p.ceilings) 4 && (leb (length p.rules) 256 && leb (states p) 65536))

-- What a file says, for the join: it takes no reading, and the bytes that it writes are the same under each (`Written.joined_bytes`).
abbrev pub said : List ℕ → Policy
said f = policy_of 1 f

module _ (a b out : List ℕ) where
  -- The joined file.
  unfoldable pub joined_file : List ℕ
  joined_file = bytes_of (join (said a) (said b))

  -- "A by 1 to 9, B likewise, then 12, 13, 14." 14: "the slice to be written is too short".
  unfoldable pub join_refusal : ℕ
  join_refusal =
      refusal_of a or_else refusal_of b or_else unless (same_signals (said a) (said b)) 12
      or_else unless (join_fits (join (said a) (said b))) 13 or_else unless (leb (length joined_file) (length out)) 14

  -- "the length written is returned"
  unfoldable pub join_of : Answer ℕ
  join_of = answer join_refusal (length joined_file)

  -- What the slice holds by the refusal: for 0 the joined file in front, else what it held.
  abbrev pub written_over : ℕ → List ℕ
  written_over zero = joined_file ++ drop (length joined_file) out
  written_over (suc n) = out

  -- What the slice holds then: a refusal writes nothing, and "Bytes past the written part stay."
  unfoldable pub joined_out : List ℕ
  joined_out = written_over join_refusal
