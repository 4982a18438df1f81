-- Words and numbers as bytes.
use Rattle.std.specs.Prelude.{cond, List, [], ◌∷◌, ◌++◌, ℕ, zero, suc, ◌+◌, ◌/◌, ◌%◌, ltb}
use Prim.Native.Char.{code}
use Prim.Native.String.{String, [] as none, ◌∷◌ as ◌before◌}

-- A text that is written out, a byte for each character.
abbrev pub ascii : String → List ℕ
ascii none = []
ascii (c before rest) = code c ∷ ascii rest

-- "in decimal": the digits of n, at most k of them in front of the last.
abbrev pub digit : ℕ → ℕ
digit n = code "0" + n % 10

-- The last digit, and at most k before it.
unfoldable pub digits : (k n : ℕ) → List ℕ
digits zero n = digit n ∷ []
digits (suc k) n = cond (ltb n 10) [] (digits k (n / 10)) ++ (digit n ∷ [])

-- All digits of n.
unfoldable pub decimal : ℕ → List ℕ
decimal n = digits n n
