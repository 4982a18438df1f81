-- The file of a policy: its sections in order, each after its count.
use Rattle.std.specs.Prelude.{List, [], ◌∷◌, ◌++◌, ℕ, ◌/◌, ◌%◌, length}
use Rattle.policy.specs.Rules.{Bound, Rule, Policy}

-- A two-byte number, "the high byte first".
abbrev pub pair_bytes : ℕ → List ℕ
pair_bytes n = n / 256 ∷ n % 256 ∷ []

-- Two-byte numbers, one after the other.
unfoldable pub pairs_bytes : List ℕ → List ℕ
pairs_bytes [] = []
pairs_bytes (n ∷ ns) = pair_bytes n ++ pairs_bytes ns

-- Bounds one after the other, each a two-byte low and a two-byte high.
unfoldable pub bounds_bytes : List Bound → List ℕ
bounds_bytes [] = []
bounds_bytes (b ∷ bs) = pair_bytes b.low ++ (pair_bytes b.high ++ bounds_bytes bs)

-- "seven bytes (source, input care, input value, output care, output value, reset mask, target), then for each clock a two-byte low and high"
unfoldable pub rule_bytes : Rule → List ℕ
rule_bytes r =
    r.source ∷ r.in_care ∷ r.in_value ∷ r.out_care ∷ r.out_value ∷ r.reset ∷ r.target ∷ bounds_bytes r.bounds

-- Rules, one after the other.
unfoldable pub rules_bytes : List Rule → List ℕ
rules_bytes [] = []
rules_bytes (r ∷ rs) = rule_bytes r ++ rules_bytes rs

-- All that stands before the first rule: the other sections, and the count of rules.
unfoldable pub counts_bytes : Policy → List ℕ
counts_bytes p =
    (length p.inputs ∷ p.inputs) ++ ((length p.outputs ∷ p.outputs)
    ++ ((length p.ceilings ∷ pairs_bytes p.ceilings) ++ ((p.locations ∷ p.left) ++ pair_bytes (length p.rules))))

-- The whole file.
unfoldable pub bytes_of : Policy → List ℕ
bytes_of p = counts_bytes p ++ rules_bytes p.rules
