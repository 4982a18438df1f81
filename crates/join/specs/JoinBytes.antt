-- The bytes of the join before its rules, and what the writers of the whole join ask.
use Rattle.std.specs.Prelude.{◌≡◌, Bool, true, ◌&&◌, List, ◌∷◌, ◌++◌, ℕ, ◌+◌, ◌*◌, leb, length}
use Rattle.policy.specs.Check.{refusal_of}
use Rattle.policy.specs.Bytes.{pair_bytes, rules_bytes}
use Rattle.policy.specs.Layout.{layout_of}
use Rattle.policy.specs.declared.Layout.{Layout}
use Rattle.pairing.specs.Join.{left_below, join}
use Rattle.join.specs.Entry.{same_signals, said}
use Rattle.laying.specs.Lay.{bytes_from}

-- The layout of a file that is not refused, as the check without a reading gives it.
pub record LayoutOf (f : List ℕ) (x : Layout) : Type 0 where
  pub passes : refusal_of f ≡ 0
  pub is : x ≡ layout_of 1 f

-- 13, but for the rules: "a join has over 64 locations, 4 clocks, .. or 65,536 states".
unfoldable pub limits : Layout → Layout → Bool
limits x y = leb (x.locations * y.locations) 64 && (leb (x.clocks + y.clocks) 4 && leb (x.states * y.states) 65536)

-- What the writers of the whole join ask: 12 is not given, nor 13, but for the rules.
pub record PartsReady (f : List ℕ) (x : Layout) (g : List ℕ) (y : Layout) : Type 0 where
  pub first : LayoutOf f x
  pub second : LayoutOf g y
  pub signals : same_signals (said f) (said g) ≡ true
  pub within : limits x y ≡ true

-- How many rules the join has.
abbrev pub joined_count : List ℕ → List ℕ → ℕ
joined_count f g = length (join (said f) (said g)).rules

-- The bytes of the join's rules.
abbrev pub joined_rules : List ℕ → List ℕ → List ℕ
joined_rules f g = rules_bytes (join (said f) (said g)).rules

-- Where the clock count stands.
abbrev pub clocks_for : Layout → ℕ
clocks_for x = 2 + x.inputs + x.outputs

-- How many clocks there are, and their ceilings, A's first.
abbrev pub clocks_part : List ℕ → ℕ → ℕ → List ℕ → ℕ → ℕ → List ℕ
clocks_part f p k g q j = (k + j) ∷ bytes_from f (p + 1) (2 * k) ++ bytes_from g (q + 1) (2 * j)

-- The location bytes: one for each pair of locations.
abbrev pub left_part : List ℕ → Layout → List ℕ → Layout → List ℕ
left_part f x g y = left_below (said f) (said g) (x.locations * y.locations)

-- How many locations there are, their bytes, and how many rules there are.
abbrev pub places_part : List ℕ → Layout → List ℕ → Layout → ℕ → List ℕ
places_part f x g y rules = (x.locations * y.locations) ∷ left_part f x g y ++ pair_bytes rules

-- All bytes before the rules: A's signals, the clocks of both, the locations, and how many rules there are.
abbrev pub counts_from : List ℕ → Layout → List ℕ → Layout → ℕ → List ℕ
counts_from f x g y rules =
    bytes_from f 0 (clocks_for x)
    ++ (clocks_part f (clocks_for x) x.clocks g (clocks_for y) y.clocks ++ places_part f x g y rules)

-- How many bytes stand before the rules.
abbrev pub counts_length : Layout → Layout → ℕ
counts_length x y = 6 + x.inputs + x.outputs + 2 * (x.clocks + y.clocks) + x.locations * y.locations
