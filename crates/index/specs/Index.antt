-- The index (12/13): "Keep beside the policy an index of the first rule and the number of rules for each location".
use Rattle.std.specs.Prelude.{◌≡◌, refl, Bool, true, false, cond, ◌&&◌, List, [], ◌∷◌, ◌++◌, ◌↔◌, ℕ, zero, suc, ltb, eqb}
use Rattle.std.proofs.Common.{ap₂, arith, eqb-true, eq-eqb}
use Rattle.std.proofs.Math.Bool.{and-eq-true_iff}
use Rattle.std.proofs.lemmas.Bool.{false≢true}
use Rattle.policy.specs.Rules.{Rule}
use Rattle.policy.specs.File.{location_count, rules_of}
use Rattle.index.specs.declared.entry.Entry.{Entry}

-- How many rules pass a test.
unfoldable pub count : (Rule → Bool) → List Rule → ℕ
count test [] = 0
count test (r ∷ rs) = cond (test r) (suc (count test rs)) (count test rs)

-- "The first is always the count of rules with a lower source, also for a location without rules, whose number is 0."
abbrev pub lower : ℕ → List Rule → ℕ
lower a rs = count (λ r. ltb r.source a) rs

-- How many rules the location has.
abbrev pub number : ℕ → List Rule → ℕ
number a rs = count (λ r. eqb r.source a) rs

-- The entry of a location: "0 and 0 past the locations".
unfoldable pub entry_of : List ℕ → ℕ → Entry
entry_of f a = cond (ltb a (location_count f)) (record { first = lower a (rules_of f); number = number a (rules_of f) }) (record { first = 0; number = 0 })

-- The entries of the first n locations, two numbers each.
unfoldable pub entries : List ℕ → ℕ → List ℕ
entries f zero = []
entries f (suc n) = entries f n ++ ((entry_of f n).first ∷ (entry_of f n).number ∷ [])

-- "An index has 64 entries".
unfoldable pub index_of : List ℕ → List ℕ
index_of f = entries f 64

-- The same numbers.
unfoldable pub same : List ℕ → List ℕ → Bool
same [] [] = true
same [] (b ∷ bs) = false
same (a ∷ rest) [] = false
same (a ∷ rest) (b ∷ bs) = eqb a b && same rest bs

-- The test is passed exactly if the two lists are equal.
pub same_exactly : (xs ys : List ℕ) → (same xs ys ≡ true) ↔ (xs ≡ ys)
unfolding same
same_exactly [] [] = (λ e. refl, λ e. refl)
same_exactly [] (b ∷ bs) = (λ e. absurd (false≢true e), λ e. let z : ◌≡◌ {A = ℕ} 0 1 = cc in absurd (omega arith))
same_exactly (a ∷ rest) [] = (λ e. absurd (false≢true e), λ e. let z : ◌≡◌ {A = ℕ} 0 1 = cc in absurd (omega arith))
same_exactly (a ∷ rest) (b ∷ bs) = (
  λ e. let k = (and-eq-true_iff (eqb a b) _).0 e in ap₂ ◌∷◌ (eqb-true a b k.0) ((same_exactly rest bs).0 k.1),
  λ e. (and-eq-true_iff (eqb a b) _).1 (eq-eqb a b (cc), (same_exactly rest bs).1 (cc)),
)

-- 28: "Any other index is refused". A slice that is not 128 numbers is another one.
abbrev pub is_index : List ℕ → List ℕ → Bool
is_index f xs = same xs (index_of f)
