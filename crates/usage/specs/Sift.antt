-- Elements of a list kept or struck out by flags, and where those that are kept stand then. Nothing here knows a policy.
use Rattle.std.specs.Prelude.{◌≡◌, Bool, true, false, List, [], ◌∷◌, ℕ, zero, suc, ◌<◌, length, get_or}
use Rattle.std.proofs.Math.Option.{Option, none, some}

-- Past the end no flag is set.
abbrev pub flag : List Bool → ℕ → Bool
flag L i = get_or L i false

-- The element at i, if there is one.
abbrev pub nth : {A : Type 0} → List A → ℕ → Option A
nth [] i = none
nth (x ∷ xs) zero = some x
nth (x ∷ xs) (suc i) = nth xs i

-- The elements whose flag is set.
abbrev pub sift : {A : Type 0} → List Bool → List A → List A
sift [] xs = []
sift (b ∷ L) [] = []
sift (true ∷ L) (x ∷ xs) = x ∷ sift L xs
sift (false ∷ L) (x ∷ xs) = sift L xs

-- One more if the flag is set.
abbrev pub count : Bool → ℕ → ℕ
count true n = suc n
count false n = n

-- How many flags below i are set: the new number of i.
abbrev pub rank : List Bool → ℕ → ℕ
rank L zero = 0
rank [] (suc i) = 0
rank (b ∷ L) (suc i) = count b (rank L i)

-- How many are set.
abbrev pub kept : List Bool → ℕ
kept [] = 0
kept (b ∷ L) = count b (kept L)

-- All flags set: nothing is struck.
abbrev pub All : List Bool → Type 0
All L = (i : ℕ) → i < length L → flag L i ≡ true
