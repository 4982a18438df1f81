-- The lines before the rules as the code writes them.
use Rattle.std.specs.Prelude.{◌≡◌, Bool, true, false, List, [], ◌∷◌, ◌++◌, ℕ, suc, ◌+◌, ◌-◌, ◌*◌, ◌≤◌, ◌<◌, eqb, length, get_or, drop}
use Rattle.std.proofs.Common.{add-one, arith, drop_of_length-le, drop-cons}
use Rattle.policy.specs.File.{pair_at, pairs_from}
use Rattle.texts.specs.Text.{ascii, decimal}
use Rattle.wording.specs.Words.{Word}

-- The lines of signals.
abbrev pub tag_piece : Word → ℕ → List ℕ
tag_piece word t = word ++ (32 ∷ t ∷ 10 ∷ [])

-- The lines of several signals.
unfoldable pub tag_text : Word → List ℕ → List ℕ
tag_text word [] = []
tag_text word (t ∷ ts) = tag_piece word t ++ tag_text word ts

-- From the i-th signal on: its line, and those after it.
pub tags_turn : (word : Word) (tags : List ℕ) (i : ℕ) → i < length tags →
    tag_text word (drop i tags) ≡ tag_piece word (get_or tags i 0) ++ tag_text word (drop (i + 1) tags)
unfolding tag_text
tags_turn word tags i h = rw (add-one, drop-cons tags i 0 h)

-- Past the last signal there is no line.
pub tags_end : (word : Word) (tags : List ℕ) (i : ℕ) → length tags ≤ i → tag_text word (drop i tags) ≡ []
unfolding tag_text
tags_end word tags i h = rw (drop_of_length-le tags h)

-- Those of clocks: the ceilings stand in the file as two-byte numbers.
abbrev pub clock_piece : (k c : ℕ) → List ℕ
clock_piece k c = (ascii "clock t" ++ decimal k ++ ascii " ") ++ (decimal c ++ ascii "\n")

-- The lines of several clocks, the first with the number k.
unfoldable pub clock_text : ℕ → List ℕ → List ℕ
clock_text k [] = []
clock_text k (c ∷ cs) = clock_piece k c ++ clock_text (suc k) cs

-- The lines from the i-th of n clocks on; their ceilings stand in the file from `from` on.
abbrev pub clocks_on : (f : List ℕ) (from n i : ℕ) → List ℕ
clocks_on f from n i = clock_text i (pairs_from f (from + 2 * i) (n - i))

-- From the first clock on: all of them.
pub clocks_start : (f : List ℕ) (from n : ℕ) → clocks_on f from n 0 ≡ clock_text 0 (pairs_from f from n)
clocks_start f from n = let a : from + 2 * 0 ≡ from = omega arith in let e : n - 0 ≡ n = omega arith in rw (a, e)

-- From the i-th clock on: its line, and those after it.
pub clocks_turn : (f : List ℕ) (from n i : ℕ) {c : ℕ} → i < n → c ≡ pair_at f (from + 2 * i) → clocks_on f from n i ≡ clock_piece i c ++ clocks_on f from n (i + 1)
unfolding clock_text pairs_from
clocks_turn f from n i l e =
    let k : n - i ≡ suc (n - (i + 1)) = omega arith in
    let s : from + 2 * i + 2 ≡ from + 2 * (i + 1) = omega arith in
    let q : suc i ≡ i + 1 = omega arith in
    rw (e, k, s, q)

-- Past the last clock there is no line.
pub clocks_end : (f : List ℕ) (from n i : ℕ) → n ≤ i → clocks_on f from n i ≡ []
unfolding clock_text pairs_from
clocks_end f from n i l = let e : n - i ≡ 0 = omega arith in rw e

-- Those of locations.
abbrev pub left_piece : Bool → List ℕ
left_piece true = ascii " must be left\n"
left_piece false = ascii "\n"

-- The line of one location.
abbrev pub place_piece : (k b : ℕ) → List ℕ
place_piece k b = (ascii "location q" ++ decimal k) ++ left_piece (eqb b 1)

-- The lines of several locations, the first with the number k.
unfoldable pub place_text : ℕ → List ℕ → List ℕ
place_text k [] = []
place_text k (b ∷ bs) = place_piece k b ++ place_text (suc k) bs

-- From the i-th location on: its line, and those after it.
pub places_turn : (bytes : List ℕ) (i : ℕ) → i < length bytes → place_text i (drop i bytes) ≡ place_piece i (get_or bytes i 0) ++ place_text (i + 1) (drop (i + 1) bytes)
unfolding place_text
places_turn bytes i h = rw (add-one, drop-cons bytes i 0 h)

-- Past the last location there is no line.
pub places_end : (bytes : List ℕ) (i : ℕ) → length bytes ≤ i → place_text i (drop i bytes) ≡ []
unfolding place_text
places_end bytes i h = rw (drop_of_length-le bytes h)
