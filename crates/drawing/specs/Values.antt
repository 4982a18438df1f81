-- How the lines of values are read from the front of a text: which signals have a line there, what it says, and what stands after the lines.
-- In order: the reader (`read_lines`); that lines which are read stand there (`lines_sound`); tags that stand apart; that lines which stand there are
-- read (`lines_complete`).
use Rattle.std.specs.Prelude.{◌≡◌, refl, Bool, true, false, cond, ◌&&◌, ◌||◌, List, [], ◌∷◌, ◌++◌, ℕ, suc, ◌+◌, ◌-◌, ◌*◌, ◌/◌, ◌%◌, ◌^◌, ◌≤◌, ◌<◌, leb, eqb, length, get_or, drop}
use Rattle.std.proofs.Common.{sym, arith, leb-true, eqb-true, le-leb, eq-eqb, ne_eqb}
use Rattle.std.proofs.Math.Bool.{and-eq-true_iff, and-false}
use Rattle.std.proofs.lemmas.Bool.{false≢true, eqb-false}
use Rattle.std.specs.Int.Bits.{bit_and, and_step, and_zero_r}
use Rattle.policy.specs.Check.{among}
use Rattle.drawing.specs.Wave.{value_lines}

-- Which signals have a line at the front of a text, what the lines say, and what stands after them.
pub record LinesThere : Type 0 where
  pub shown : ℕ
  pub values : ℕ
  pub rest : List ℕ

-- A line of the signal stands at the front.
abbrev pub line_of : ℕ → List ℕ → Bool
line_of tag text = leb 48 (get_or text 0 0) && (leb (get_or text 0 0) 49 && (eqb (get_or text 1 0) tag && eqb (get_or text 2 0) 10))

-- A signal with a line of the value v, before the lines of the later signals.
abbrev pub with_line : ℕ → LinesThere → LinesThere
with_line v l = record { shown = 1 + 2 * l.shown; values = v + 2 * l.values; rest = l.rest }

-- A signal without a line, before the lines of the later signals.
abbrev pub without_line : LinesThere → LinesThere
without_line l = record { shown = 2 * l.shown; values = 2 * l.values; rest = l.rest }

-- The lines of the signals with these tags, in their order, at the front of a text.
unfoldable pub read_lines : List ℕ → List ℕ → LinesThere
read_lines [] text = record { shown = 0; values = 0; rest = text }
read_lines (tag ∷ tags) text =
    cond (line_of tag text) (with_line (get_or text 0 0 - 48) (read_lines tags (drop 3 text))) (without_line (read_lines tags text))

front_three : (text : List ℕ) → 0 < get_or text 2 0 → text ≡ get_or text 0 0 ∷ get_or text 1 0 ∷ get_or text 2 0 ∷ drop 3 text
front_three [] h = absurd (omega arith)
front_three (a ∷ []) h = absurd (omega arith)
front_three (a ∷ b ∷ []) h = absurd (omega arith)
front_three (a ∷ b ∷ c ∷ text) h = refl

-- What a line at the front says.
pub record Line (tag : ℕ) (text : List ℕ) : Type 0 where
  pub low : 48 ≤ get_or text 0 0
  pub high : get_or text 0 0 ≤ 49
  pub stands : text ≡ get_or text 0 0 ∷ tag ∷ 10 ∷ drop 3 text

-- If the test of a line passes, a line of the signal stands at the front.
pub line_there : (tag : ℕ) (text : List ℕ) → line_of tag text ≡ true → Line tag text
line_there tag text e =
    let a = (and-eq-true_iff (leb 48 (get_or text 0 0)) _).0 e in
    let b = (and-eq-true_iff (leb (get_or text 0 0) 49) _).0 a.1 in
    let c = (and-eq-true_iff (eqb (get_or text 1 0) tag) _).0 b.1 in
    let t : get_or text 1 0 ≡ tag = eqb-true _ _ c.0 in
    let f : get_or text 2 0 ≡ 10 = eqb-true _ _ c.1 in
    record {
      low = leb-true _ _ a.0;
      high = leb-true _ _ b.0;
      stands = rw (t, f) at (front_three text (omega arith));
    }

-- The lines that are read stand there.
pub lines_sound : (tags text : List ℕ) → text ≡ value_lines tags (read_lines tags text).shown (read_lines tags text).values ++ (read_lines tags text).rest
unfolding read_lines value_lines
lines_sound [] text = refl
lines_sound (tag ∷ tags) text = go (line_of tag text) refl (lines_sound tags (drop 3 text)) (lines_sound tags text)
  where
    go : (t : Bool) → line_of tag text ≡ t →
        drop 3 text ≡ value_lines tags (read_lines tags (drop 3 text)).shown (read_lines tags (drop 3 text)).values ++ (read_lines tags (drop 3 text)).rest →
        text ≡ value_lines tags (read_lines tags text).shown (read_lines tags text).values ++ (read_lines tags text).rest →
        let r = cond t (with_line (get_or text 0 0 - 48) (read_lines tags (drop 3 text))) (without_line (read_lines tags text)) in
        text ≡ value_lines (tag ∷ tags) r.shown r.values ++ r.rest
    go false e after here =
        let l = read_lines tags text in
        let s : 2 * l.shown % 2 ≡ 0 = omega arith in
        let h : 2 * l.shown / 2 ≡ l.shown = omega arith in
        let v : 2 * l.values / 2 ≡ l.values = omega arith in
        rw (s, h, v) here
    go true e after here =
        let k = line_there tag text e in
        let l = read_lines tags (drop 3 text) in
        let b = get_or text 0 0 in
        let s : (1 + 2 * l.shown) % 2 ≡ 1 = omega arith in
        let h : (1 + 2 * l.shown) / 2 ≡ l.shown = omega arith in
        let w : 48 + (b - 48 + 2 * l.values) % 2 ≡ b = omega (arith, k.low, k.high) in
        let v : (b - 48 + 2 * l.values) / 2 ≡ l.values = omega (arith, k.low, k.high) in
        rw (s, h, w, v, ← after) k.stands

-- They are lines of these signals.
pub lines_bound : (tags text : List ℕ) → ((read_lines tags text).shown < 2 ^ length tags) × ((read_lines tags text).values < 2 ^ length tags)
unfolding read_lines
lines_bound [] text = (omega arith, omega arith)
lines_bound (tag ∷ tags) text = go (line_of tag text) refl (lines_bound tags (drop 3 text)) (lines_bound tags text)
  where
    go : (t : Bool) → line_of tag text ≡ t →
        ((read_lines tags (drop 3 text)).shown < 2 ^ length tags) × ((read_lines tags (drop 3 text)).values < 2 ^ length tags) →
        ((read_lines tags text).shown < 2 ^ length tags) × ((read_lines tags text).values < 2 ^ length tags) →
        let r = cond t (with_line (get_or text 0 0 - 48) (read_lines tags (drop 3 text))) (without_line (read_lines tags text)) in
        (r.shown < 2 ^ suc (length tags)) × (r.values < 2 ^ suc (length tags))
    go false e after here = (omega arith, omega arith)
    go true e after here = let k = line_there tag text e in (omega arith, omega (arith, k.low, k.high))

-- The second byte of a text is none of the tags.
abbrev pub Apart : List ℕ → List ℕ → Type 0
Apart tags text = among (get_or text 1 0) tags ≡ false

-- Where not even one of two holds, both fail.
pub neither : (a b : Bool) → (a || b) ≡ false → (a ≡ false) × (b ≡ false)
neither false b e = (refl, e)
neither true b e = absurd (false≢true (sym e))

-- No tag stands twice.
unfoldable pub Distinct : List ℕ → Type 0
Distinct [] = Unit {0}
Distinct (tag ∷ tags) = (among tag tags ≡ false) × Distinct tags

-- None of the tags is one of those before.
unfoldable pub NoneOf : List ℕ → List ℕ → Type 0
NoneOf before [] = Unit {0}
NoneOf before (tag ∷ tags) = (among tag before ≡ false) × NoneOf before tags

-- Lines of other signals, and what stands after them, begin with no line of these.
pub second_apart : (before tags : List ℕ) (shown values : ℕ) (rest : List ℕ) → NoneOf before tags → Apart before rest →
    Apart before (value_lines tags shown values ++ rest)
unfolding value_lines NoneOf
second_apart before [] shown values rest n a = a
second_apart before (tag ∷ tags) shown values rest n a =
    go (eqb (shown % 2) 1) (second_apart before tags (shown / 2) (values / 2) rest n.1 a)
  where
    go : (t : Bool) → Apart before (value_lines tags (shown / 2) (values / 2) ++ rest) →
        Apart before ((cond t ((48 + values % 2) ∷ tag ∷ 10 ∷ []) [] ++ value_lines tags (shown / 2) (values / 2)) ++ rest)
    go true h = n.0
    go false h = h

none_of_one : (tag : ℕ) (tags : List ℕ) → among tag tags ≡ false → NoneOf (tag ∷ []) tags
unfolding among NoneOf
none_of_one tag [] e = tt
none_of_one tag (t ∷ tags) e =
    let k = neither (eqb t tag) _ e in
    (rw (ne_eqb tag t (λ q. eqb-false t tag k.0 (sym q))), none_of_one tag tags k.1)

no_line : (tag : ℕ) (text : List ℕ) → (get_or text 1 0 ≡ tag → ⊥) → line_of tag text ≡ false
no_line tag text h =
    rw (ne_eqb (get_or text 1 0) tag h, and-false (leb (get_or text 0 0) 49), and-false (leb 48 (get_or text 0 0)))

-- Lines that stand there are read.
pub lines_complete : (tags : List ℕ) (shown values : ℕ) (rest : List ℕ) → Distinct tags → Apart tags rest → shown < 2 ^ length tags →
    read_lines tags (value_lines tags shown values ++ rest) ≡ record { shown = shown; values = bit_and values shown; rest = rest }
unfolding read_lines value_lines Distinct among
lines_complete [] shown values rest d a h =
    let e : shown ≡ 0 = omega arith in rw (e, and_zero_r)
lines_complete (tag ∷ tags) shown values rest d a h =
    let k = neither (eqb tag (get_or rest 1 0)) _ a in
    let l : shown < 2 ^ suc (length tags) = h in
    let more = lines_complete tags (shown / 2) (values / 2) rest d.1 k.1 (omega arith) in
    let other = second_apart (tag ∷ []) tags (shown / 2) (values / 2) rest (none_of_one tag tags d.0) (rw k.0) in
    go (eqb (shown % 2) 1) refl (λ e. eqb-false tag _ (neither _ false other).0 (sym e)) more
  where
    go : (t : Bool) → eqb (shown % 2) 1 ≡ t → (get_or (value_lines tags (shown / 2) (values / 2) ++ rest) 1 0 ≡ tag → ⊥) →
        read_lines tags (value_lines tags (shown / 2) (values / 2) ++ rest) ≡ record { shown = shown / 2; values = bit_and (values / 2) (shown / 2); rest = rest } →
        read_lines (tag ∷ tags) ((cond t ((48 + values % 2) ∷ tag ∷ 10 ∷ []) [] ++ value_lines tags (shown / 2) (values / 2)) ++ rest)
        ≡ record { shown = shown; values = bit_and values shown; rest = rest }
    go true e other more =
        let one : shown % 2 ≡ 1 = eqb-true _ _ e in
        let line : line_of tag ((48 + values % 2) ∷ tag ∷ 10 ∷ (value_lines tags (shown / 2) (values / 2) ++ rest)) ≡ true =
        rw (le-leb 48 (48 + values % 2) (omega arith), le-leb (48 + values % 2) 49 (omega arith), eq-eqb tag tag refl) in
        let p : 1 + 2 * (shown / 2) ≡ shown = omega arith in
        let q : 48 + values % 2 - 48 + 2 * bit_and (values / 2) (shown / 2) ≡ bit_and values shown = omega (arith, and_step values shown) in
        rw (line, more, p, q)
    go false e other more =
        let none : shown % 2 ≡ 0 = omega (arith, eqb-false (shown % 2) 1 e) in
        let p : 2 * (shown / 2) ≡ shown = omega arith in
        let q : 2 * bit_and (values / 2) (shown / 2) ≡ bit_and values shown = omega (arith, and_step values shown) in
        rw (no_line tag _ other, more, p, q)
