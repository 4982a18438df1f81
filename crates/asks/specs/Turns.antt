-- The words from a signal or a clock on, and how long words are that stand in parts.
use Rattle.std.specs.Prelude.{◌≡◌, refl, List, [], ◌++◌, ℕ, suc, ◌+◌, ◌-◌, ◌*◌, ◌/◌, ◌%◌, ◌≤◌, ◌<◌, length, get_or, drop}
use Rattle.std.proofs.Common.{ap, ◌∙◌, add-one, arith, length-append, drop_of_length-le, drop-cons}
use borrow.Author.Tests.{eq-eqb, ne_eqb}
use Rattle.policy.specs.File.{byte_at, pair_at, bounds_from, rule_from}
use Rattle.texts.specs.Text.{ascii, decimal}
use Rattle.asks.specs.Words.{name, names, signals, cared, clock, bound, bounds, location, asks}

-- From the i-th signal on: its name if the mask has it, and those after it.
pub names_turn : (tags : List ℕ) (i mask : ℕ) → i < length tags →
    names (drop i tags) mask ≡ name (get_or tags i 0) mask ++ names (drop (i + 1) tags) (mask / 2)
unfolding names
names_turn tags i mask h = rw (add-one, drop-cons tags i 0 h)

-- Past the last signal there is no name.
pub names_end : (tags : List ℕ) (i mask : ℕ) → length tags ≤ i → names (drop i tags) mask ≡ []
unfolding names
names_end tags i mask h = rw (drop_of_length-le tags h)

-- The bounds from the clock i on, of all k.
abbrev pub bounds_on : (f : List ℕ) (k i : ℕ) → List ℕ
bounds_on f k i = bounds i (bounds_from f (7 + 4 * i) (k - i))

-- From the first clock on: all of them.
pub bounds_start : (f : List ℕ) (k : ℕ) → bounds_on f k 0 ≡ bounds 0 (bounds_from f 7 k)
bounds_start f k = let e : k - 0 ≡ k = omega arith in rw e

-- From the clock i on: its words, and those of the clocks after it.
pub bounds_turn : (f : List ℕ) (k i : ℕ) {low high : ℕ} → i < k → low ≡ pair_at f (7 + 4 * i) → high ≡ pair_at f (9 + 4 * i) →
    bounds_on f k i ≡ bound i low high ++ bounds_on f k (i + 1)
unfolding bounds bounds_from
bounds_turn f k i l p q =
    let e : k - i ≡ suc (k - (i + 1)) = omega arith in
    let s : 7 + 4 * i + 4 ≡ 7 + 4 * (i + 1) = omega arith in
    let t : 7 + 4 * i + 2 ≡ 9 + 4 * i = omega arith in
    rw (p, q, e, s, t)

-- Past the last clock there are no words.
pub bounds_end : (f : List ℕ) (k i : ℕ) → k ≤ i → bounds_on f k i ≡ []
unfolding bounds bounds_from
bounds_end f k i l = let e : k - i ≡ 0 = omega arith in rw e

-- How long they are, part by part.
pub three_length : (a b c : List ℕ) → length (a ++ b ++ c) ≡ length a + length b + length c
three_length a b c = simp length-append refl

-- A signal that the mask names takes two bytes.
pub name_length : (tag mask : ℕ) → mask % 2 ≡ 1 → length (name tag mask) ≡ 2
name_length tag mask e = rw (eq-eqb (mask % 2) 1 e)

-- The location takes 12 bytes and its digits.
pub location_length : (n : ℕ) → length (location n) ≡ 12 + length (decimal n)
unfolding location
location_length n = length-append (ascii "at location ") (decimal n)

-- A clock with its low takes 14 bytes and the digits of both.
pub clock_length : (n low : ℕ) → length (clock n low) ≡ 14 + length (decimal n) + length (decimal low)
clock_length n low =
    omega (arith, length-append (ascii ", clock " ++ decimal n ++ ascii " from ") (decimal low), three_length (ascii ", clock ") (decimal n) (ascii " from "))

-- What is said of a clock, by its bounds.
module _ (n low high : ℕ) where
  -- With an upper bound: from low to high.
  pub bound_to : (high ≡ 65535 → ⊥) → bound n low high ≡ clock n low ++ ascii " to " ++ decimal high
  unfolding bound
  bound_to h = rw (ne_eqb high 65535 h)

  -- Without bounds: nothing.
  pub bound_none : high ≡ 65535 → low ≡ 0 → bound n low high ≡ []
  unfolding bound
  bound_none h e = rw (eq-eqb high 65535 h, eq-eqb low 0 e)

  -- With a lower bound alone: from low on.
  pub bound_on : high ≡ 65535 → (low ≡ 0 → ⊥) → bound n low high ≡ clock n low ++ ascii " on"
  unfolding bound
  bound_on h e = rw (eq-eqb high 65535 h, ne_eqb low 0 e)

  -- How long the words are with an upper bound.
  pub to_length : (high ≡ 65535 → ⊥) → length (bound n low high) ≡ length (clock n low) + 4 + length (decimal high)
  to_length h = ap length (bound_to h) ∙ three_length (clock n low) (ascii " to ") (decimal high)

  -- How long the words are with a lower bound alone.
  pub on_length : high ≡ 65535 → (low ≡ 0 → ⊥) → length (bound n low high) ≡ length (clock n low) + 3
  on_length h e = ap length (bound_on h e) ∙ length-append (clock n low) (ascii " on")

-- What is said of the signals, by the masks.
module _ (inputs outputs : List ℕ) (x y : ℕ) (word : List ℕ) where
  -- Masks that name no signal: nothing.
  pub signals_none : x + y ≡ 0 → signals inputs outputs x y word ≡ []
  unfolding signals
  signals_none e = rw (eq-eqb (x + y) 0 e)

  -- Masks that name some: a comma, the names of the inputs and of the outputs, and the word.
  pub signals_some : (x + y ≡ 0 → ⊥) → signals inputs outputs x y word ≡ ascii "," ++ names inputs x ++ names outputs y ++ word
  unfolding signals
  signals_some h = rw (ne_eqb (x + y) 0 h)

  -- How long the words are, where masks name some signals.
  pub signals_length : (x + y ≡ 0 → ⊥) → length (signals inputs outputs x y word) ≡ 1 + length (names inputs x) + length (names outputs y) + length word
  signals_length h =
      omega (
        arith,
        ap length (signals_some h),
        length-append (ascii "," ++ names inputs x ++ names outputs y) word,
        three_length (ascii ",") (names inputs x) (names outputs y),
      )

-- By the bytes of a rule.
module _ (inputs outputs rule : List ℕ) where
  -- The signals that must be on, then those that must be off.
  pub cared_parts : {a x b y : ℕ} → x ≡ byte_at rule 2 → y ≡ byte_at rule 4 → a ≡ byte_at rule 1 → b ≡ byte_at rule 3 →
      cared inputs outputs (byte_at rule 1) (byte_at rule 2) (byte_at rule 3) (byte_at rule 4)
      ≡ signals inputs outputs x y (ascii " on") ++ signals inputs outputs (a - x) (b - y) (ascii " off")
  unfolding cared
  cared_parts e f g h = rw (e, f, g, h)

  -- How long both are together.
  pub cared_length : {a x b y : ℕ} → x ≡ byte_at rule 2 → y ≡ byte_at rule 4 → a ≡ byte_at rule 1 → b ≡ byte_at rule 3 →
      length (cared inputs outputs (byte_at rule 1) (byte_at rule 2) (byte_at rule 3) (byte_at rule 4))
      ≡ length (signals inputs outputs x y (ascii " on")) + length (signals inputs outputs (a - x) (b - y) (ascii " off"))
  cared_length {a} {x} {b} {y} e f g h =
      ap length (cared_parts e f g h) ∙ length-append (signals inputs outputs x y (ascii " on")) (signals inputs outputs (a - x) (b - y) (ascii " off"))

  -- What the rule asks: its location, its signals and its clocks.
  pub asks_parts : (clocks : ℕ) {n : ℕ} → n ≡ byte_at rule 0 →
      asks inputs outputs (rule_from clocks rule 0)
      ≡ location n ++ cared inputs outputs (byte_at rule 1) (byte_at rule 2) (byte_at rule 3) (byte_at rule 4) ++ bounds 0 (bounds_from rule 7 clocks)
  unfolding asks rule_from
  asks_parts clocks e = rw e

  -- How long the three are together.
  pub asks_length : (clocks : ℕ) {n : ℕ} → n ≡ byte_at rule 0 →
      length (asks inputs outputs (rule_from clocks rule 0))
      ≡ length (location n) + length (cared inputs outputs (byte_at rule 1) (byte_at rule 2) (byte_at rule 3) (byte_at rule 4)) + length (bounds 0 (bounds_from rule 7 clocks))
  asks_length clocks {n} e =
      ap length (asks_parts clocks e)
      ∙ three_length (location n) (cared inputs outputs (byte_at rule 1) (byte_at rule 2) (byte_at rule 3) (byte_at rule 4)) (bounds 0 (bounds_from rule 7 clocks))
