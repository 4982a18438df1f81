-- The lines of the reasons, as bytes.
-- In order: the words for a rule, for ticks and for rests; the line of a reason, of each half and of a tick; how long they are.
use Rattle.std.specs.Prelude.{◌≡◌, Bool, cond, ℕ, ◌+◌, ◌≤◌, ◌<◌, eqb, get_or}
use Rattle.std.proofs.Math.Bool.{true, false}
use mathlib.Core.List.{List, [], ◌++◌}
use native.Mathlib.Omega.{arith}
use Rattle.std.proofs.Math.ListN.{length, length-append}
use Rattle.std.proofs.Common.{eq-eqb, ne_eqb}
use Rattle.policy.specs.Rules.{Rule, Policy}
use Rattle.policy.specs.Sound.{WellFormed}
use Rattle.texts.specs.Decimal.{decimal_short}
use Rattle.texts.specs.Text.{ascii, decimal}
use Rattle.asks.specs.Words.{asks}
use Rattle.asks.specs.Turns.{three_length}
use Rattle.asks.specs.Short.{asks_short}
use Rattle.enforcer.specs.Entries.{byte_of}
use Rattle.stepping.specs.Tick.{ReleasedTick}
use Rattle.printing.specs.Text.{event_line}
use Rattle.explaining.specs.Reasons.{Reason, kept, rule, unmatched, ticks, rests, count_of}
use Rattle.explaining.specs.EachHalf.{Reasons}

-- Where there is no rule with a number.
abbrev pub no_rule : Rule
no_rule = record { source = 0; in_care = 0; in_value = 0; out_care = 0; out_value = 0; reset = 0; target = 0; bounds = [] }

-- What the rule with a number asks.
unfoldable pub asks_of : Policy → ℕ → List ℕ
asks_of p i = asks p.inputs p.outputs (get_or p.rules i no_rule)

-- "the number (from 0) of the rule that sent it to 255", and what it asks
unfoldable pub rule_words : Policy → ℕ → List ℕ
rule_words p i = ascii "rule " ++ decimal i ++ ascii " forbids it: " ++ asks_of p i ++ ascii "\n"

-- At most k, with what follows the number: one for 1, and more for any other.
unfoldable pub most_words : (one more : List ℕ) → ℕ → List ℕ
most_words one more k = ascii "after it at most " ++ decimal k ++ cond (eqb k 1) one more

-- "that the stream could have gone on for at most k more ticks after it"
abbrev pub ticks_words : ℕ → List ℕ
ticks_words k = most_words (ascii " more tick\n") (ascii " more ticks\n") k

-- "with at most k later events ending at rest"
unfoldable pub rests_words : ℕ → List ℕ
rests_words k =
    cond (eqb k 0) (ascii "after it never at rest again\n")
    (most_words (ascii " more time at rest\n") (ascii " more times at rest\n") k)

-- In an operator's words: `broken` stands before the words of a violation, and `half` before the others. "It is .. given exactly for an edited half": a half
-- that is kept has no line.
abbrev pub reason_line : Policy → (broken half : List ℕ) → Reason → List ℕ
reason_line p broken half kept = []
reason_line p broken half (rule i) = broken ++ rule_words p i
reason_line p broken half unmatched = broken ++ ascii "no rule allows it\n"
reason_line p broken half (ticks k) = half ++ ticks_words k
reason_line p broken half (rests k) = half ++ rests_words k

-- "For an input, .. that every output is a violation at once, with the reason for the lowest output": a violation is the reason for an input exactly where
-- every output is one (`Every`).
abbrev pub input_line : Policy → Reason → List ℕ
input_line p q = reason_line p (ascii "input: no output will do; with none on, ") (ascii "input: ") q

-- The line of an output: both beginnings are the same.
abbrev pub output_line : Policy → Reason → List ℕ
output_line p q = reason_line p (ascii "output: ") (ascii "output: ") q

-- The lines of both halves, the input's first.
unfoldable pub reason_lines : Policy → Reasons → List ℕ
reason_lines p q = input_line p q.input ++ output_line p q.output

-- The line of `enforce` for the tick, then the reasons.
abbrev pub tick_text : Policy → (number event : ℕ) → ReleasedTick → Reasons → List ℕ
tick_text p number event t q = event_line number event (byte_of t.event) ++ reason_lines p q

-- ---- How long the words are.
-- A tick's text at the most: its line, 21 bytes, and for each half what stands before the words, 40 and 8 bytes, and 152 bytes.
abbrev pub tick_room : ℕ
tick_room = 373

-- A rule that is named is one of n.
abbrev pub Named : ℕ → Reason → Type 0
Named n kept = Unit {0}
Named n (rule i) = i < n
Named n unmatched = Unit {0}
Named n (ticks k) = Unit {0}
Named n (rests k) = Unit {0}

module _ (p : Policy) (i : ℕ) where
  -- How long the words of a violation by a rule are.
  pub rule_length : length (rule_words p i) ≡ 19 + length (decimal i) + length (asks_of p i)
  unfolding rule_words
  rule_length =
      omega (
        arith,
        length-append (ascii "rule " ++ decimal i ++ ascii " forbids it: " ++ asks_of p i) (ascii "\n"),
        length-append (ascii "rule " ++ decimal i ++ ascii " forbids it: ") (asks_of p i),
        three_length (ascii "rule ") (decimal i) (ascii " forbids it: "),
      )

  rule_short : WellFormed p → i < length p.rules → length (rule_words p i) ≤ 152
  unfolding asks_of
  rule_short k l = omega (arith, rule_length, decimal_short i 2 (omega (arith, k.rule_count)), asks_short p k no_rule i l)

module _ (one more : List ℕ) (k : ℕ) where
  -- For 1, what follows the number is `one`.
  pub most_one : k ≡ 1 → most_words one more k ≡ ascii "after it at most " ++ decimal k ++ one
  unfolding most_words
  most_one e = rw (eq-eqb k 1 e)

  -- For any other number it is `more`.
  pub most_more : (k ≡ 1 → ⊥) → most_words one more k ≡ ascii "after it at most " ++ decimal k ++ more
  unfolding most_words
  most_more h = rw (ne_eqb k 1 h)

  most_short : k < 65536 → length one ≤ 20 → length more ≤ 20 → length (most_words one more k) ≤ 42
  unfolding most_words
  most_short l h g = go (eqb k 1)
    where
      counted : (after : List ℕ) → length after ≤ 20 → length (ascii "after it at most " ++ decimal k ++ after) ≤ 42
      counted after m = omega (arith, three_length (ascii "after it at most ") (decimal k) after, decimal_short k 4 (omega arith))

      go : (t : Bool) → length (ascii "after it at most " ++ decimal k ++ cond t one more) ≤ 42
      go true = counted one h
      go false = counted more g

module _ (k : ℕ) where
  -- For 0 the words are that it is never at rest again.
  pub rests_none : k ≡ 0 → rests_words k ≡ ascii "after it never at rest again\n"
  unfolding rests_words
  rests_none e = rw (eq-eqb k 0 e)

  -- For any other number they are how many more times it rests at most.
  pub rests_some : (k ≡ 0 → ⊥) → rests_words k ≡ most_words (ascii " more time at rest\n") (ascii " more times at rest\n") k
  unfolding rests_words
  rests_some h = rw (ne_eqb k 0 h)

  ticks_short : k < 65536 → length (ticks_words k) ≤ 42
  ticks_short l = most_short (ascii " more tick\n") (ascii " more ticks\n") k l (omega arith) (omega arith)

  rests_short : k < 65536 → length (rests_words k) ≤ 42
  unfolding rests_words
  rests_short l = go (eqb k 0)
    where
      go : (t : Bool) → length (cond t (ascii "after it never at rest again\n") (most_words (ascii " more time at rest\n") (ascii " more times at rest\n") k)) ≤ 42
      go true = omega arith
      go false = most_short (ascii " more time at rest\n") (ascii " more times at rest\n") k l (omega arith) (omega arith)

-- A line has at most 152 bytes after what stands before its words.
pub reason_short : (p : Policy) → WellFormed p → (broken half : List ℕ) (q : Reason) → Named (length p.rules) q → count_of q < 65536 →
    length half ≤ length broken → length (reason_line p broken half q) ≤ length broken + 152
reason_short p k broken half kept n l h = omega arith
reason_short p k broken half (rule i) n l h = omega (arith, length-append broken (rule_words p i), rule_short p i k n)
reason_short p k broken half unmatched n l h = omega (arith, length-append broken (ascii "no rule allows it\n"))
reason_short p k broken half (ticks m) n l h = omega (arith, length-append half (ticks_words m), ticks_short m l)
reason_short p k broken half (rests m) n l h = omega (arith, length-append half (rests_words m), rests_short m l)
