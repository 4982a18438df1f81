-- The writer: the lines of a policy.
use Rattle.std.specs.Prelude.{Bool, true, false, cond, ◌||◌, List, [], ◌∷◌, ◌++◌, ℕ, zero, suc, ◌/◌, ◌%◌, ltb, eqb, length}
use Rattle.std.proofs.Math.Option.{Option, none, some}
use Rattle.policy.specs.Rules.{Bound, Rule, Policy}
use Rattle.policy.specs.File.{policy_of}
use Rattle.texts.specs.Text.{ascii, decimal}
use Rattle.wording.specs.Words.{Word, Line, laid}
use Rattle.wording.specs.Names.{is, is_plain, name_of}

-- The name of clock k: t0, t1, ..
abbrev pub clock_name : ℕ → Word
clock_name = name_of 116

-- The name of location k: q0, q1, ..
abbrev pub place_name : ℕ → Word
place_name = name_of 113

-- A line for each clock: its name and its ceiling.
unfoldable pub clock_lines : ℕ → List ℕ → List Line
clock_lines k [] = []
clock_lines k (c ∷ cs) = (ascii "clock" ∷ clock_name k ∷ decimal c ∷ []) ∷ clock_lines (suc k) cs

-- A location's byte of 1 in words.
abbrev pub left_words : Bool → Line
left_words true = ascii "must" ∷ ascii "be" ∷ ascii "left" ∷ []
left_words false = []

-- A line for each location: its name, and whether it must be left.
unfoldable pub location_lines : ℕ → List ℕ → List Line
location_lines k [] = []
location_lines k (b ∷ bs) = (ascii "location" ∷ place_name k ∷ left_words (eqb b 1)) ∷ location_lines (suc k) bs

-- A line for each signal: no names, letters alone.
unfoldable pub signal_lines : Word → List ℕ → List Line
signal_lines word [] = []
signal_lines word (t ∷ ts) = (word ∷ (t ∷ []) ∷ []) ∷ signal_lines word ts

-- Words that are written if a test passes.
abbrev pub when : Bool → Line → Line
when true ws = ws
when false ws = []

-- The lowest bit is set.
abbrev pub odd : ℕ → Bool
odd n = eqb (n % 2) 1

-- The word for a signal: on, or off.
abbrev pub signal_word : ℕ → Bool → Word
signal_word t true = t ∷ []
signal_word t false = 33 ∷ t ∷ []

-- A word for each signal that the rule cares about, in their order.
unfoldable pub signal_words : List ℕ → (care value : ℕ) → Line
signal_words [] care value = []
signal_words (t ∷ ts) care value =
    when (odd care) (signal_word t (odd value) ∷ []) ++ signal_words ts (care / 2) (value / 2)

-- At least n, as `t0 >= 3`.
abbrev pub low_words : ℕ → ℕ → Line
low_words k n = clock_name k ∷ ascii ">=" ∷ decimal n ∷ []

-- At most n, as `t0 <= 4`.
abbrev pub high_words : ℕ → ℕ → Line
high_words k n = clock_name k ∷ ascii "<=" ∷ decimal n ∷ []

-- "a bound only where it says something (low above 0, high other than 65,535)"
unfoldable pub bound_words : ℕ → List Bound → Line
bound_words k [] = []
bound_words k (b ∷ bs) =
    when (ltb 0 b.low) (low_words k b.low)
    ++ (when (ltb b.high 65535) (high_words k b.high) ++ bound_words (suc k) bs)

-- `any` where no condition is left.
abbrev pub or_any : Line → Line
or_any [] = ascii "any" ∷ []
or_any (w ∷ ws) = w ∷ ws

-- The location's name, or `violation` for 255.
unfoldable pub target_word : ℕ → Word
target_word t = cond (eqb t 255) (ascii "violation") (place_name t)

-- The names of n clocks from the k-th on that the mask names.
unfoldable pub reset_names : (k n mask : ℕ) → Line
reset_names k zero mask = []
reset_names k (suc n) mask = when (odd mask) (clock_name k ∷ []) ++ reset_names (suc k) n (mask / 2)

-- `reset` before the names of clocks, if there are any.
abbrev pub after_reset : Line → Line
after_reset [] = []
after_reset (w ∷ ws) = ascii "reset" ∷ w ∷ ws

-- The source is that of the rule before, so that no `at` is due.
abbrev pub is_at : Option ℕ → ℕ → Bool
is_at none source = false
is_at (some before) source = eqb before source

-- An empty line and the `at`, or nothing if the location is the same.
abbrev pub at_lines : Bool → ℕ → List Line
at_lines true source = []
at_lines false source = [] ∷ (ascii "at" ∷ place_name source ∷ []) ∷ []

module _ (p : Policy) where
  -- The conditions of a rule: inputs, outputs, bounds.
  unfoldable pub condition_words : Rule → Line
  condition_words r =
      signal_words p.inputs r.in_care r.in_value
      ++ (signal_words p.outputs r.out_care r.out_value ++ bound_words 0 r.bounds)

  -- The line of a rule.
  unfoldable pub rule_words : Rule → Line
  rule_words r =
      or_any (condition_words r)
      ++ (ascii "->" ∷ target_word r.target ∷ after_reset (reset_names 0 (length p.ceilings) r.reset))

  -- The lines of some rules, each location's behind its `at`.
  unfoldable pub rule_lines : Option ℕ → List Rule → List Line
  rule_lines before [] = []
  rule_lines before (r ∷ rs) = at_lines (is_at before r.source) r.source ++ (rule_words r ∷ rule_lines (some r.source) rs)

  -- All lines, in the order of the file.
  unfoldable pub policy_lines : List Line
  policy_lines =
      signal_lines (ascii "input") p.inputs ++ (signal_lines (ascii "output") p.outputs
      ++ (clock_lines 0 p.ceilings ++ (location_lines 0 p.left ++ rule_lines none p.rules)))

-- Rules stand two spaces in.
abbrev pub margin : Line → ℕ
margin [] = 0
margin (w ∷ ws) = cond (is_plain w || is "any" w) 2 0

-- The text of a policy.
unfoldable pub text_of : Policy → List ℕ
text_of p = laid margin (policy_lines p)

-- The text of a file. A file says no reading, so any will do here.
abbrev pub text_of_file : List ℕ → List ℕ
text_of_file f = text_of (policy_of 1 f)
