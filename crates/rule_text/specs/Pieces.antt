-- The lines of rules as the pieces that the code writes one after another.
-- In order: words with a space before each; the bounds; the clocks that are reset; the target; the conditions; a rule's line; all rules.
use Rattle.std.specs.Prelude.{◌≡◌, refl, Bool, true, false, cond, List, [], ◌∷◌, ◌++◌, ltb, eqb, length}
use Rattle.std.proofs.Common.{ap, ap₂, sym, ◌∙◌, append_assoc, append-nil, eqb-true, lt-ltb, le-ltb}
use Prim.Native.Nat.{ℕ, suc, ◌+◌, ◌-◌, ◌*◌, ◌/◌, ◌%◌, ◌^◌, ◌≤◌, ◌<◌}
use native.Mathlib.Omega.{arith}
use Rattle.std.proofs.lemmas.Bool.{eqb-false}
use Rattle.policy.specs.Rules.{Rule}
use Rattle.policy.specs.File.{byte_at, pair_at, bounds_from, rule_size, rule_from, rules_from}
use Rattle.texts.specs.Text.{ascii, decimal}
use Rattle.wording.specs.Words.{Word, Line, spaced_out}
use Rattle.wording.specs.Names.{name_of}
use Rattle.wording.specs.RuleBack.{resets_none}
use Rattle.wording.specs.ConditionsBack.{resets_some}
use Rattle.wording.specs.Writer.{clock_name, when, odd, signal_words, low_words, high_words, bound_words, reset_names, after_reset}
use Rattle.rule_text.specs.Trail.{trailing, trailing_both}

-- Words, each with a space before it.
unfoldable pub leading : Line → List ℕ
leading [] = []
leading (w ∷ ws) = (32 ∷ w) ++ leading ws

leading_both : (xs ys : Line) → leading (xs ++ ys) ≡ leading xs ++ leading ys
unfolding leading
leading_both [] ys = refl
leading_both (x ∷ xs) ys = rw (leading_both xs ys) (sym (append_assoc (32 ∷ x) (leading xs) (leading ys)))

-- A line is its first word, then the others with a space before each.
pub spaced_leading : (v : Word) (vs : Line) → spaced_out (v ∷ vs) ≡ v ++ leading vs
unfolding spaced_out leading
spaced_leading v [] = sym (append-nil v)
spaced_leading v (w ∷ ws) = ap (λ (z : List ℕ). v ++ (32 ∷ z)) (spaced_leading w ws)

-- The bounds of a rule.
abbrev pub limit_piece : (sign : List ℕ) (k n : ℕ) → List ℕ
limit_piece sign k n = (ascii "t" ++ decimal k ++ sign) ++ (decimal n ++ ascii " ")

-- The low of clock k as `t0 >= 3` with a space after it, or nothing for 0.
abbrev pub low_piece : (k low : ℕ) → List ℕ
low_piece k low = cond (eqb low 0) [] (limit_piece (ascii " >= ") k low)

-- The high of clock k as `t0 <= 4` with a space after it, or nothing for 65,535.
abbrev pub high_piece : (k high : ℕ) → List ℕ
high_piece k high = cond (eqb high 65535) [] (limit_piece (ascii " <= ") k high)

-- Both bounds of clock k, the low first.
abbrev pub bound_piece : (k low high : ℕ) → List ℕ
bound_piece k low high = low_piece k low ++ high_piece k high

-- The text of the bounds from clock i on; those of n clocks stand in the file from `from` on.
abbrev pub bounds_on : (f : List ℕ) (from n i : ℕ) → List ℕ
bounds_on f from n i = trailing (bound_words i (bounds_from f (from + 4 * i) (n - i)))

-- Before the first clock the text of all bounds is left.
pub bounds_start : (f : List ℕ) (from n : ℕ) → bounds_on f from n 0 ≡ trailing (bound_words 0 (bounds_from f from n))
bounds_start f from n = let a : from + 4 * 0 ≡ from = omega arith in let e : n - 0 ≡ n = omega arith in rw (a, e)

low-piece : (k n : ℕ) → trailing (when (ltb 0 n) (low_words k n)) ≡ low_piece k n
unfolding trailing name_of
low-piece k n = go (eqb n 0) refl
  where
    go : (t : Bool) → eqb n 0 ≡ t → trailing (when (ltb 0 n) (low_words k n)) ≡ cond t [] (limit_piece (ascii " >= ") k n)
    go true e = rw (le-ltb 0 n (omega (arith, eqb-true n 0 e)))
    go false e = let f = eqb-false n 0 e in rw (lt-ltb 0 n (omega arith)) (simp append_assoc)

high-piece : (k n : ℕ) → n < 65536 → trailing (when (ltb n 65535) (high_words k n)) ≡ high_piece k n
unfolding trailing name_of
high-piece k n h = go (eqb n 65535) refl
  where
    go : (t : Bool) → eqb n 65535 ≡ t → trailing (when (ltb n 65535) (high_words k n)) ≡ cond t [] (limit_piece (ascii " <= ") k n)
    go true e = rw (le-ltb n 65535 (omega (arith, eqb-true n 65535 e)))
    go false e = let f = eqb-false n 65535 e in rw (lt-ltb n 65535 (omega arith)) (simp append_assoc)

-- One turn: the bounds of clock i are written, and those from i + 1 on are left.
pub bounds_turn : (f : List ℕ) (from n i : ℕ) {low high : ℕ} → i < n → low ≡ pair_at f (from + 4 * i) → high ≡ pair_at f (from + 4 * i + 2) → high < 65536 →
    bounds_on f from n i ≡ bound_piece i low high ++ bounds_on f from n (i + 1)
unfolding bound_words bounds_from
bounds_turn f from n i {low} {high} l p q h =
    let e : n - i ≡ suc (n - (i + 1)) = omega arith in
    let s : from + 4 * i + 4 ≡ from + 4 * (i + 1) = omega arith in
    let t : suc i ≡ i + 1 = omega arith in
    rw (e, s, t, ← p, ← q)
    (trailing_both (when (ltb 0 low) (low_words i low)) _
    ∙ ap₂ {C = List ℕ} ◌++◌ (low-piece i low) (trailing_both (when (ltb high 65535) (high_words i high)) _ ∙ ap (λ (z : List ℕ). z ++ bounds_on f from n (i + 1)) (high-piece i high h))
    ∙ sym (append_assoc (low_piece i low) (high_piece i high) (bounds_on f from n (i + 1))))

-- After the last clock nothing is left.
pub bounds_end : (f : List ℕ) (from n i : ℕ) → n ≤ i → bounds_on f from n i ≡ []
unfolding bound_words bounds_from trailing
bounds_end f from n i l = let e : n - i ≡ 0 = omega arith in rw e

-- The names of the clocks that a rule resets.
abbrev pub reset_piece : (k mask : ℕ) → List ℕ
reset_piece k mask = cond (eqb (mask % 2) 1) (ascii " t" ++ decimal k) []

reset-piece : (k mask : ℕ) → leading (when (odd mask) (clock_name k ∷ [])) ≡ reset_piece k mask
unfolding leading name_of
reset-piece k mask = go (eqb (mask % 2) 1)
  where
    go : (t : Bool) → leading (when t (clock_name k ∷ [])) ≡ cond t (ascii " t" ++ decimal k) []
    go true = append-nil _
    go false = refl

-- One turn: clock i is named if its bit is set, and the mask is halved.
pub resets_turn : (n i mask : ℕ) → i < n → leading (reset_names i (n - i) mask) ≡ reset_piece i mask ++ leading (reset_names (i + 1) (n - (i + 1)) (mask / 2))
unfolding reset_names
resets_turn n i mask h =
    let e : n - i ≡ suc (n - (i + 1)) = omega arith in
    let t : suc i ≡ i + 1 = omega arith in
    rw (e, t) (leading_both (when (odd mask) (clock_name i ∷ [])) _ ∙ ap (λ (z : List ℕ). z ++ leading (reset_names (i + 1) (n - (i + 1)) (mask / 2))) (reset-piece i mask))

-- After the last clock no name is left.
pub resets_end : (n i mask : ℕ) → n ≤ i → leading (reset_names i (n - i) mask) ≡ []
unfolding reset_names leading
resets_end n i mask h = let e : n - i ≡ 0 = omega arith in rw e

-- Before the first clock all names are left.
pub resets_start : (n mask : ℕ) → leading (reset_names 0 (n - 0) mask) ≡ leading (reset_names 0 n mask)
resets_start n mask = let e : n - 0 ≡ n = omega arith in rw e

-- All that stands behind the target.
abbrev pub clear_piece : (n mask : ℕ) → List ℕ
clear_piece n mask = cond (eqb mask 0) [] (ascii " reset" ++ leading (reset_names 0 n mask))

-- The words from `reset` on are this piece, if the mask has no bit beyond the n clocks.
pub clear-piece : (n mask : ℕ) → mask < 2 ^ n → leading (after_reset (reset_names 0 n mask)) ≡ clear_piece n mask
unfolding leading
clear-piece n mask h = go (eqb mask 0) refl
  where
    names : (ws : Line) → (ws ≡ [] → ⊥) → leading (after_reset ws) ≡ ascii " reset" ++ leading ws
    names [] f = absurd (f refl)
    names (w ∷ ws) f = refl

    go : (t : Bool) → eqb mask 0 ≡ t → leading (after_reset (reset_names 0 n mask)) ≡ cond t [] (ascii " reset" ++ leading (reset_names 0 n mask))
    go true e = let z = eqb-true mask 0 e in rw (z, resets_none 0 n)
    go false e = names (reset_names 0 n mask) (λ z. eqb-false mask 0 e (resets_some 0 n mask h z))

-- The target.
abbrev pub target_piece : ℕ → List ℕ
target_piece t = cond (eqb t 255) (ascii "-> violation") (ascii "-> q" ++ decimal t)

-- The conditions, or `any`.
abbrev pub condition_text : (inputs outputs : List ℕ) → Rule → List ℕ
condition_text inputs outputs r =
    trailing (signal_words inputs r.in_care r.in_value) ++ trailing (signal_words outputs r.out_care r.out_value) ++ trailing (bound_words 0 r.bounds)

-- `any` after conditions that are empty, and nothing after others.
abbrev pub any_piece : List ℕ → List ℕ
any_piece [] = ascii "any "
any_piece (c ∷ cs) = []

-- What stands before the arrow: the conditions, or `any`.
abbrev pub condition_piece : (inputs outputs : List ℕ) → Rule → List ℕ
condition_piece inputs outputs r = condition_text inputs outputs r ++ any_piece (condition_text inputs outputs r)

-- What stands from the arrow to the end of the line.
abbrev pub end_piece : (target clocks mask : ℕ) → List ℕ
end_piece target clocks mask = target_piece target ++ clear_piece clocks mask ++ ascii "\n"

-- The line of a rule, two spaces in.
abbrev pub rule_piece : (inputs outputs : List ℕ) (clocks : ℕ) → Rule → List ℕ
rule_piece inputs outputs clocks r = ascii "  " ++ condition_piece inputs outputs r ++ end_piece r.target clocks r.reset

-- Written with the mask and the target from the file, it is the line of the rule that stands there.
pub rule_made : (inputs outputs f : List ℕ) (clocks rule : ℕ) {mask target : ℕ} → mask ≡ byte_at f (rule + 5) → target ≡ byte_at f (rule + 6) →
    ascii "  " ++ condition_piece inputs outputs (rule_from clocks f rule) ++ end_piece target clocks mask ≡ rule_piece inputs outputs clocks (rule_from clocks f rule)
unfolding rule_from
rule_made inputs outputs f clocks rule e g = rw (e, g)

-- An empty line and the `at` of a location, unless the rule before has the same one.
abbrev pub at_piece : (before source : ℕ) → List ℕ
at_piece before source = cond (eqb before source) [] (ascii "\nat q" ++ decimal source ++ ascii "\n")

-- The text of some rules; the rule before them is at the location `before`.
unfoldable pub rule_text : (inputs outputs : List ℕ) (clocks before : ℕ) → List Rule → List ℕ
rule_text inputs outputs clocks before [] = []
rule_text inputs outputs clocks before (r ∷ rs) =
    (at_piece before r.source ++ rule_piece inputs outputs clocks r) ++ rule_text inputs outputs clocks r.source rs

-- The rules that are left after i of n, from the position `here` on.
abbrev pub rules_on : (inputs outputs f : List ℕ) (clocks before here n i : ℕ) → List ℕ
rules_on inputs outputs f clocks before here n i = rule_text inputs outputs clocks before (rules_from clocks f here (n - i))

module _ (inputs outputs f : List ℕ) (clocks before here n : ℕ) where
  -- Before the first rule the text of all n is left.
  pub rules-start : rules_on inputs outputs f clocks before here n 0 ≡ rule_text inputs outputs clocks before (rules_from clocks f here n)
  rules-start = let e : n - 0 ≡ n = omega arith in rw e

  -- One turn: a rule is written with its `at`, and the rules behind it in the file are left.
  pub rules_turn : (i : ℕ) {source : ℕ} → i < n → source ≡ byte_at f here →
      rules_on inputs outputs f clocks before here n i
      ≡ (at_piece before source ++ rule_piece inputs outputs clocks (rule_from clocks f here)) ++ rules_on inputs outputs f clocks source (here + rule_size clocks) n (i + 1)
  unfolding rule_text rules_from rule_from
  rules_turn i {source} l e = let k : n - i ≡ suc (n - (i + 1)) = omega arith in rw (k, e)

  -- After the last rule nothing is left.
  pub rules-end : (i : ℕ) → n ≤ i → rules_on inputs outputs f clocks before here n i ≡ []
  unfolding rule_text rules_from
  rules-end i l = let e : n - i ≡ 0 = omega arith in rw e

-- Whether a condition was written, by how long it is.
pub any_other : (t : List ℕ) → (length t ≡ 0 → ⊥) → t ≡ t ++ any_piece t
any_other [] h = absurd (h refl)
any_other (c ∷ cs) h = sym (append-nil (c ∷ cs))

-- Where no condition was written there is `any`.
pub any_alone : (t : List ℕ) → length t ≡ 0 → any_piece t ≡ ascii "any "
any_alone [] h = refl
any_alone (c ∷ cs) h = absurd (omega arith)
