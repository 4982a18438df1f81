-- The line of a rule is read as that rule.
-- In order: how the line of a rule begins; the conditions and the arrow; the target and the resets; the bounds; what was declared before; the rule.
use Rattle.std.specs.Prelude.{◌≡◌, Bool, true, false, not, ◌||◌, ◌⊎◌, ℕ, zero, suc, ◌+◌, ◌*◌, ◌/◌, ◌%◌, ◌^◌, ◌≤◌, ◌<◌, ltb, eqb}
use Rattle.std.proofs.Math.Path.{refl, ap}
use Rattle.std.proofs.Common.{sym, ◌∙◌, ⊎_elim, mod-eq_of_lt, pos_of_ne-zero, arith}
use Rattle.std.proofs.Math.Bool.{cond, and-eq-true_iff, or-true}
use Rattle.std.proofs.lemmas.Bool.{false≢true}
use mathlib.Core.List.{List, [], ◌∷◌, ◌++◌, append-nil}
use Rattle.std.proofs.Math.Option.{Option, none, some}
use Rattle.std.proofs.Math.Nat.{add-mul-mod_self_left, add-mul-div_left, div-eq_of_lt}
use Rattle.std.proofs.lemmas.Nat.{and_le_r}
use Rattle.std.proofs.Math.ListN.{length, replicate}
use borrow.Author.Tests.{leb-true, le-leb, lt-ltb, eq-eqb, ne_eqb}
use Rattle.streams.specs.Answer.{Answer, gives}
use Rattle.policy.specs.Rules.{Bound, Rule, Policy}
use Rattle.policy.specs.Check.{all_pass, ceiling_good, bound_good, bounds_good}
use Rattle.policy.specs.Stopped.{AllLawful, lawful_none, lawful_more}
use Rattle.policy.specs.Sound.{WellFormed}
use Rattle.policy.specs.Checked.{Ordered, ordered_more, Ruled}
use Rattle.texts.specs.Text.{ascii, decimal}
use Rattle.wording.specs.Words.{Word, Line}
use Rattle.wording.specs.Names.{same, is, is_plain, known, through, name_of, names_from}
use Rattle.wording.specs.NamesBack.{names_length, find_name, through_none, through_more}
use Rattle.wording.specs.ConditionsBack.{Unnamed, saying, letter_other, signals_read, AllSmall, bounds_read, clearing, resets_read, resets_some}
use Rattle.wording.specs.Reader.{Draft, scope, Begun, Part, opening, more, goes, gone, clears, no_bound, bare, turn}
use Rattle.wording.specs.Reader.{signal, signal_or, on_signal, on_target, condition, word_at, rule_word, ends, rule_of, add_rule, rule_line, read_line}
use Rattle.wording.specs.Writer.{clock_name, when, odd, signal_word, signal_words, bound_words, reset_names, or_any, after_reset, target_word, condition_words, rule_words}

-- No words, or some that begin with a plain one.
pub data Starts : Line → Type 0 where
  starts_none : Starts []
  starts_plain : {w : Word} {ws : Line} → is_plain w ≡ true → Starts (w ∷ ws)

starts_both : {xs ys : Line} → Starts xs → Starts ys → Starts (xs ++ ys)
starts_both starts_none b = b
starts_both (starts_plain h) b = starts_plain h

letter_plain : (t : ℕ) → is_plain (t ∷ []) ≡ true
unfolding is_plain
letter_plain t = simp letter_other

off_plain : (t : ℕ) → is_plain (33 ∷ t ∷ []) ≡ true
unfolding is_plain same
off_plain t = refl

clock_plain : (k : ℕ) → is_plain (clock_name k) ≡ true
unfolding is_plain same name_of
clock_plain k = refl

starts_when : (t : Bool) (w : Word) (ws : Line) → is_plain w ≡ true → Starts (when t (w ∷ ws))
starts_when true w ws h = starts_plain h
starts_when false w ws h = starts_none

starts_signals : (ts : List ℕ) (c v : ℕ) → Starts (signal_words ts c v)
unfolding signal_words
starts_signals [] c v = starts_none
starts_signals (t ∷ ts) c v = starts_both (starts_when (odd c) (signal_word t (odd v)) [] (one (odd v))) (starts_signals ts (c / 2) (v / 2))
  where
    one : (b : Bool) → is_plain (signal_word t b) ≡ true
    one true = letter_plain t
    one false = off_plain t

starts_bounds : (k : ℕ) (bs : List Bound) → Starts (bound_words k bs)
unfolding bound_words
starts_bounds k [] = starts_none
starts_bounds k (b ∷ bs) =
    starts_both (starts_when (ltb 0 b.low) (clock_name k) (ascii ">=" ∷ decimal b.low ∷ []) (clock_plain k))
    (starts_both (starts_when (ltb b.high 65535) (clock_name k) (ascii "<=" ∷ decimal b.high ∷ []) (clock_plain k)) (starts_bounds (suc k) bs))

-- The conditions that are written, if any, begin with a plain word.
pub starts_conditions : (p : Policy) (r : Rule) → Starts (condition_words p r)
unfolding condition_words
starts_conditions p r =
    starts_both (starts_signals p.inputs r.in_care r.in_value)
    (starts_both (starts_signals p.outputs r.out_care r.out_value) (starts_bounds 0 r.bounds))

-- Where neither of two holds, the first fails, and `not` of the second holds.
pub neither : (a b : Bool) → not (a || b) ≡ true → (a ≡ false) × (not b ≡ true)
neither true b h = absurd (false≢true h)
neither false b h = (refl, h)

module _ (w : Word) (h : is_plain w ≡ true) where
  -- A plain word begins no declaration and no `at`, and is neither `any` nor the arrow.
  pub plain_words : (is "input" w ≡ false) × (is "output" w ≡ false) × (is "clock" w ≡ false) × (is "location" w ≡ false) × (is "at" w ≡ false)
      × (is "any" w ≡ false) × (is "->" w ≡ false)
  unfolding is_plain
  plain_words =
      let a = neither (is "input" w) _ h in
      let b = neither (is "output" w) _ a.1 in
      let c = neither (is "clock" w) _ b.1 in
      let d = neither (is "location" w) _ c.1 in
      let e = neither (is "at" w) _ d.1 in
      let f = neither (is "any" w) _ e.1 in
      let g = neither (is "->" w) _ f.1 in
      (a.0, b.0, c.0, d.0, e.0, f.0, g.0)

  plain_line : (d : Draft) (ws : Line) → read_line d (w ∷ ws) ≡ rule_line d (w ∷ ws) d.source
  unfolding read_line
  plain_line d ws =
      let k = plain_words in
      rw (k.0, k.1, k.2, k.3, k.4)

any_line : (d : Draft) (ws : Line) → read_line d (ascii "any" ∷ ws) ≡ rule_line d (ascii "any" ∷ ws) d.source
unfolding read_line same
any_line d ws = refl

-- A line that begins with such conditions, or with `any`, is read as a rule.
pub rule-line : (d : Draft) (ws rest : Line) → Starts ws → read_line d (or_any ws ++ rest) ≡ rule_line d (or_any ws ++ rest) d.source
rule-line d [] rest starts_none = any_line d rest
rule-line d (w ∷ ws) rest (starts_plain h) = plain_line w h d (ws ++ rest)

-- The conditions and the arrow.
module _ (d : Draft) (n : ℕ) where
  abbrev first : Begun
  first = saying 0 0 (replicate n no_bound)

  condition_first : (w : Word) → condition (scope d) (bare n) w ≡ condition (scope d) first w
  unfolding condition on_signal
  condition_first [] = refl
  condition_first (c ∷ cs) = ap (λ (a : Answer Begun). cond (eqb c 33) (known (signal (scope d) cs) (on_signal (bare n) 0)) a) (go (signal (scope d) (c ∷ cs)))
    where
      go : (o : Option ℕ) → signal_or (scope d) (bare n) (c ∷ cs) o ≡ signal_or (scope d) first (c ∷ cs) o
      go none = refl
      go (some i) = refl

  word_first : (w : Word) → is_plain w ≡ true → word_at (scope d) (bare n) opening w ≡ word_at (scope d) first more w
  unfolding word_at
  word_first w h = let k = plain_words w h in rw (k.5, k.6) (condition_first w)

  arrow_read : (b : Begun) (rest : Line) → through (rule_word (scope d)) (turn more b) (ascii "->" ∷ rest) ≡ through (rule_word (scope d)) (turn goes b) rest
  unfolding through word_at same
  arrow_read b rest = refl

  any_read : (rest : Line) → through (rule_word (scope d)) (bare n) (ascii "any" ∷ ascii "->" ∷ rest) ≡ through (rule_word (scope d)) (turn goes first) rest
  unfolding through word_at same
  any_read rest = refl

  plain_read : (w : Word) (ws : Line) → is_plain w ≡ true → through (rule_word (scope d)) (bare n) (w ∷ ws) ≡ through (rule_word (scope d)) first (w ∷ ws)
  unfolding through
  plain_read w ws h = rw (word_first w h)

  -- Conditions and the arrow, or `any` and the arrow, are read: then the target comes.
  pub opened : (ws rest : Line) (care value : ℕ) (bounds : List Bound) → Starts ws → through (rule_word (scope d)) first ws ≡ gives (saying care value bounds) →
      through (rule_word (scope d)) (bare n) (or_any ws ++ (ascii "->" ∷ rest)) ≡ through (rule_word (scope d)) (turn goes (saying care value bounds)) rest
  opened [] rest care value bounds starts_none h =
      let e : gives first ≡ gives (saying care value bounds) = sym (through_none (rule_word (scope d)) first) ∙ h in
      let f : first ≡ saying care value bounds = cc in
      any_read rest ∙ ap (λ (b : Begun). through (rule_word (scope d)) (turn goes b) rest) f
  opened (w ∷ ws) rest care value bounds (starts_plain s) h =
      plain_read w (ws ++ (ascii "->" ∷ rest)) s
      ∙ through_more (rule_word (scope d)) first (saying care value bounds) (w ∷ ws) (ascii "->" ∷ rest) h
      ∙ arrow_read (saying care value bounds) rest

-- The target, and the resets.
target_read : (d : Draft) (locations : ℕ) → d.places ≡ names_from 113 0 locations → (b : Begun) (t : ℕ) → (t < locations) ⊎ (t ≡ 255) → locations ≤ 64 →
    word_at (scope d) b goes (target_word t) ≡ gives (on_target b t)
unfolding word_at same target_word name_of
target_read d locations e b t (◌⊎◌.inl l) h =
    rw (ne_eqb t 255 (λ s. omega arith), e, find_name 113 t 0 locations (omega arith) (omega arith))
target_read d locations e b t (◌⊎◌.inr s) h = rw s

abbrev ended : Part → Begun → ℕ → Begun
ended part b mask =
    record { part = part; care = b.care; value = b.value; bounds = b.bounds; target = b.target; reset = mask }

-- For an empty mask no name is written.
pub resets_none : (k j : ℕ) → reset_names k j 0 ≡ []
unfolding reset_names
resets_none k zero = refl
resets_none k (suc j) = resets_none (suc k) j

some_names : (w : Word) (ws : Line) → w ∷ ws ≡ [] → ⊥
some_names w ws e = let z : ◌≡◌ {A = ℕ} 0 1 = cc in omega arith

module _ (d : Draft) (n : ℕ) (e : d.clocks ≡ names_from 116 0 n) (b : Begun) (m : ℕ) (small : m < 2 ^ n) where
  reset_word : (ws : Line) → through (rule_word (scope d)) (ended gone b 0) (ascii "reset" ∷ ws) ≡ through (rule_word (scope d)) (clearing b 0) ws
  unfolding through word_at same
  reset_word ws = refl

  tail_read : (part : Part) × (through (rule_word (scope d)) (ended gone b 0) (after_reset (reset_names 0 n m)) ≡ gives (ended part b m))
      × (ends (ended part b m) part ≡ true)
  tail_read = go (reset_names 0 n m) refl
    where
      go : (ws : Line) → reset_names 0 n m ≡ ws →
          (part : Part) × (through (rule_word (scope d)) (ended gone b 0) (after_reset ws) ≡ gives (ended part b m)) × (ends (ended part b m) part ≡ true)
      go [] s =
          let z : 0 ≡ m = sym (resets_some 0 n m small s) in
          (gone, through_none (rule_word (scope d)) _ ∙ ap (λ (k : ℕ). gives (ended gone b k)) z, refl)
      go (w ∷ ws) s =
          let all_pass : through (rule_word (scope d)) (clearing b 0) (w ∷ ws) ≡ gives (clearing b (0 + 2 ^ 0 * m)) =
          rw s at (resets_read d n e b 0 n m 0 (omega arith) small (omega arith)) in
          let sum : 0 + 2 ^ 0 * m ≡ m = omega arith in
          let some_one : 0 < m = pos_of_ne-zero (λ z. some_names w ws (sym s ∙ rw z (resets_none 0 n))) in
          (clears, reset_word (w ∷ ws) ∙ all_pass ∙ ap (λ (k : ℕ). gives (clearing b k)) sum, lt-ltb 0 m some_one)

-- No bound of a rule is above 65,535.
pub small_bounds : {cs : List ℕ} {bs : List Bound} → all_pass ceiling_good cs ≡ true → AllLawful cs bs → AllSmall bs
unfolding all_pass
small_bounds h lawful_none = tt
small_bounds h (lawful_more {c = c} {b = b} l ls) =
    let good = simp and-eq-true_iff at h in
    let limit : c ≤ 1001 = omega (arith, leb-true) in
    let high : b.high ≤ 65535 = ⊎_elim (λ (k : b.high < c). omega arith) (λ (k : b.high ≡ 65535). omega arith) l.high in
    (omega arith, high, small_bounds good.1 ls)

-- A high that is below its ceiling, or 65,535, passes the test.
high_fits : (c high : ℕ) → (high < c) ⊎ (high ≡ 65535) → (ltb high c || eqb high 65535) ≡ true
high_fits c high (◌⊎◌.inl l) = rw (lt-ltb high c l)
high_fits c high (◌⊎◌.inr e) = rw (eq-eqb high 65535 e) (or-true (ltb high c))

bounds_fit : {cs : List ℕ} {bs : List Bound} → Ordered bs → AllLawful cs bs → bounds_good cs bs ≡ true
unfolding bounds_good bound_good
bounds_fit o lawful_none = refl
bounds_fit (ordered_more o os) (lawful_more {c = c} {b = b} l ls) =
    rw (le-leb b.low b.high o, le-leb b.low c l.low, high_fits c b.high l.high) (bounds_fit os ls)

-- The draft has what the lines before the rules say.
pub record Declared (p : Policy) (d : Draft) : Type 0 where
  pub inputs : d.inputs ≡ p.inputs
  pub outputs : d.outputs ≡ p.outputs
  pub clocks : d.clocks ≡ names_from 116 0 (length p.ceilings)
  pub places : d.places ≡ names_from 113 0 p.locations
  pub unnamed : Unnamed d
  pub ceilings : d.ceilings ≡ p.ceilings

-- The rule.
module _ (p : Policy) (w : WellFormed p) (d : Draft) (k : Declared p d) (r : Rule)
    (ruled : Ruled (length p.inputs) (length p.outputs) p.ceilings p.locations r) where
  abbrev care : ℕ
  care = r.in_care + 2 ^ length p.inputs * r.out_care

  abbrev value : ℕ
  value = r.in_value + 2 ^ length p.inputs * r.out_value

  signals_in : d.inputs ++ d.outputs ≡ p.inputs ++ p.outputs
  signals_in = rw (k.inputs, k.outputs)

  inputs_read : (bounds : List Bound) → through (rule_word (scope d)) (saying 0 0 bounds) (signal_words p.inputs r.in_care r.in_value)
      ≡ gives (saying r.in_care r.in_value bounds)
  inputs_read bounds =
      let c : 0 + 2 ^ 0 * r.in_care ≡ r.in_care = omega arith in
      let v : 0 + 2 ^ 0 * r.in_value ≡ r.in_value = omega arith in
      signals_read d [] p.inputs p.outputs signals_in w.input_tags r.in_care r.in_value ruled.in_care ruled.formed.inputs 0 0 (omega arith) bounds
      ∙ (λ i. gives (saying (c i) (v i) bounds))

  outputs_read : (bounds : List Bound) → through (rule_word (scope d)) (saying r.in_care r.in_value bounds) (signal_words p.outputs r.out_care r.out_value)
      ≡ gives (saying care value bounds)
  outputs_read =
      signals_read d p.inputs p.outputs [] (signals_in ∙ ap (λ (z : List ℕ). p.inputs ++ z) (sym (append-nil p.outputs))) w.output_tags
      r.out_care r.out_value ruled.out_care ruled.formed.outputs r.in_care r.in_value ruled.in_care

  conditions_read : through (rule_word (scope d)) (saying 0 0 (replicate (length p.ceilings) no_bound)) (condition_words p r) ≡ gives (saying care value r.bounds)
  unfolding condition_words
  conditions_read =
      let none = replicate (length p.ceilings) no_bound in
      let bounds = bounds_read d (length p.ceilings) k.clocks k.unnamed care value [] r.bounds (omega (arith, ruled.formed.bounds)) (small_bounds w.ceilings ruled.lawful) in
      through_more (rule_word (scope d)) _ _ _ _ (inputs_read none)
      ∙ (through_more (rule_word (scope d)) _ _ _ _ (outputs_read none)
      ∙ (rw ruled.formed.bounds at bounds))

  -- The masks apart again.
  inputs_small : (r.in_care < 2 ^ length p.inputs) × (r.in_value < 2 ^ length p.inputs)
  inputs_small = (ruled.in_care, omega (arith, and_le_r r.in_value r.in_care, ruled.in_care, ruled.formed.inputs))

  low_part : (a b : ℕ) → a < 2 ^ length p.inputs → (a + 2 ^ length p.inputs * b) % 2 ^ length p.inputs ≡ a
  low_part a b h = add-mul-mod_self_left a (2 ^ length p.inputs) b ∙ mod-eq_of_lt h

  high_part : (a b : ℕ) → a < 2 ^ length p.inputs → (a + 2 ^ length p.inputs * b) / 2 ^ length p.inputs ≡ b
  high_part a b h =
      let z = div-eq_of_lt h in
      add-mul-div_left a b (omega arith) ∙ omega arith

  abbrev said : Part → Begun
  said part = record { part = part; care = care; value = value; bounds = r.bounds; target = r.target; reset = r.reset }

  rule_said : (part : Part) → rule_of d r.source (said part) ≡ r
  unfolding rule_of
  rule_said part =
      let ic = low_part r.in_care r.out_care inputs_small.0 in
      let iv = low_part r.in_value r.out_value inputs_small.1 in
      let oc = high_part r.in_care r.out_care inputs_small.0 in
      let ov = high_part r.in_value r.out_value inputs_small.1 in
      rw k.inputs
      (λ i.
      record {
        source = r.source;
        in_care = ic i;
        in_value = iv i;
        out_care = oc i;
        out_value = ov i;
        reset = r.reset;
        target = r.target;
        bounds = r.bounds;
      })

  target-word : (rest : Line) → through (rule_word (scope d)) (turn goes (saying care value r.bounds)) (target_word r.target ∷ rest)
      ≡ through (rule_word (scope d)) (record { part = gone; care = care; value = value; bounds = r.bounds; target = r.target; reset = 0 }) rest
  unfolding through on_target
  target-word rest =
      rw (target_read d p.locations k.places (turn goes (saying care value r.bounds)) r.target ruled.formed.target w.locations)

  words_read : (part : Part) × (through (rule_word (scope d)) (bare (length p.ceilings)) (rule_words p r) ≡ gives (said part)) × (ends (said part) part ≡ true)
  unfolding rule_words
  words_read =
      let n = length p.ceilings in
      let tail = tail_read d n k.clocks (said gone) r.reset ruled.formed.reset in
      let head = opened d n (condition_words p r) _ care value r.bounds (starts_conditions p r) conditions_read in
      (tail.0, head ∙ (target-word _ ∙ tail.1), tail.2)

  clock-count : length d.clocks ≡ length p.ceilings
  clock-count = rw k.clocks (names_length 116 0 (length p.ceilings))

  fits : bounds_good d.ceilings r.bounds ≡ true
  fits = rw k.ceilings (bounds_fit ruled.ordered ruled.lawful)

  rule_made : length d.rules < 256 → (part : Part) →
      through (rule_word (scope d)) (bare (length p.ceilings)) (rule_words p r) ≡ gives (said part) → ends (said part) part ≡ true →
      rule_line d (rule_words p r) (some r.source) ≡ gives (add_rule d r)
  unfolding rule_line
  rule_made room part read ends = rw (clock-count, read, ends, fits, lt-ltb (length d.rules) 256 room, rule_said part)

  -- The line that is written for a rule adds that rule.
  pub rule_read : d.source ≡ some r.source → length d.rules < 256 → read_line d (rule_words p r) ≡ gives (add_rule d r)
  unfolding rule_words
  rule_read source room =
      let read = words_read in
      rule-line d (condition_words p r) _ (starts_conditions p r) ∙ ap (rule_line d (rule_words p r)) source
      ∙ rule_made room read.0 read.1 read.2
