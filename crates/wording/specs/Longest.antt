-- How long a written text can be.
-- In order: the bytes of words and of lines; names and numbers; the declarations; the words of a rule; the rules; the whole text.
use Rattle.std.specs.Prelude.{◌≡◌, Bool, ◌||◌, ◌⊎◌, ℕ, zero, suc, ◌+◌, ◌-◌, ◌*◌, ◌/◌, ◌≤◌, ◌<◌, leb, ltb, length}
use Rattle.std.proofs.Math.Path.{refl}
use Rattle.std.proofs.Common.{◌∙◌, ⊎_elim, length-append}
use Rattle.std.proofs.Math.Bool.{true, false, cond, and-eq-true_iff}
use mathlib.Core.List.{List, [], ◌∷◌, ◌++◌}
use Rattle.std.proofs.Math.Option.{Option, none, some}
use native.Mathlib.Omega.{arith}
use Rattle.std.proofs.Math.Dec.{eqb}
use Rattle.std.proofs.lemmas.List.{length-replicate}
use borrow.Author.Tests.{leb-true, ltb-true, eqb-true, eqb-false}
use Rattle.policy.specs.Rules.{Bound, Rule, Policy}
use Rattle.policy.specs.File.{policy_of}
use Rattle.policy.specs.Check.{all_pass, ceiling_good, refusal_of}
use Rattle.policy.specs.Sound.{WellFormed, Each, each_none, each_more}
use Rattle.policy.specs.Stopped.{AllLawful, lawful_none, lawful_more}
use Rattle.policy.specs.Checked.{Rising, rising_none, rising_more, Ruled, well_rising, well_ruled, checked_file}
use Rattle.texts.specs.Text.{ascii, decimal}
use Rattle.texts.specs.Decimal.{decimal_short}
use Rattle.wording.specs.Words.{Word, Line, spaced_out, laid}
use Rattle.wording.specs.Names.{same, is, is_plain, name_of}
use Rattle.wording.specs.Writer.{clock_name, place_name, clock_lines, left_words, location_lines, signal_lines, when, odd, signal_word, signal_words, low_words, high_words, bound_words}
use Rattle.wording.specs.Writer.{or_any, target_word, reset_names, after_reset, is_at, at_lines, condition_words, rule_words, rule_lines, policy_lines, margin, text_of, text_of_file}

-- The bytes of words, each with one byte after it: a space or the line's end.
unfoldable room : Line → ℕ
room [] = 0
room (w ∷ ws) = length w + 1 + room ws

-- The bytes of lines.
abbrev size : List Line → ℕ
size ls = length (laid margin ls)

words_long : (w : Word) (ws : Line) → length (spaced_out (w ∷ ws)) + 1 ≡ room (w ∷ ws)
unfolding spaced_out room
words_long w [] = omega arith
words_long w (v ∷ ws) = rw length-append (omega (arith, words_long v ws))

line_long : (w : Word) (ws : Line) (ls : List Line) → size ((w ∷ ws) ∷ ls) ≡ margin (w ∷ ws) + room (w ∷ ws) + size ls
unfolding laid
line_long w ws ls = simp (length-append, length-replicate) (omega (arith, words_long w ws))

blank_long : (ls : List Line) → size ([] ∷ ls) ≡ 1 + size ls
unfolding laid spaced_out
blank_long ls = omega arith

room_both : (vs ws : Line) → room (vs ++ ws) ≡ room vs + room ws
unfolding room
room_both [] ws = omega arith
room_both (v ∷ vs) ws = omega (arith, room_both vs ws)

size_both : (ls ms : List Line) → size (ls ++ ms) ≡ size ls + size ms
unfolding laid
size_both [] ms = omega arith
size_both (l ∷ ls) ms = simp length-append (omega (arith, size_both ls ms))

-- The margin of a line is at most 2 bytes.
margin_most : (w : Word) (ws : Line) → margin (w ∷ ws) ≤ 2
margin_most w ws = go (is_plain w || is "any" w)
  where
    go : (t : Bool) → cond t 2 0 ≤ 2
    go true = omega arith
    go false = omega arith

when_most : (t : Bool) (ws : Line) (n : ℕ) → (t ≡ true → room ws ≤ n) → room (when t ws) ≤ n
unfolding room
when_most true ws n h = h refl
when_most false ws n h = omega arith

-- A name with a number below 10 has at most 2 bytes.
name_long : (letter k : ℕ) → k < 10 → length (name_of letter k) ≤ 2
unfolding name_of
name_long letter k h = omega (arith, decimal_short k 0 (omega arith))

place_long : (letter k : ℕ) → k < 100 → length (name_of letter k) ≤ 3
unfolding name_of
place_long letter k h = omega (arith, decimal_short k 1 (omega arith))

ticks_long : (n : ℕ) → n ≤ 1001 → length (decimal n) ≤ 4
ticks_long n h = decimal_short n 3 (omega arith)

-- Each line of a signal is its first word and three bytes.
signals_long : (word : Word) → margin (word ∷ []) ≡ 0 → (ts : List ℕ) → size (signal_lines word ts) ≡ length ts * (length word + 3)
unfolding signal_lines room laid
signals_long word h [] = omega arith
signals_long word h (t ∷ ts) = line_long word ((t ∷ []) ∷ []) (signal_lines word ts) ∙ rw h (omega (arith, signals_long word h ts))

clock_margin : (ws : Line) → margin (ascii "clock" ∷ ws) ≡ 0
unfolding is_plain same
clock_margin ws = refl

clocks_long : (k : ℕ) (cs : List ℕ) → k + length cs ≤ 4 → all_pass ceiling_good cs ≡ true → size (clock_lines k cs) ≤ 14 * length cs
unfolding clock_lines all_pass room laid
clocks_long k [] h g = omega arith
clocks_long k (c ∷ cs) h g =
    let good = (and-eq-true_iff (ceiling_good c) _).0 g in
    let most = leb-true c 1001 ((and-eq-true_iff (leb 1 c) _).0 good.0).1 in
    let name = name_long 116 k (omega arith) in
    let rest = clocks_long (suc k) cs (omega arith) good.1 in
    omega (
      arith,
      line_long (ascii "clock") (clock_name k ∷ decimal c ∷ []) (clock_lines (suc k) cs),
      clock_margin (clock_name k ∷ decimal c ∷ []),
      name,
      ticks_long c most,
      rest,
    )

location_margin : (ws : Line) → margin (ascii "location" ∷ ws) ≡ 0
unfolding is_plain same
location_margin ws = refl

left_long : (t : Bool) → room (left_words t) ≤ 13
unfolding room
left_long true = omega arith
left_long false = omega arith

locations_long : (k : ℕ) (bs : List ℕ) → k + length bs ≤ 64 → size (location_lines k bs) ≤ 26 * length bs
unfolding location_lines room laid
locations_long k [] h = omega arith
locations_long k (b ∷ bs) h =
    let name = place_long 113 k (omega arith) in
    let rest = locations_long (suc k) bs (omega arith) in
    omega (
      arith,
      line_long (ascii "location") (place_name k ∷ left_words (eqb b 1)) (location_lines (suc k) bs),
      location_margin (place_name k ∷ left_words (eqb b 1)),
      name,
      left_long (eqb b 1),
      rest,
    )

-- The word for a signal in a rule has at most 2 bytes.
signal_long : (t : ℕ) (on : Bool) → length (signal_word t on) ≤ 2
signal_long t true = omega arith
signal_long t false = omega arith

signals_most : (ts : List ℕ) (care value : ℕ) → room (signal_words ts care value) ≤ 3 * length ts
unfolding signal_words room
signals_most [] care value = omega arith
signals_most (t ∷ ts) care value =
    let one = when_most (odd care) (signal_word t (odd value) ∷ []) 3 (λ e. omega (arith, signal_long t (odd value))) in
    omega (arith, room_both (when (odd care) (signal_word t (odd value) ∷ [])) (signal_words ts (care / 2) (value / 2)), one, signals_most ts (care / 2) (value / 2))

bound_long : (k n : ℕ) → k < 10 → n ≤ 1001 → (room (low_words k n) ≤ 11) × (room (high_words k n) ≤ 11)
unfolding room
bound_long k n h l =
    let name = name_long 116 k h in
    let ticks = ticks_long n l in
    (omega arith, omega arith)

bounds_most : (k : ℕ) {cs : List ℕ} {bs : List Bound} → k + length bs ≤ 10 → all_pass ceiling_good cs ≡ true → AllLawful cs bs → room (bound_words k bs) ≤ 22 * length bs
unfolding bound_words all_pass room
bounds_most k h g lawful_none = omega arith
bounds_most k h g (lawful_more {c = c} {b = b} {bs = bs} l ls) =
    let good = (and-eq-true_iff (ceiling_good c) _).0 g in
    let most = leb-true c 1001 ((and-eq-true_iff (leb 1 c) _).0 good.0).1 in
    let low = when_most (ltb 0 b.low) (low_words k b.low) 11 (λ e. (bound_long k b.low (omega arith) (omega (arith, l.low))).0) in
    let high = when_most (ltb b.high 65535) (high_words k b.high) 11
    (λ e. (bound_long k b.high (omega arith) (below (ltb-true b.high 65535 e) most l.high)).1) in
    let rest = bounds_most (suc k) (omega arith) good.1 ls in
    let first = room_both (when (ltb 0 b.low) (low_words k b.low)) (when (ltb b.high 65535) (high_words k b.high) ++ bound_words (suc k) bs) in
    let second = room_both (when (ltb b.high 65535) (high_words k b.high)) (bound_words (suc k) bs) in
    omega (arith, first, second, low, high, rest)
  where
    below : b.high < 65535 → c ≤ 1001 → (b.high < c) ⊎ (b.high ≡ 65535) → b.high ≤ 1001
    below h m = ⊎_elim (λ (l : b.high < c). omega arith) (λ (e : b.high ≡ 65535). omega arith)

target_most : (t locations : ℕ) → locations ≤ 64 → (t < locations) ⊎ (t ≡ 255) → length (target_word t) ≤ 9
unfolding target_word
target_most t locations h k = go (eqb t 255) refl
  where
    go : (b : Bool) → eqb t 255 ≡ b → length (cond b (ascii "violation") (place_name t)) ≤ 9
    go true e = omega arith
    go false e =
        let f = eqb-false t 255 e in
        let below : t < 100 = ⊎_elim (λ (l : t < locations). omega arith) (λ (s : t ≡ 255). absurd (f s)) k in
        omega (arith, place_long 113 t below)

resets_most : (k n mask : ℕ) → k + n ≤ 10 → room (reset_names k n mask) ≤ 3 * n
unfolding reset_names room
resets_most k zero mask h = omega arith
resets_most k (suc n) mask h =
    let one = when_most (odd mask) (clock_name k ∷ []) 3 (λ e. omega (arith, name_long 116 k (omega arith))) in
    omega (arith, room_both (when (odd mask) (clock_name k ∷ [])) (reset_names (suc k) n (mask / 2)), one, resets_most (suc k) n (mask / 2) (omega arith))

after_most : (ws : Line) → room (after_reset ws) ≤ 6 + room ws
unfolding room
after_most [] = omega arith
after_most (w ∷ ws) = omega arith

some_most : (ws : Line) (n : ℕ) → 4 ≤ n → room ws ≤ n → room (or_any ws) ≤ n
unfolding room
some_most [] n h k = omega arith
some_most (w ∷ ws) n h k = k

at_margin : (ws : Line) → margin (ascii "at" ∷ ws) ≡ 0
unfolding is_plain same
at_margin ws = refl

-- The locations that may still have an `at` before a rule.
abbrev left : ℕ → Option ℕ → ℕ
left locations none = locations
left locations (some s) = locations - (s + 1)

abbrev source_of : Option ℕ → ℕ
source_of none = 0
source_of (some s) = s

module _ (p : Policy) (w : WellFormed p) where
  abbrev RuledIn : Rule → Type 0
  RuledIn = Ruled (length p.inputs) (length p.outputs) p.ceilings p.locations

  conditions_most : (r : Rule) → RuledIn r → room (condition_words p r) ≤ 112
  unfolding condition_words
  conditions_most r k =
      let ins = signals_most p.inputs r.in_care r.in_value in
      let outs = signals_most p.outputs r.out_care r.out_value in
      let count = k.formed.bounds in
      let few = w.clocks in
      let bounds = bounds_most 0 (omega arith) w.ceilings k.lawful in
      omega (
        arith,
        room_both (signal_words p.inputs r.in_care r.in_value) (signal_words p.outputs r.out_care r.out_value ++ bound_words 0 r.bounds),
        room_both (signal_words p.outputs r.out_care r.out_value) (bound_words 0 r.bounds),
        w.inputs,
        w.outputs,
      )

  rule_most : (r : Rule) → RuledIn r → room (rule_words p r) ≤ 143
  unfolding rule_words room
  rule_most r k =
      let few = w.clocks in
      let resets = reset_names 0 (length p.ceilings) r.reset in
      let ending = ascii "->" ∷ target_word r.target ∷ after_reset resets in
      let target = target_most r.target p.locations w.locations k.formed.target in
      let names = resets_most 0 (length p.ceilings) r.reset (omega arith) in
      omega (
        arith,
        room_both (or_any (condition_words p r)) ending,
        some_most (condition_words p r) 112 (omega arith) (conditions_most r k),
        after_most resets,
        names,
        target,
      )

  -- A line whose words take at most 143 bytes takes at most 145 with its margin.
  rule_line_most : (ws : Line) (ls : List Line) → room ws ≤ 143 → size (ws ∷ ls) ≤ 145 + size ls
  rule_line_most [] ls h = omega (arith, blank_long ls)
  rule_line_most (v ∷ ws) ls h = omega (arith, line_long v ws ls, margin_most v ws)

  at-most : (t : Bool) (s : ℕ) → s < p.locations → size (at_lines t s) ≤ cond t 0 8
  unfolding room laid
  at-most true s h = omega arith
  at-most false s h =
      let few = w.locations in
      omega (
        arith,
        blank_long ((ascii "at" ∷ place_name s ∷ []) ∷ []),
        line_long (ascii "at") (place_name s ∷ []) [],
        at_margin (place_name s ∷ []),
        place_long 113 s (omega arith),
      )

  rules_most_from : {floor : ℕ} (before : Option ℕ) {rs : List Rule} → Rising floor rs → source_of before ≤ floor → Each RuledIn rs →
      size (rule_lines p before rs) ≤ 145 * length rs + 8 * left p.locations before
  unfolding rule_lines laid
  rules_most_from before rising_none low each_none = omega arith
  rules_most_from before (rising_more up rising) low (each_more {r = r} {rs = rs} k ks) =
      let rest = rules_most_from (some r.source) rising (omega arith) ks in
      let one = rule_line_most (rule_words p r) (rule_lines p (some r.source) rs) (rule_most r k) in
      let both = size_both (at_lines (is_at before r.source) r.source) (rule_words p r ∷ rule_lines p (some r.source) rs) in
      let ats = at-most (is_at before r.source) r.source k.source in
      omega (arith, both, one, rest, ats, fewer before (omega arith))
    where
      fewer : (before : Option ℕ) → source_of before ≤ r.source → cond (is_at before r.source) 0 8 + 8 * (p.locations - (r.source + 1)) ≤ 8 * left p.locations before
      fewer none up = omega (arith, k.source)
      fewer (some s) up = go (eqb s r.source) refl
        where
          go : (t : Bool) → eqb s r.source ≡ t → cond t 0 8 + 8 * (p.locations - (r.source + 1)) ≤ 8 * (p.locations - (s + 1))
          go true e = let z = eqb-true s r.source e in omega arith
          go false e = let f = eqb-false s r.source e in omega (arith, k.source)

  rules_most : (before : Option ℕ) {rs : List Rule} → Rising (source_of before) rs → Each RuledIn rs → size (rule_lines p before rs) ≤ 145 * length rs + 8 * left p.locations before
  rules_most before rising each = rules_most_from before rising (omega arith) each

  -- The text of a well-formed policy has at most 39,420 bytes.
  pub text_at_most : length (text_of p) ≤ 39420
  unfolding text_of policy_lines is_plain same
  text_at_most =
      let ins = signal_lines (ascii "input") p.inputs in
      let outs = signal_lines (ascii "output") p.outputs in
      let clocks = clock_lines 0 p.ceilings in
      let places = location_lines 0 p.left in
      let rules = rule_lines p none p.rules in
      let few_clocks = w.clocks in
      let few_places = w.locations in
      let bytes = w.bytes in
      omega (
        arith,
        size_both ins (outs ++ (clocks ++ (places ++ rules))),
        size_both outs (clocks ++ (places ++ rules)),
        size_both clocks (places ++ rules),
        size_both places rules,
        signals_long (ascii "input") refl p.inputs,
        signals_long (ascii "output") refl p.outputs,
        clocks_long 0 p.ceilings (omega arith) w.ceilings,
        locations_long 0 p.left (omega arith),
        rules_most none (well_rising p w) (well_ruled p w),
        w.inputs,
        w.outputs,
        w.rule_count,
      )

-- "How long a written text can be": at most 39,420 bytes.
pub written_at_most : (f : List ℕ) → refusal_of f ≡ 0 → length (text_of_file f) ≤ 39420
written_at_most f h = text_at_most (policy_of 1 f) (checked_file 1 f h)
