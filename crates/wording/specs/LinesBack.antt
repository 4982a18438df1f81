-- The lines of a policy are read as that policy.
-- In order: names as they are written; what some lines have said; signals; clocks and locations; rules; all lines.
use Rattle.std.specs.Prelude.{◌≡◌, Bool, not, ◌||◌, leb, eqb, replicate}
use Rattle.std.proofs.Math.Path.{refl, ap}
use Rattle.std.proofs.Common.{sym, ◌∙◌}
use Rattle.std.proofs.Math.Bool.{true, false, and-eq-true_iff}
use mathlib.Core.List.{List, [], ◌∷◌, ◌++◌, append_assoc, append-nil}
use Rattle.std.proofs.Math.Option.{Option, none, some}
use Prim.Native.Nat.{ℕ, zero, suc, ◌+◌, ◌≤◌, ◌<◌}
use native.Mathlib.Omega.{arith}
use Rattle.std.proofs.Math.ListN.{length, length-append}
use borrow.Author.Tests.{leb-true, le-leb, lt-ltb, eqb-true, eqb-false, not-true}
use Rattle.streams.specs.Answer.{Answer, refused, gives}
use Rattle.policy.specs.Rules.{Rule, Policy}
use Rattle.policy.specs.Check.{is_capital, among, tags_good, all_pass, ceiling_good, location_good}
use Rattle.policy.specs.Sound.{WellFormed, Each, each_none, each_more}
use Rattle.policy.specs.Checked.{Rising, rising_none, rising_more, Ruled, well_rising, well_ruled}
use Rattle.texts.specs.Text.{ascii, decimal}
use Rattle.texts.specs.Decimal.{decimal_short}
use Rattle.wording.specs.Words.{Word, Line}
use Rattle.wording.specs.Names.{same, find, is_lower, is_digit, every, is_plain, is_name, through, ◌and_then◌, name_of, names_from}
use Rattle.wording.specs.NamesBack.{find_name, find_none, names_length, names_more, number_is, number_read, digits_in, through_none, through_more}
use Rattle.wording.specs.RuleBack.{Declared, rule_read}
use Rattle.wording.specs.Reader.{Draft, empty, signal_line, input_line, output_line, clock_line, new_place, location_line, risen, at_line, add_rule, read_line, reads, proceed, read_lines, policy_from}
use Rattle.wording.specs.Writer.{clock_name, place_name, clock_lines, left_words, location_lines, signal_lines, is_at, at_lines, rule_words, rule_lines, policy_lines}

-- Bytes that pass a test pass each weaker one.
every_weak : (f g : ℕ → Bool) → ((c : ℕ) → f c ≡ true → g c ≡ true) → (cs : List ℕ) → every f cs ≡ true → every g cs ≡ true
unfolding every
every_weak f g w [] h = refl
every_weak f g w (c ∷ cs) h =
    let both = (and-eq-true_iff (f c) _).0 h in rw (w c both.0) (every_weak f g w cs both.1)

or_first : (a b c : Bool) → b ≡ true → (a || (b || c)) ≡ true
or_first true b c h = refl
or_first false b c h = rw h

-- Written names are names.
name_good : (letter k : ℕ) → is_lower letter ≡ true → is_plain (name_of letter k) ≡ true → k < 100 → is_name (name_of letter k) ≡ true
unfolding is_name name_of
name_good letter k l p h =
    let chars = every_weak is_digit (λ d. is_lower d || (is_digit d || eqb d 95)) (λ c g. or_first (is_lower c) (is_digit c) (eqb c 95) g) (decimal k)
    (digits_in (decimal k) (number_is k)) in
    let short : length (decimal k) ≤ 2 = decimal_short k 1 (omega arith) in
    rw (l, chars, le-leb (length (decimal k)) 15 (omega arith), p)

clock_good : (k : ℕ) → k < 100 → is_name (clock_name k) ≡ true
unfolding is_plain same name_of
clock_good k h = name_good 116 k refl refl h

place_good : (k : ℕ) → k < 100 → is_name (place_name k) ≡ true
unfolding is_plain same name_of
place_good k h = name_good 113 k refl refl h

names_next : (letter k : ℕ) → names_from letter 0 k ++ (name_of letter k ∷ []) ≡ names_from letter 0 (suc k)
names_next letter k = let e : k ≡ 0 + k = omega arith in ap (λ (n : ℕ). names_from letter 0 k ++ (name_of letter n ∷ [])) e ∙ names_more letter 0 k

-- Signals without names.
abbrev blank : ℕ → List Word
blank n = replicate n []

blank_more : (n : ℕ) → blank n ++ ([] ∷ []) ≡ blank (suc n)
blank_more zero = refl
blank_more (suc n) = ap (λ (z : List Word). [] ∷ z) (blank_more n)

blank_none : (i n c : ℕ) (cs : Word) → find i (c ∷ cs) (blank n) ≡ none
unfolding find same
blank_none i zero c cs = refl
blank_none i (suc n) c cs = blank_none (suc i) n c cs

-- What the lines of so many signals, clocks, locations and rules have said.
abbrev drafted : (inputs outputs : List ℕ) (signals clocks : ℕ) → List ℕ → ℕ → List ℕ → List Rule → ℕ → Option ℕ → Draft
drafted inputs outputs signals clocks ceilings places left rules stage source =
    record {
      inputs = inputs;
      outputs = outputs;
      names = blank signals;
      clocks = names_from 116 0 clocks;
      ceilings = ceilings;
      places = names_from 113 0 places;
      left = left;
      rules = rules;
      stage = stage;
      source = source;
    }

-- The same, for the lines of signals alone.
abbrev signed : (inputs outputs : List ℕ) (signals stage : ℕ) → Draft
signed inputs outputs signals stage = drafted inputs outputs signals 0 [] 0 [] [] stage none

abbrev new_tag : List ℕ → ℕ → Type 0
new_tag before t = (is_capital t ≡ true) × (among t before ≡ false)

input-line : (ins : List ℕ) (n stage t : ℕ) → stage ≤ 1 → new_tag ins t → length ins < 4 →
    read_line (signed ins [] n stage) (ascii "input" ∷ (t ∷ []) ∷ []) ≡ gives (signed (ins ++ (t ∷ [])) [] (suc n) 1)
unfolding read_line same input_line signal_line names_from
input-line ins n stage t s new room =
    let more = blank_more n in
    rw (le-leb stage 1 s, append-nil ins, new.0, new.1, lt-ltb (length ins) 4 room)
    (λ i.
    gives (record {
      inputs = ins ++ (t ∷ []);
      outputs = [];
      names = more i;
      clocks = [];
      ceilings = [];
      places = [];
      left = [];
      rules = [];
      stage = 1;
      source = none;
    }))

output-line : (ins outs : List ℕ) (n stage t : ℕ) → stage ≤ 2 → new_tag (ins ++ outs) t → length outs < 4 →
    read_line (signed ins outs n stage) (ascii "output" ∷ (t ∷ []) ∷ []) ≡ gives (signed ins (outs ++ (t ∷ [])) (suc n) 2)
unfolding read_line same output_line signal_line names_from
output-line ins outs n stage t s new room =
    let more = blank_more n in
    rw (le-leb stage 2 s, new.0, new.1, lt-ltb (length outs) 4 room)
    (λ i.
    gives (record {
      inputs = ins;
      outputs = outs ++ (t ∷ []);
      names = more i;
      clocks = [];
      ceilings = [];
      places = [];
      left = [];
      rules = [];
      stage = 2;
      source = none;
    }))

tag_first : (before : List ℕ) (t : ℕ) (ts : List ℕ) → tags_good before (t ∷ ts) ≡ true → new_tag before t × (tags_good (before ++ (t ∷ [])) ts ≡ true)
unfolding tags_good
tag_first before t ts h =
    let first = (and-eq-true_iff (is_capital t) _).0 h in
    let second = (and-eq-true_iff (not (among t before)) _).0 first.1 in
    ((first.0, not-true (among t before) second.0), second.1)

longer : (xs : List ℕ) (t : ℕ) → length (xs ++ (t ∷ [])) ≡ suc (length xs)
longer xs t = simp length-append (omega arith)

inputs_read : (done ts : List ℕ) (n stage : ℕ) → stage ≤ 1 → tags_good done ts ≡ true → length done + length ts ≤ 4 →
    (next : ℕ) × (next ≤ 1) × (through read_line (signed done [] n stage) (signal_lines (ascii "input") ts) ≡ gives (signed (done ++ ts) [] (n + length ts) next))
unfolding through signal_lines
inputs_read done [] n stage s good room =
    let e : n ≡ n + 0 = omega arith in (stage, s, λ i. gives (signed (sym (append-nil done) i) [] (e i) stage))
inputs_read done (t ∷ ts) n stage s good room =
    let one = tag_first done t ts good in
    let long = longer done t in
    let rest = inputs_read (done ++ (t ∷ [])) ts (suc n) 1 (omega arith) one.1 (omega arith) in
    let e : suc n + length ts ≡ n + suc (length ts) = omega arith in
    let l : (done ++ (t ∷ [])) ++ ts ≡ done ++ (t ∷ ts) = append_assoc done (t ∷ []) ts in
    (rest.0, rest.1, rw (input-line done n stage t s one.0 (omega arith)) (rest.2 ∙ (λ i. gives (signed (l i) [] (e i) rest.0))))

outputs_read : (ins done ts : List ℕ) (n stage : ℕ) → stage ≤ 2 → tags_good (ins ++ done) ts ≡ true → length done + length ts ≤ 4 →
    (next : ℕ) × (next ≤ 2)
    × (through read_line (signed ins done n stage) (signal_lines (ascii "output") ts) ≡ gives (signed ins (done ++ ts) (n + length ts) next))
unfolding through signal_lines
outputs_read ins done [] n stage s good room =
    let e : n ≡ n + 0 = omega arith in (stage, s, λ i. gives (signed ins (sym (append-nil done) i) (e i) stage))
outputs_read ins done (t ∷ ts) n stage s good room =
    let one = tag_first (ins ++ done) t ts good in
    let long = longer done t in
    let after : tags_good (ins ++ (done ++ (t ∷ []))) ts ≡ true = ap (λ (z : List ℕ). tags_good z ts) (sym (append_assoc ins done (t ∷ []))) ∙ one.1 in
    let rest = outputs_read ins (done ++ (t ∷ [])) ts (suc n) 2 (omega arith) after (omega arith) in
    let e : suc n + length ts ≡ n + suc (length ts) = omega arith in
    let l : (done ++ (t ∷ [])) ++ ts ≡ done ++ (t ∷ ts) = append_assoc done (t ∷ []) ts in
    (rest.0, rest.1, rw (output-line ins done n stage t s one.0 (omega arith)) (rest.2 ∙ (λ i. gives (signed ins (l i) (e i) rest.0))))

-- Among signals without names no clock's name is found.
clock_free : (m k : ℕ) → find 0 (clock_name k) (blank m) ≡ none
unfolding name_of
clock_free m k = blank_none 0 m 116 (decimal k)

-- A location's byte, by whether it is 1.
abbrev byte_for : Bool → ℕ
byte_for true = 1
byte_for false = 0

byte-for : (b : ℕ) → b ≤ 1 → byte_for (eqb b 1) ≡ b
byte-for b h = go (eqb b 1) refl
  where
    go : (t : Bool) → eqb b 1 ≡ t → byte_for t ≡ b
    go true e = sym (eqb-true b 1 e)
    go false e = let f = eqb-false b 1 e in omega arith

module _ (inputs outputs : List ℕ) (m : ℕ) where
  clock-line : (k : ℕ) (done : List ℕ) (stage c : ℕ) → stage ≤ 3 → k < 4 → c ≤ 65535 → ceiling_good c ≡ true →
      read_line (drafted inputs outputs m k done 0 [] [] stage none) (ascii "clock" ∷ clock_name k ∷ decimal c ∷ [])
      ≡ gives (drafted inputs outputs m (suc k) (done ++ (c ∷ [])) 0 [] [] 3 none)
  unfolding read_line same clock_line names_from
  clock-line k done stage c s h l good =
      let new = names_next 116 k in
      rw (le-leb stage 3 s, clock_good k (omega arith), find_none 116 k 0 k (omega arith), clock_free m k, number_read c _ l, good, names_length 116 0 k, lt-ltb k 4 h)
      (λ i.
      gives (record {
        inputs = inputs;
        outputs = outputs;
        names = blank m;
        clocks = new i;
        ceilings = done ++ (c ∷ []);
        places = [];
        left = [];
        rules = [];
        stage = 3;
        source = none;
      }))

  clocks_read : (k : ℕ) (done cs : List ℕ) (stage : ℕ) → stage ≤ 3 → k + length cs ≤ 4 → all_pass ceiling_good cs ≡ true →
      (next : ℕ) × (next ≤ 3) × (through read_line (drafted inputs outputs m k done 0 [] [] stage none) (clock_lines k cs)
      ≡ gives (drafted inputs outputs m (k + length cs) (done ++ cs) 0 [] [] next none))
  unfolding through clock_lines all_pass
  clocks_read k done [] stage s h g =
      let e : k ≡ k + 0 = omega arith in
      (stage, s, λ i. gives (drafted inputs outputs m (e i) (sym (append-nil done) i) 0 [] [] stage none))
  clocks_read k done (c ∷ cs) stage s h g =
      let good = (and-eq-true_iff (ceiling_good c) _).0 g in
      let both = (and-eq-true_iff (leb 1 c) _).0 good.0 in
      let limit : c ≤ 1001 = leb-true c 1001 both.1 in
      let e : suc k + length cs ≡ k + suc (length cs) = omega arith in
      let l : (done ++ (c ∷ [])) ++ cs ≡ done ++ (c ∷ cs) = append_assoc done (c ∷ []) cs in
      let rest = clocks_read (suc k) (done ++ (c ∷ [])) cs 3 (omega arith) (omega arith) good.1 in (
        rest.0,
        rest.1,
        rw (clock-line k done stage c s (omega arith) (omega arith) good.0)
            (rest.2 ∙ (λ i. gives (drafted inputs outputs m (e i) (l i) 0 [] [] rest.0 none))),
      )

  place_new : (k : ℕ) (cs : List ℕ) (n : ℕ) (done : List ℕ) (stage b : ℕ) → stage ≤ 4 → n < 64 →
      new_place (drafted inputs outputs m k cs n done [] stage none) (place_name n) b ≡ gives (drafted inputs outputs m k cs (suc n) (done ++ (b ∷ [])) [] 4 none)
  unfolding new_place
  place_new k cs n done stage b s h =
      let new = names_next 113 n in
      rw (le-leb stage 4 s, place_good n (omega arith), find_none 113 n 0 n (omega arith), names_length 113 0 n, lt-ltb n 64 h)
      (λ i.
      gives (record {
        inputs = inputs;
        outputs = outputs;
        names = blank m;
        clocks = names_from 116 0 k;
        ceilings = cs;
        places = new i;
        left = done ++ (b ∷ []);
        rules = [];
        stage = 4;
        source = none;
      }))

  place_rest : (d : Draft) (w : Word) (left : Bool) → read_line d (ascii "location" ∷ w ∷ left_words left) ≡ new_place d w (byte_for left)
  unfolding read_line same location_line
  place_rest d w true = refl
  place_rest d w false = refl

  places_read : (k : ℕ) (cs : List ℕ) (n : ℕ) (done bs : List ℕ) (stage : ℕ) → stage ≤ 4 → n + length bs ≤ 64 → all_pass location_good bs ≡ true →
      (next : ℕ) × (next ≤ 4) × (through read_line (drafted inputs outputs m k cs n done [] stage none) (location_lines n bs)
      ≡ gives (drafted inputs outputs m k cs (n + length bs) (done ++ bs) [] next none))
  unfolding through location_lines all_pass
  places_read k cs n done [] stage s h g =
      let e : n ≡ n + 0 = omega arith in
      (stage, s, λ i. gives (drafted inputs outputs m k cs (e i) (sym (append-nil done) i) [] stage none))
  places_read k cs n done (b ∷ bs) stage s h g =
      let good = (and-eq-true_iff (location_good b) _).0 g in
      let e : suc n + length bs ≡ n + suc (length bs) = omega arith in
      let l : (done ++ (b ∷ [])) ++ bs ≡ done ++ (b ∷ bs) = append_assoc done (b ∷ []) bs in
      let one = place_rest (drafted inputs outputs m k cs n done [] stage none) (place_name n) (eqb b 1)
      ∙ ap (new_place (drafted inputs outputs m k cs n done [] stage none) (place_name n)) (byte-for b (leb-true b 1 good.0))
      ∙ place_new k cs n done stage b s (omega arith) in
      let rest = places_read k cs (suc n) (done ++ (b ∷ [])) bs 4 (omega arith) (omega arith) good.1 in
      (rest.0, rest.1, rw one (rest.2 ∙ (λ i. gives (drafted inputs outputs m k cs (e i) (l i) [] rest.0 none))))

-- The rules.
module _ (p : Policy) (w : WellFormed p) where
  abbrev signal_count : ℕ
  signal_count = length p.inputs + length p.outputs

  abbrev ruling : List Rule → ℕ → Option ℕ → Draft
  ruling done stage source =
      drafted p.inputs p.outputs signal_count (length p.ceilings) p.ceilings p.locations p.left done stage source

  is_declared : (done : List Rule) (stage : ℕ) (source : Option ℕ) → Declared p (ruling done stage source)
  is_declared done stage source =
      record { inputs = refl; outputs = refl; clocks = refl; places = refl; unnamed = blank_none 0 signal_count; ceilings = refl }

  at-line : (done : List Rule) (stage : ℕ) (before : Option ℕ) (s : ℕ) → s < p.locations → risen (ruling done stage before) before s ≡ true →
      through read_line (ruling done stage before) ([] ∷ (ascii "at" ∷ place_name s ∷ []) ∷ []) ≡ gives (ruling done 5 (some s))
  unfolding through read_line same at_line
  at-line done stage before s h r = rw (find_name 113 s 0 p.locations (omega arith) (omega arith), r)

  at_read : (done : List Rule) (stage : ℕ) (before : Option ℕ) (s : ℕ) → s < p.locations → risen (ruling done stage before) before s ≡ true →
      (next : ℕ) × (through read_line (ruling done stage before) (at_lines (is_at before s) s) ≡ gives (ruling done next (some s)))
  at_read done stage none s h r = (5, at-line done stage none s h r)
  at_read done stage (some a) s h r = go (eqb a s) refl
    where
      go : (t : Bool) → eqb a s ≡ t →
          (next : ℕ) × (through read_line (ruling done stage (some a)) (at_lines t s) ≡ gives (ruling done next (some s)))
      go true e = (stage, through_none read_line _ ∙ ap (λ (n : ℕ). gives (ruling done stage (some n))) (eqb-true a s e))
      go false e = (5, at-line done stage (some a) s h r)

  rule_more : (done : List Rule) (stage : ℕ) (r : Rule) → Ruled (length p.inputs) (length p.outputs) p.ceilings p.locations r → length done < 256 →
      read_line (ruling done stage (some r.source)) (rule_words p r) ≡ gives (ruling (done ++ (r ∷ [])) 5 (some r.source))
  unfolding add_rule
  rule_more done stage r ruled h = rule_read p w (ruling done stage (some r.source)) (is_declared done stage (some r.source)) r ruled refl h

  rule_then : (done : List Rule) (stage : ℕ) (r : Rule) (rest : List Line) → read_line (ruling done stage (some r.source)) (rule_words p r) ≡ gives (ruling (done ++ (r ∷ [])) 5 (some r.source)) →
      through read_line (ruling done stage (some r.source)) (rule_words p r ∷ rest) ≡ through read_line (ruling (done ++ (r ∷ [])) 5 (some r.source)) rest
  unfolding through
  rule_then done stage r rest h = rw h

  -- The source of the rule before, 0 for none.
  abbrev source_of : Option ℕ → ℕ
  source_of none = 0
  source_of (some s) = s

  has_risen : (d : Draft) (before : Option ℕ) (s : ℕ) → source_of before ≤ s → risen d before s ≡ true
  has_risen d none s h = refl
  has_risen d (some a) s h = le-leb a s h

  rules_read_from : {floor : ℕ} (done : List Rule) (stage : ℕ) (before : Option ℕ) {rs : List Rule} → Rising floor rs → source_of before ≤ floor →
      Each (Ruled (length p.inputs) (length p.outputs) p.ceilings p.locations) rs → length done + length rs ≤ 256 →
      (last : ℕ) × (source : Option ℕ) × (through read_line (ruling done stage before) (rule_lines p before rs) ≡ gives (ruling (done ++ rs) last source))
  unfolding rule_lines
  rules_read_from done stage before rising_none low each_none h =
      (stage, before, through_none read_line _ ∙ ap (λ (z : List Rule). gives (ruling z stage before)) (sym (append-nil done)))
  rules_read_from done stage before (rising_more up rising) low (each_more {r = r} {rs = rs} ruled each) h =
      let at = at_read done stage before r.source ruled.source (has_risen (ruling done stage before) before r.source (omega arith)) in
      let one = rule_more done at.0 r ruled (omega arith) in
      let long : length (done ++ (r ∷ [])) ≡ suc (length done) = simp length-append (omega arith) in
      let rest = rules_read_from (done ++ (r ∷ [])) 5 (some r.source) rising (omega arith) each (omega arith) in
      let regroup : (done ++ (r ∷ [])) ++ rs ≡ done ++ (r ∷ rs) = append_assoc done (r ∷ []) rs in (
        rest.0,
        rest.1,
        through_more read_line _ _ _ _ at.1 ∙ (rule_then done at.0 r _ one ∙ (rest.2 ∙ ap (λ (z : List Rule). gives (ruling z rest.0 rest.1)) regroup)),
      )

  rules_read : (done : List Rule) (stage : ℕ) (before : Option ℕ) {rs : List Rule} → Rising (source_of before) rs →
      Each (Ruled (length p.inputs) (length p.outputs) p.ceilings p.locations) rs → length done + length rs ≤ 256 →
      (last : ℕ) × (source : Option ℕ) × (through read_line (ruling done stage before) (rule_lines p before rs) ≡ gives (ruling (done ++ rs) last source))
  rules_read done stage before rising each h = rules_read_from done stage before rising (omega arith) each h

  -- The lines of the locations are read, and say the policy's locations.
  places_said : (next : ℕ) → next ≤ 3 →
      (last : ℕ) × (last ≤ 4) × (through read_line (drafted p.inputs p.outputs signal_count (length p.ceilings) p.ceilings 0 [] [] next none)
      (location_lines 0 p.left) ≡ gives (ruling [] last none))
  places_said next s =
      let count = w.bytes in
      let e : 0 + length p.left ≡ p.locations = omega arith in
      let all_pass = places_read p.inputs p.outputs signal_count (length p.ceilings) p.ceilings 0 [] p.left next (omega arith) (omega (arith, w.locations)) w.left in
      (all_pass.0, all_pass.1, all_pass.2 ∙ (λ i. gives (drafted p.inputs p.outputs signal_count (length p.ceilings) p.ceilings (e i) p.left [] all_pass.0 none)))

  inputs_said : (next : ℕ) × (next ≤ 1) × (through read_line empty (signal_lines (ascii "input") p.inputs) ≡ gives (signed p.inputs [] (length p.inputs) next))
  unfolding names_from
  inputs_said =
      let e : 0 + length p.inputs ≡ length p.inputs = omega arith in
      let all_pass = inputs_read [] p.inputs 0 0 (omega arith) w.input_tags (omega (arith, w.inputs)) in
      (all_pass.0, all_pass.1, all_pass.2 ∙ (λ i. gives (signed p.inputs [] (e i) all_pass.0)))

  outputs_said : (next : ℕ) → next ≤ 1 →
      (last : ℕ) × (last ≤ 2) × (through read_line (signed p.inputs [] (length p.inputs) next) (signal_lines (ascii "output") p.outputs)
      ≡ gives (signed p.inputs p.outputs signal_count last))
  outputs_said next s =
      outputs_read p.inputs [] p.outputs (length p.inputs) next (omega arith)
      (ap (λ (z : List ℕ). tags_good z p.outputs) (append-nil p.inputs) ∙ w.output_tags) (omega (arith, w.outputs))

  clocks_said : (next : ℕ) → next ≤ 2 →
      (last : ℕ) × (last ≤ 3) × (through read_line (signed p.inputs p.outputs signal_count next) (clock_lines 0 p.ceilings)
      ≡ gives (drafted p.inputs p.outputs signal_count (length p.ceilings) p.ceilings 0 [] [] last none))
  clocks_said next s =
      let e : 0 + length p.ceilings ≡ length p.ceilings = omega arith in
      let all_pass = clocks_read p.inputs p.outputs signal_count 0 [] p.ceilings next (omega arith) (omega (arith, w.clocks)) w.ceilings in
      (all_pass.0, all_pass.1, all_pass.2 ∙ (λ i. gives (drafted p.inputs p.outputs signal_count (e i) p.ceilings 0 [] [] all_pass.0 none)))

  -- The lines of a policy are read, none is refused, and they say all that the policy has.
  pub lines_read : (last : ℕ) × (source : Option ℕ) × (through read_line empty (policy_lines p) ≡ gives (ruling p.rules last source))
  unfolding policy_lines
  lines_read =
      let ins = inputs_said in
      let outs = outputs_said ins.0 ins.1 in
      let clocks = clocks_said outs.0 outs.1 in
      let places = places_said clocks.0 clocks.1 in
      let rules = rules_read [] places.0 none (well_rising p w) (well_ruled p w) (omega (arith, w.rule_count)) in (
        rules.0,
        rules.1,
        through_more read_line _ _ _ _ ins.2 ∙ (through_more read_line _ _ _ _ outs.2
            ∙ (through_more read_line _ _ _ _ clocks.2 ∙ (through_more read_line _ _ _ _ places.2 ∙ rules.2))),
      )

  -- What these lines say is that policy.
  pub policy_said : (last : ℕ) (source : Option ℕ) → policy_from p.reading (ruling p.rules last source) ≡ p
  unfolding policy_from
  policy_said last source =
      let n = names_length 113 0 p.locations in
      λ i.
      record {
        reading = p.reading;
        inputs = p.inputs;
        outputs = p.outputs;
        ceilings = p.ceilings;
        locations = n i;
        left = p.left;
        rules = p.rules;
      }

-- What passes is read, whatever the lines' numbers are.
pub numbers_aside : (line : ℕ) (d e : Draft) (ls : List Line) → through read_line d ls ≡ gives e → read_lines line d ls ≡ reads e
unfolding through read_lines
numbers_aside line d e [] h = let s : d ≡ e = cc in ap reads s
numbers_aside line d e (l ∷ ls) h = go (read_line d l) h (λ next. numbers_aside (suc line) next e ls)
  where
    go : (a : Answer Draft) → (a and_then λ t. through read_line t ls) ≡ gives e →
        ((next : Draft) → through read_line next ls ≡ gives e → read_lines (suc line) next ls ≡ reads e) →
        proceed line a (λ next. read_lines (suc line) next ls) ≡ reads e
    go (refused n) g rest = absurd (let z : ◌≡◌ {A = ℕ} 0 1 = cc in omega arith)
    go (gives next) g rest = rest next g
