-- The text line by line: a line for each signal, clock, location and rule, in this order. A location's first rule has its `at` before it.
-- In order: the layout; lines that follow other lines; what is left of the text from its i-th line on; the source of the rule before; each kind of
-- line in its turn; where the code finds a rule.
use Rattle.std.specs.Prelude.{◌≡◌, refl, length, drop}
use Rattle.std.proofs.Math.Path.{ap, ap₂, sym}
use Rattle.std.proofs.Common.{◌∙◌, mul-le-mul, mul-le-mul_right, length-append}
use mathlib.Core.List.{List, [], ◌++◌, append_assoc}
use Prim.Native.Nat.{ℕ, zero, suc, ◌+◌, ◌-◌, ◌*◌, ◌≤◌, ◌<◌}
use Rattle.std.proofs.Math.Numerals.{add-one}
use native.Mathlib.Omega.{arith}
use Rattle.policy.specs.File.{byte_at, pair_at, part, rule_size, rule_from, rules_from, input_count, outputs_at, output_count, clocks_at, clock_count, locations_at, location_count, rules_start, rule_count, input_tags, output_tags, ceilings_of, location_bytes}
use Rattle.policy.specs.Check.{refusal_of}
use Rattle.policy.specs.Layout.{layout_of}
use Rattle.policy.specs.Frame.{Framed, frame, inputs_length, outputs_length, locations_length}
use Rattle.policy.specs.Parts.{byte_part}
use Rattle.policy.specs.declared.Layout.{Layout}
use Rattle.texts.specs.Text.{ascii}
use Rattle.texts.specs.Wrote.{Wrote}
use Rattle.wording.specs.Writer.{text_of_file}
use Rattle.rule_text.specs.Pieces.{at_piece, rule_piece, rule_text, rules_on, rules-start, rules_turn, rules-end}
use Rattle.showing.specs.Declarations.{tag_piece, tag_text, tags_turn, tags_end, clock_piece, clock_text, clocks_on, clocks_start, clocks_turn, clocks_end, place_piece, place_text, places_turn, places_end}
use Rattle.showing.specs.Pieced.{five, file_pieces}

-- The file passes its check, and the layout is the file's.
pub record LaidOut (f : List ℕ) (x : Layout) : Type 0 where
  pub passes : refusal_of f ≡ 0
  pub inputs : x.inputs ≡ input_count f
  pub outputs : x.outputs ≡ output_count f
  pub clocks : x.clocks ≡ clock_count f
  pub locations : x.locations ≡ location_count f
  pub rules : x.rules ≡ rule_count f
  pub start : x.rules_start ≡ rules_start f

-- The layout that the check gives for a file that passes is the file's.
pub laid_out : {f : List ℕ} {x : Layout} → refusal_of f ≡ 0 → x ≡ layout_of 1 f → LaidOut f x
laid_out h e =
    record {
      passes = h;
      inputs = ap (λ (k : Layout). k.inputs) e;
      outputs = ap (λ (k : Layout). k.outputs) e;
      clocks = ap (λ (k : Layout). k.clocks) e;
      locations = ap (λ (k : Layout). k.locations) e;
      rules = ap (λ (k : Layout). k.rules) e;
      start = ap (λ (k : Layout). k.rules_start) e;
    }

-- The sections of such a file stand where they should.
pub framed : {f : List ℕ} {x : Layout} → LaidOut f x → Framed f
framed {f} l = frame f l.passes

-- What is left, from the i-th line on, of c lines and those that follow them.
abbrev followed : (c : ℕ) (first rest : ℕ → List ℕ) → ℕ → List ℕ
followed c first rest i = first i ++ rest (i - c)

module _ (c : ℕ) (first rest : ℕ → List ℕ) where
  followed_start : followed c first rest 0 ≡ first 0 ++ rest 0
  followed_start = let z : 0 - c ≡ 0 = omega arith in ap (λ (n : ℕ). first 0 ++ rest n) z

  -- The next line is of the first part, or of what follows.
  in_first : (i : ℕ) (line : List ℕ) → i < c → first i ≡ line ++ first (i + 1) → followed c first rest i ≡ line ++ followed c first rest (i + 1)
  in_first i line h e =
      let z : i - c ≡ i + 1 - c = omega arith in
      ap₂ {C = List ℕ} (λ (x : List ℕ) (n : ℕ). x ++ rest n) e z ∙ append_assoc line (first (i + 1)) (rest (i + 1 - c))

  in_rest : (i j : ℕ) (line : List ℕ) → c + j ≡ i → first i ≡ [] → first (i + 1) ≡ [] → rest j ≡ line ++ rest (j + 1) →
      followed c first rest i ≡ line ++ followed c first rest (i + 1)
  in_rest i j line h e g t =
      let z : i - c ≡ j = omega arith in
      let s : j + 1 ≡ i + 1 - c = omega arith in
      ap₂ {C = List ℕ} (λ (x : List ℕ) (n : ℕ). x ++ rest n) e z ∙ t ∙ ap₂ {C = List ℕ} (λ (x : List ℕ) (n : ℕ). line ++ (x ++ rest n)) (sym g) s

  followed_end : (i : ℕ) → first i ≡ [] → rest (i - c) ≡ [] → followed c first rest i ≡ []
  followed_end i e g = ap₂ {C = List ℕ} ◌++◌ e g

module _ (f : List ℕ) where
  -- Where the i-th rule stands, and the source of the rule before it. No location has the number 255.
  abbrev pub rule_at : ℕ → ℕ
  rule_at i = rules_start f + i * rule_size (clock_count f)

  -- The source of the rule before the i-th, and 255 before the first.
  unfoldable pub source_before : ℕ → ℕ
  source_before zero = 255
  source_before (suc i) = byte_at f (rule_at i)

  -- A rule's line, with the `at` before it.
  abbrev pub rule_line : ℕ → List ℕ
  rule_line i = at_piece (source_before i) (byte_at f (rule_at i)) ++ rule_piece (input_tags f) (output_tags f) (clock_count f) (rule_from (clock_count f) f (rule_at i))

  -- What is left of each part.
  abbrev inputs_left : ℕ → List ℕ
  inputs_left i = tag_text (ascii "input") (drop i (input_tags f))

  abbrev outputs_left : ℕ → List ℕ
  outputs_left i = tag_text (ascii "output") (drop i (output_tags f))

  abbrev clocks_left : ℕ → List ℕ
  clocks_left i = clocks_on f (clocks_at f + 1) (clock_count f) i

  abbrev places_left : ℕ → List ℕ
  places_left i = place_text i (drop i (location_bytes f))

  abbrev rules_left : ℕ → List ℕ
  rules_left i = rules_on (input_tags f) (output_tags f) f (clock_count f) (source_before i) (rule_at i) (rule_count f) i

  abbrev from_places : ℕ → List ℕ
  from_places i = followed (location_count f) places_left rules_left i

  abbrev from_clocks : ℕ → List ℕ
  from_clocks i = followed (clock_count f) clocks_left from_places i

  abbrev from_outputs : ℕ → List ℕ
  from_outputs i = followed (output_count f) outputs_left from_clocks i

  -- The text from its i-th line on.
  unfoldable pub text_from : ℕ → List ℕ
  text_from i = followed (input_count f) inputs_left from_outputs i

  -- How many lines there are, where an `at` is not counted.
  abbrev pub line_count : ℕ
  line_count = input_count f + output_count f + clock_count f + location_count f + rule_count f

-- The i-th line is written.
pub record LineAt (f : List ℕ) (i : ℕ) (before : List ℕ) (at r : ℕ) (after : List ℕ) : Type 0 where
  pub line : List ℕ
  pub turn : text_from f i ≡ line ++ text_from f (i + 1)
  pub wrote : Wrote before at line r after

-- So it is as long as what is left gets shorter by it.
pub line_long : {f : List ℕ} {i : ℕ} {before after : List ℕ} {at r : ℕ} → LineAt f i before at r after → r + length (text_from f (i + 1)) ≡ at + length (text_from f i)
line_long {f} {i} l = omega (arith, l.wrote.next, ap length l.turn, length-append l.line (text_from f (i + 1)))

-- The source of the rule before.
module _ (f : List ℕ) where
  -- Before the first rule it is 255.
  pub first_source : (i : ℕ) → i ≡ 0 → 255 ≡ source_before f i
  unfolding source_before
  first_source i e = rw e

  -- Before a later rule it is the first byte of the one before.
  pub later_source : (i : ℕ) → (i ≡ 0 → ⊥) → byte_at f (rule_at f (i - 1)) ≡ source_before f i
  unfolding source_before
  later_source zero h = absurd (h refl)
  later_source (suc i) h = let e : suc i - 1 ≡ i = omega arith in rw e

  source_next : (i : ℕ) → byte_at f (rule_at f i) ≡ source_before f (i + 1)
  unfolding source_before
  source_next i = rw add-one

  rules_next : (i : ℕ) → i < rule_count f → rules_left f i ≡ rule_line f i ++ rules_left f (i + 1)
  rules_next i h =
      let s : rule_at f i + rule_size (clock_count f) ≡ rule_at f (i + 1) = omega arith in
      rules_turn (input_tags f) (output_tags f) f (clock_count f) (source_before f i) (rule_at f i) (rule_count f) i h refl
      ∙ ap₂ {C = List ℕ} (λ (b a : ℕ). rule_line f i ++ rules_on (input_tags f) (output_tags f) f (clock_count f) b a (rule_count f) (i + 1)) (source_next i) s

  rules_first : rules_left f 0 ≡ rules_on (input_tags f) (output_tags f) f (clock_count f) 255 (rules_start f) (rule_count f) 0
  unfolding source_before
  rules_first = let s : rule_at f 0 ≡ rules_start f = omega arith in rw s

  -- By the positions and counts that the code has worked out.
  pub rule-by : (i : ℕ) {a x b y n p before source : ℕ} → a ≡ 1 → x ≡ input_count f → b ≡ outputs_at f + 1 → y ≡ output_count f → n ≡ clock_count f →
      p ≡ rule_at f i → before ≡ source_before f i → source ≡ byte_at f p →
      at_piece before source ++ rule_piece (part f a x) (part f b y) n (rule_from n f p) ≡ rule_line f i
  rule-by i e g h k l m o q =
      λ d. at_piece (o d) ((q ∙ ap (byte_at f) m) d) ++ rule_piece (part f (e d) (g d)) (part f (h d) (k d)) (l d) (rule_from (l d) f (m d))

  -- It starts with the first line.
  pub text_start : refusal_of f ≡ 0 → text_from f 0 ≡ text_of_file f
  unfolding text_from
  text_start h =
      followed_start (input_count f) (inputs_left f) (from_outputs f)
      ∙ ap (λ (z : List ℕ). inputs_left f 0 ++ z)
      (followed_start (output_count f) (outputs_left f) (from_clocks f)
      ∙ ap (λ (z : List ℕ). outputs_left f 0 ++ z)
      (followed_start (clock_count f) (clocks_left f) (from_places f)
      ∙ ap₂ {C = List ℕ} ◌++◌ (clocks_start f (clocks_at f + 1) (clock_count f))
      (followed_start (location_count f) (places_left f) (rules_left f)
      ∙ ap (λ (z : List ℕ). places_left f 0 ++ z) (rules_first ∙ rules-start (input_tags f) (output_tags f) f (clock_count f) 255 (rules_start f) (rule_count f)))))
      ∙ five (inputs_left f 0) (outputs_left f 0) (clock_text 0 (ceilings_of f)) (places_left f 0) (rule_text (input_tags f) (output_tags f) (clock_count f) 255 (rules_from (clock_count f) f (rules_start f) (rule_count f)))
      ∙ sym (file_pieces f h)

-- The lines, part by part.
module _ (f : List ℕ) (k : Framed f) where
  no_inputs : (i : ℕ) → input_count f ≤ i → inputs_left f i ≡ []
  no_inputs i h = tags_end (ascii "input") (input_tags f) i (omega (arith, inputs_length f k))

  no_outputs : (i : ℕ) → output_count f ≤ i → outputs_left f i ≡ []
  no_outputs i h = tags_end (ascii "output") (output_tags f) i (omega (arith, outputs_length f k))

  no_clocks : (i : ℕ) → clock_count f ≤ i → clocks_left f i ≡ []
  no_clocks i h = clocks_end f (clocks_at f + 1) (clock_count f) i h

  no_places : (i : ℕ) → location_count f ≤ i → places_left f i ≡ []
  no_places i h = places_end (location_bytes f) i (omega (arith, locations_length f k))

  -- Past the last line nothing is left.
  pub text_end : (i : ℕ) → line_count f ≤ i → text_from f i ≡ []
  unfolding text_from
  text_end i h =
      let j = i - input_count f in
      let m = j - output_count f in
      let n = m - clock_count f in
      let o = n - location_count f in
      followed_end (input_count f) (inputs_left f) (from_outputs f) i (no_inputs i (omega arith))
      (followed_end (output_count f) (outputs_left f) (from_clocks f) j (no_outputs j (omega arith))
      (followed_end (clock_count f) (clocks_left f) (from_places f) m (no_clocks m (omega arith))
      (followed_end (location_count f) (places_left f) (rules_left f) n (no_places n (omega arith))
      (rules-end (input_tags f) (output_tags f) f (clock_count f) (source_before f o) (rule_at f o) (rule_count f) o (omega arith)))))

  module _ (i : ℕ) where
    -- The first lines are those of the inputs.
    pub input-line : {p : ℕ} → 1 + i ≡ p → i < input_count f → text_from f i ≡ tag_piece (ascii "input") (byte_at f p) ++ text_from f (i + 1)
    unfolding text_from
    input-line {p} e h =
        in_first (input_count f) (inputs_left f) (from_outputs f) i (tag_piece (ascii "input") (byte_at f p)) h
        (tags_turn (ascii "input") (input_tags f) i (omega (arith, inputs_length f k))
        ∙ ap (λ (t : ℕ). tag_piece (ascii "input") t ++ inputs_left f (i + 1)) (byte_part f 1 (input_count f) i p e h))

    after_inputs : (j : ℕ) (line : List ℕ) → input_count f + j ≡ i → from_outputs f j ≡ line ++ from_outputs f (j + 1) → text_from f i ≡ line ++ text_from f (i + 1)
    unfolding text_from
    after_inputs j line e t = in_rest (input_count f) (inputs_left f) (from_outputs f) i j line e (no_inputs i (omega arith)) (no_inputs (i + 1) (omega arith)) t

    module _ (j : ℕ) (past : input_count f + j ≡ i) where
      -- After the inputs come the outputs.
      pub output-line : {p : ℕ} → outputs_at f + 1 + j ≡ p → j < output_count f → text_from f i ≡ tag_piece (ascii "output") (byte_at f p) ++ text_from f (i + 1)
      output-line {p} e h =
          after_inputs j (tag_piece (ascii "output") (byte_at f p)) past
          (in_first (output_count f) (outputs_left f) (from_clocks f) j (tag_piece (ascii "output") (byte_at f p)) h
          (tags_turn (ascii "output") (output_tags f) j (omega (arith, outputs_length f k))
          ∙ ap (λ (t : ℕ). tag_piece (ascii "output") t ++ outputs_left f (j + 1)) (byte_part f (outputs_at f + 1) (output_count f) j p e h)))

      after_outputs : (m : ℕ) (line : List ℕ) → output_count f + m ≡ j → from_clocks f m ≡ line ++ from_clocks f (m + 1) → text_from f i ≡ line ++ text_from f (i + 1)
      after_outputs m line e t =
          after_inputs j line past
          (in_rest (output_count f) (outputs_left f) (from_clocks f) j m line e (no_outputs j (omega arith)) (no_outputs (j + 1) (omega arith)) t)

      module _ (m : ℕ) (further : output_count f + m ≡ j) where
        -- After the outputs come the clocks.
        pub clock-line : {c : ℕ} → c ≡ pair_at f (clocks_at f + 1 + 2 * m) → m < clock_count f → text_from f i ≡ clock_piece m c ++ text_from f (i + 1)
        clock-line {c} e h =
            after_outputs m (clock_piece m c) further (in_first (clock_count f) (clocks_left f) (from_places f) m (clock_piece m c) h (clocks_turn f (clocks_at f + 1) (clock_count f) m h e))

        after_clocks : (n : ℕ) (line : List ℕ) → clock_count f + n ≡ m → from_places f n ≡ line ++ from_places f (n + 1) → text_from f i ≡ line ++ text_from f (i + 1)
        after_clocks n line e t =
            after_outputs m line further
            (in_rest (clock_count f) (clocks_left f) (from_places f) m n line e (no_clocks m (omega arith)) (no_clocks (m + 1) (omega arith)) t)

        module _ (n : ℕ) (on : clock_count f + n ≡ m) where
          -- After the clocks come the locations.
          pub place_line : {p : ℕ} → locations_at f + 1 + n ≡ p → n < location_count f → text_from f i ≡ place_piece n (byte_at f p) ++ text_from f (i + 1)
          place_line {p} e h =
              after_clocks n (place_piece n (byte_at f p)) on
              (in_first (location_count f) (places_left f) (rules_left f) n (place_piece n (byte_at f p)) h
              (places_turn (location_bytes f) n (omega (arith, locations_length f k))
              ∙ ap (λ (b : ℕ). place_piece n b ++ places_left f (n + 1)) (byte_part f (locations_at f + 1) (location_count f) n p e h)))

          -- After the locations come the rules.
          pub rule-line : (o : ℕ) → location_count f + o ≡ n → o < rule_count f → text_from f i ≡ rule_line f o ++ text_from f (i + 1)
          rule-line o e h =
              after_clocks n (rule_line f o) on
              (in_rest (location_count f) (places_left f) (rules_left f) n o (rule_line f o) e (no_places n (omega arith)) (no_places (n + 1) (omega arith)) (rules_next f o h))

-- Where the code finds the i-th rule; it is within the file, and its position is small.
pub rule_position : {f : List ℕ} {x : Layout} → LaidOut f x → (i : ℕ) → x.rules_start + i * rule_size x.clocks ≡ rule_at f i
rule_position l i = ap₂ (λ (s c : ℕ). s + i * rule_size c) l.start l.clocks

-- The i-th rule ends within the file.
pub rule_within : (f : List ℕ) → Framed f → (i : ℕ) → i < rule_count f → rule_at f i + rule_size (clock_count f) ≤ length f
rule_within f k i h = omega (arith, k.last_end, k.ends, mul-le-mul_right (rule_size (clock_count f)) h)

-- Up to 256 rules over up to four clocks take at most 5,888 bytes.
pub few_bytes : (i n : ℕ) → i ≤ 256 → n ≤ 4 → i * rule_size n ≤ 5888
few_bytes i n h l = let s : rule_size n ≤ 23 = omega arith in omega (arith, mul-le-mul h s)
