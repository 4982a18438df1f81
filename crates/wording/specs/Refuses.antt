-- What a line is refused by: 4, 7 or 30 to 34.
-- In order: the numbers; each step keeps to them; each kind of line does; so does a text, and the line is one of its own.
use Rattle.std.specs.Prelude.{◌≡◌, Bool, true, false, cond, ◌&&◌, ◌||◌, ℕ, suc, ◌+◌, ◌≤◌, ◌<◌, leb, ltb, eqb, length}
use Rattle.std.proofs.Math.Path.{refl}
use Rattle.std.proofs.Common.{ap, sym, ◌∙◌, arith, leb-true, eqb-true}
use Rattle.std.proofs.Math.Bool.{and-eq-true_iff}
use mathlib.Core.List.{List, [], ◌∷◌}
use Rattle.std.proofs.Math.Option.{Option, none, some}
use Rattle.streams.specs.Answer.{Answer, refused, gives}
use Rattle.policy.specs.Check.{is_capital, among, ceiling_good, bounds_good}
use Rattle.texts.specs.Decimal.{value_from}
use Rattle.wording.specs.Words.{Word, Line}
use Rattle.wording.specs.Names.{find, is, is_name, is_number, ◌and_then◌, must, known, free, numbered, through}
use Rattle.wording.specs.Reader.{Draft, scope, Begun, Part, opening, more, arrow, sign, at_least, at_most, goes, gone, clears, unset, bare, ends, letter, new_name, tags, new_signal, with_input, with_output, signal, signal_or}
use Rattle.wording.specs.Reader.{signal_line, input_line, output_line, clock_line, new_place, location_line, risen, at_line, on_signal, on_reset, condition, word_at, rule_word, rule_line, read_line}
use Rattle.wording.specs.Reader.{stops, proceed, read_lines}

-- The refusals with a line: 4 and 7, which the file's own check has too, and 30 to 34.
abbrev pub in_line : ℕ → Bool
in_line n = eqb n 4 || (eqb n 7 || (leb 30 n && leb n 34))

-- Each of them is from 1 to 34.
pub in_line_few : (n : ℕ) → in_line n ≡ true → (0 < n) × (n ≤ 34)
in_line_few n h = go (eqb n 4) refl (eqb n 7) refl h
  where
    go : (a : Bool) → eqb n 4 ≡ a → (b : Bool) → eqb n 7 ≡ b → (a || (b || (leb 30 n && leb n 34))) ≡ true → (0 < n) × (n ≤ 34)
    go true e b f k = let z = eqb-true n 4 e in (omega arith, omega arith)
    go false e true f k = let z = eqb-true n 7 f in (omega arith, omega arith)
    go false e false f k =
        let both = (and-eq-true_iff (leb 30 n) (leb n 34)).0 k in
        let low = leb-true 30 n both.0 in
        let high = leb-true n 34 both.1 in (omega arith, omega arith)

-- Refused by one of them, if at all.
pub data Known {A : Type 0} : Answer A → Type 0 where
  by : {n : ℕ} → in_line n ≡ true → Known (refused n)
  fine : {a : A} → Known (gives a)

module _ {A B : Type 0} where
  known_then : (a : Answer B) (go : B → Answer A) → Known a → ((b : B) → Known (go b)) → Known (a and_then go)
  known_then (refused n) go (by h) k = by h
  known_then (gives b) go fine k = k b

module _ {A : Type 0} where
  known_must : (t : Bool) (n : ℕ) (a : Answer A) → in_line n ≡ true → Known a → Known (must t n a)
  known_must true n a h k = k
  known_must false n a h k = by h

  known_known : (o : Option ℕ) (go : ℕ → Answer A) → ((i : ℕ) → Known (go i)) → Known (known o go)
  known_known none go k = by refl
  known_known (some i) go k = k i

  known_free : (o : Option ℕ) (a : Answer A) → Known a → Known (free o a)
  known_free none a k = k
  known_free (some i) a k = by refl

  known_cond : (t : Bool) (a b : Answer A) → Known a → Known b → Known (cond t a b)
  known_cond true a b k l = k
  known_cond false a b k l = l

  known_numbered : (w : Word) (go : ℕ → Answer A) → ((n : ℕ) → Known (go n)) → Known (numbered w go)
  unfolding numbered
  known_numbered w go k = known_must (is_number w) 30 _ refl (known_must (leb (value_from 0 w) 65535) 32 _ refl (k (value_from 0 w)))

module _ {S X : Type 0} (next : S → X → Answer S) (k : (s : S) (x : X) → Known (next s x)) where
  known_through : (s : S) (xs : List X) → Known (through next s xs)
  unfolding through
  known_through s [] = fine
  known_through s (x ∷ xs) = known_then (next s x) _ (k s x) (λ t. known_through t xs)

known_letter : (before : List ℕ) (w : Word) → Known (letter before w)
known_letter before [] = by refl
known_letter before (t ∷ []) = known_must (is_capital t) 30 _ refl (known_cond (among t before) _ _ (by refl) fine)
known_letter before (t ∷ u ∷ us) = by refl

known_name : (w : Word) (names : List Word) (a : Answer Draft) → Known a → Known (new_name w names a)
known_name w names a k = known_must (is_name w) 30 _ refl (known_free (find 0 w names) a k)

module _ (d : Draft) where
  known_one : (w : Word) (a : Answer Draft) → Known a → Known (new_signal d w a)
  known_one w a k = known_name w d.names _ (known_free (find 0 w d.clocks) a k)

  known_signals : (count : ℕ) (go : ℕ → Word → Draft) (ws : Line) → Known (signal_line d count go ws)
  unfolding signal_line
  known_signals count go [] = by refl
  known_signals count go (w ∷ []) = known_then (letter (tags d) w) _ (known_letter (tags d) w) (λ t. known_must (ltb count 4) 33 _ refl fine)
  known_signals count go (w ∷ n ∷ []) =
      known_then (letter (tags d) w) _ (known_letter (tags d) w) (λ t. known_one n _ (known_must (ltb count 4) 33 _ refl fine))
  known_signals count go (w ∷ n ∷ v ∷ ws) = by refl

  known_clock : (ws : Line) → Known (clock_line d ws)
  unfolding clock_line
  known_clock [] = by refl
  known_clock (w ∷ []) = by refl
  known_clock (w ∷ n ∷ []) =
      known_must (leb d.stage 3) 30 _ refl
      (known_name w d.clocks _ (known_free (find 0 w d.names) _
      (known_numbered n _ (λ c. known_must (ceiling_good c) 4 _ refl (known_must (ltb (length d.clocks) 4) 33 _ refl fine)))))
  known_clock (w ∷ n ∷ v ∷ ws) = by refl

  known_place : (w : Word) (b : ℕ) → Known (new_place d w b)
  unfolding new_place
  known_place w b =
      known_must (leb d.stage 4) 30 _ refl
      (known_name w d.places _ (known_must (ltb (length d.places) 64) 33 _ refl fine))

  known_location : (ws : Line) → Known (location_line d ws)
  unfolding location_line
  known_location [] = by refl
  known_location (w ∷ []) = known_place w 0
  known_location (w ∷ a ∷ []) = by refl
  known_location (w ∷ a ∷ b ∷ []) = by refl
  known_location (w ∷ a ∷ b ∷ c ∷ []) = known_must (is "must" a && (is "be" b && is "left" c)) 30 _ refl (known_place w 1)
  known_location (w ∷ a ∷ b ∷ c ∷ v ∷ ws) = by refl

  known_at : (ws : Line) → Known (at_line d ws)
  unfolding at_line
  known_at [] = by refl
  known_at (w ∷ []) = known_known (find 0 w d.places) _ (λ k. known_must (risen d d.source k) 34 _ refl fine)
  known_at (w ∷ v ∷ ws) = by refl

  known_signal : (b : Begun) (v i : ℕ) → Known (on_signal b v i)
  unfolding on_signal
  known_signal b v i = known_must (unset b.care i) 31 _ refl fine

  known_reset : (b : Begun) (i : ℕ) → Known (on_reset b i)
  unfolding on_reset
  known_reset b i = known_must (unset b.reset i) 31 _ refl fine

  known_or : (b : Begun) (w : Word) (o : Option ℕ) → Known (signal_or (scope d) b w o)
  known_or b w none = known_known (find 0 w d.clocks) _ (λ k. fine)
  known_or b w (some i) = known_signal b 1 i

  known_condition : (b : Begun) (w : Word) → Known (condition (scope d) b w)
  unfolding condition
  known_condition b [] = by refl
  known_condition b (c ∷ cs) =
      known_cond (eqb c 33) _ _ (known_known (signal (scope d) cs) _ (known_signal b 0)) (known_or b (c ∷ cs) (signal (scope d) (c ∷ cs)))

  known_word : (b : Begun) (part : Part) (w : Word) → Known (word_at (scope d) b part w)
  unfolding word_at
  known_word b opening w = known_cond (is "any" w) _ _ fine (known_condition b w)
  known_word b more w = known_cond (is "->" w) _ _ fine (known_condition b w)
  known_word b arrow w = known_must (is "->" w) 30 _ refl fine
  known_word b (sign k) w = known_cond (is ">=" w) _ _ fine (known_must (is "<=" w) 30 _ refl fine)
  known_word b (at_least k) w = known_numbered w _ (λ n. fine)
  known_word b (at_most k) w = known_numbered w _ (λ n. fine)
  known_word b goes w = known_cond (is "violation" w) _ _ fine (known_known (find 0 w d.places) _ (λ t. fine))
  known_word b gone w = known_must (is "reset" w) 30 _ refl fine
  known_word b clears w = known_known (find 0 w d.clocks) _ (known_reset b)

  known_rule : (ws : Line) (source : Option ℕ) → Known (rule_line d ws source)
  unfolding rule_line
  known_rule ws none = by refl
  known_rule ws (some s) =
      known_then (through (rule_word (scope d)) (bare (length d.clocks)) ws) _
      (known_through (rule_word (scope d)) (λ b w. known_word b b.part w) (bare (length d.clocks)) ws)
      (λ b. known_must (ends b b.part) 30 _ refl (known_must (bounds_good d.ceilings b.bounds) 7 _ refl (known_must (ltb (length d.rules) 256) 33 _ refl fine)))

  -- A line is refused by one of them, if at all.
  pub known_line : (l : Line) → Known (read_line d l)
  unfolding read_line input_line output_line
  known_line [] = fine
  known_line (w ∷ ws) =
      known_cond (is "input" w) _ _ (known_must (leb d.stage 1) 30 _ refl (known_signals (length d.inputs) (with_input d) ws))
      (known_cond (is "output" w) _ _ (known_must (leb d.stage 2) 30 _ refl (known_signals (length d.outputs) (with_output d) ws))
      (known_cond (is "clock" w) _ _ (known_clock ws)
      (known_cond (is "location" w) _ _ (known_location ws)
      (known_cond (is "at" w) _ _ (known_at ws) (known_rule (w ∷ ws) d.source)))))

-- The number n is one of them, and the line is one of `count` lines from `first` on.
abbrev pub Numbered : (first count n line : ℕ) → Type 0
Numbered first count n line = (in_line n ≡ true) × (first ≤ line) × (line < first + count)

-- Lines that are refused are refused by one of them, in one of these lines.
pub in-line : (first : ℕ) (d : Draft) (ls : List Line) (n line : ℕ) → read_lines first d ls ≡ stops n line → Numbered first (length ls) n line
unfolding read_lines
in-line first d [] n line h = absurd (let z : ◌≡◌ {A = ℕ} 0 1 = cc in omega arith)
in-line first d (l ∷ ls) n line h = go (read_line d l) (known_line d l) h (λ e. in-line (suc first) e ls n line)
  where
    go : (a : Answer Draft) → Known a → proceed first a (λ e. read_lines (suc first) e ls) ≡ stops n line →
        ((e : Draft) → read_lines (suc first) e ls ≡ stops n line → Numbered (suc first) (length ls) n line) →
        Numbered first (suc (length ls)) n line
    go (refused m) (by h) k rest =
        let number : m ≡ n = cc in
        let place : first ≡ line = cc in
        (ap in_line (sym number) ∙ h, omega arith, omega arith)
    go (gives e) fine k rest = let r = rest e k in (r.0, omega arith, omega arith)
