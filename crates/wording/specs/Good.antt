-- What holds of a draft after every line that is read: all that the file's own check asks of a policy, but for a location and the number of states.
-- In order: what holds of each section, and of the empty draft; the lines that declare; one rule more; rules and `at`; all lines; the policy.
use Rattle.std.specs.Prelude.{◌≡◌, Bool, cond, not, ◌&&◌, ◌||◌, ◌⊎◌, ℕ, suc, ◌+◌, ◌/◌, ◌%◌, ◌^◌, ◌≤◌, ◌<◌, leb, ltb, eqb}
use Rattle.std.proofs.Math.Path.{refl, ap}
use Rattle.std.proofs.Common.{sym, ◌∙◌, length-append, pow_pos}
use Rattle.std.proofs.Math.Bool.{true, false, and-eq-true_iff}
use mathlib.Core.List.{List, [], ◌∷◌, ◌++◌, append_assoc, append-nil}
use Rattle.std.proofs.Math.Option.{Option, none, some}
use Rattle.std.proofs.Math.Nat.{mod-lt}
use native.Mathlib.Omega.{arith}
use Rattle.std.specs.Int.Bits.{bit_and}
use Rattle.std.proofs.Math.ListN.{length}
use borrow.Author.Tests.{leb-true, le-leb, ltb-true, lt-ltb, eq-eqb}
use Rattle.streams.specs.Tests.{either_second}
use Rattle.streams.specs.Answer.{Answer, refused, gives}
use Rattle.streams.specs.AnswerLaws.{none_refused}
use Rattle.policy.specs.Rules.{Rule}
use Rattle.policy.specs.Check.{is_capital, among, tags_good, all_pass, ceiling_good, location_good, mask_good, head_good, bounds_good, rule_refusal, rules_refusal}
use Rattle.policy.specs.Checked.{all_append}
use Rattle.policy.specs.Bytes.{bytes_of}
use Rattle.policy.specs.Sound.{NearlyFormed}
use Rattle.policy.specs.ReadBack.{bytes_at_most}
use Rattle.wording.specs.Words.{Word, Line}
use Rattle.wording.specs.Names.{find, is, is_name, ◌and_then◌, must, through}
use Rattle.wording.specs.Reader.{Draft, empty, letter, new_name, tags, with_input, with_output, signal_line, input_line, output_line, clock_line, new_place, location_line, risen, at_line}
use Rattle.wording.specs.Reader.{Begun, bare}
use Rattle.wording.specs.Reader.{scope, rule_word, ends, rule_of, add_rule, rule_line, read_line, reads, proceed, read_lines, policy_from}
use Rattle.wording.specs.Kept.{Keeps, stops_here, goes_on, keeps_must, keeps_known, keeps_free, keeps_cond, keeps_numbered, keeps_then}
use Rattle.wording.specs.Masks.{within_inputs, within_outputs, outputs_below}
use Rattle.wording.specs.Fair.{found_below, Fair, words_fair}

-- The signals: at most 4 of each kind, with good tags, and a name, or none, for each.
pub record Signals (inputs outputs : List ℕ) (names : List Word) : Type 0 where
  pub few_inputs : length inputs ≤ 4
  pub few_outputs : length outputs ≤ 4
  pub input_tags : tags_good [] inputs ≡ true
  pub output_tags : tags_good inputs outputs ≡ true
  pub paired : length names ≡ length inputs + length outputs

-- The clocks: at most 4, and a ceiling from 1 to 1,001 for each.
pub record Clocks (clocks : List Word) (ceilings : List ℕ) : Type 0 where
  pub few : length ceilings ≤ 4
  pub good : all_pass ceiling_good ceilings ≡ true
  pub paired : length clocks ≡ length ceilings

-- The locations: at most 64, and a byte of 0 or 1 for each.
pub record Places (places : List Word) (left : List ℕ) : Type 0 where
  pub few : length places ≤ 64
  pub good : all_pass location_good left ≡ true
  pub paired : length left ≡ length places

-- The source of the last rule; `before` if there is none.
unfoldable pub last_of : ℕ → List Rule → ℕ
last_of before [] = before
last_of before (r ∷ rs) = last_of r.source rs

-- The rules: none before the first `at`; after it at most 256, which pass the check, and none from a location after that of the last `at`.
pub data Rules (inputs outputs : ℕ) (cs : List ℕ) (locations : ℕ) (rs : List Rule) (stage : ℕ) : Option ℕ → Type 0 where
  before_at : rs ≡ [] → Rules inputs outputs cs locations rs stage none
  after_at : {s : ℕ} → s < locations → rules_refusal inputs outputs cs locations 0 rs ≡ 0 → last_of 0 rs ≤ s → length rs ≤ 256 → 5 ≤ stage →
      Rules inputs outputs cs locations rs stage (some s)

-- All of this holds of the draft d, which has no outputs before stage 2.
pub record Good (d : Draft) : Type 0 where
  pub signals : Signals d.inputs d.outputs d.names
  pub clocks : Clocks d.clocks d.ceilings
  pub places : Places d.places d.left
  pub rules : Rules (length d.inputs) (length d.outputs) d.ceilings (length d.places) d.rules d.stage d.source
  pub early : d.stage ≤ 1 → d.outputs ≡ []

-- The draft before the first line is good.
pub good_empty : Good empty
unfolding tags_good all_pass
good_empty =
    record {
      signals = record { few_inputs = omega arith; few_outputs = omega arith; input_tags = refl; output_tags = refl; paired = refl };
      clocks = record { few = omega arith; good = refl; paired = refl };
      places = record { few = omega arith; good = refl; paired = refl };
      rules = before_at refl;
      early = λ h. refl;
    }

-- Up to the last location there are no rules, whatever is declared.
no_rules_yet : {i o l stage : ℕ} {cs : List ℕ} {rs : List Rule} {source : Option ℕ} → Rules i o cs l rs stage source → stage ≤ 4 →
    {i' o' l' stage' : ℕ} {cs' : List ℕ} → Rules i' o' cs' l' rs stage' source
no_rules_yet (before_at e) h = before_at e
no_rules_yet (after_at a b c d e) h = absurd (omega arith)

longer : {A : Type 0} (xs : List A) (a : A) → length (xs ++ (a ∷ [])) ≡ suc (length xs)
longer xs a = simp length-append (omega arith)

-- One tag more.
tags_more : (before ts : List ℕ) (t : ℕ) → tags_good before ts ≡ true → is_capital t ≡ true → among t (before ++ ts) ≡ false → tags_good before (ts ++ (t ∷ [])) ≡ true
unfolding tags_good
tags_more before [] t h c n = let e : among t before ≡ false = rw (append-nil before) at n in rw (c, e)
tags_more before (x ∷ ts) t h c n =
    let first = (and-eq-true_iff (is_capital x) _).0 h in
    let second = (and-eq-true_iff (not (among x before)) _).0 first.1 in
    let rest = tags_more (before ++ (x ∷ [])) ts t second.1 c (ap (among t) (append_assoc before (x ∷ []) ts) ∙ n) in
    rw (first.0, second.0, rest)

-- What a line of a signal says: its letter alone, or with a name that is new.
pub data Signalled (d : Draft) : Line → ℕ → Word → Type 0 where
  unnamed : {t : ℕ} → Signalled d ((t ∷ []) ∷ []) t []
  named : {t : ℕ} {n : Word} → is_name n ≡ true → find 0 n d.names ≡ none → Signalled d ((t ∷ []) ∷ n ∷ []) t n

module _ {P : Draft → Type 0} (d : Draft) where
  keeps_letter : (before : List ℕ) (t : ℕ) (go : ℕ → Answer Draft) → (is_capital t ≡ true → among t before ≡ false → Keeps P (go t)) →
      Keeps P (letter before (t ∷ []) and_then go)
  keeps_letter before t go k = at (is_capital t) (among t before) refl refl
    where
      at : (a b : Bool) → is_capital t ≡ a → among t before ≡ b → Keeps P (must a 30 (cond b (refused 31) (gives t)) and_then go)
      at false b e f = stops_here
      at true true e f = stops_here
      at true false e f = k e f

  -- P holds after a new name, if it does where the word is a name and is not taken.
  pub keeps_name : (w : Word) (names : List Word) (a : Answer Draft) → (is_name w ≡ true → find 0 w names ≡ none → Keeps P a) → Keeps P (new_name w names a)
  keeps_name w names a k = keeps_must (is_name w) 30 _ (λ e. keeps_free (find 0 w names) a (k e))

  -- P holds after the line of a signal, if it does for every letter and name that such a line can say.
  pub keeps_signals : (count : ℕ) (go : ℕ → Word → Draft) (ws : Line) →
      ((t : ℕ) (n : Word) → Signalled d ws t n → is_capital t ≡ true → among t (tags d) ≡ false → count < 4 → P (go t n)) →
      Keeps P (signal_line d count go ws)
  unfolding signal_line
  keeps_signals count go [] k = stops_here
  keeps_signals count go ([] ∷ []) k = stops_here
  keeps_signals count go ((t ∷ []) ∷ []) k =
      keeps_letter (tags d) t _ (λ c n. keeps_must (ltb count 4) 33 _ (λ r. goes_on (k t [] unnamed c n (ltb-true count 4 r))))
  keeps_signals count go ((t ∷ u ∷ us) ∷ []) k = stops_here
  keeps_signals count go ([] ∷ n ∷ []) k = stops_here
  keeps_signals count go ((t ∷ []) ∷ n ∷ []) k =
      keeps_letter (tags d) t _
      (λ c e. keeps_name n d.names _
      (λ f g. keeps_free (find 0 n d.clocks) _ (λ h. keeps_must (ltb count 4) 33 _ (λ r. goes_on (k t n (named f g) c e (ltb-true count 4 r))))))
  keeps_signals count go ((t ∷ u ∷ us) ∷ n ∷ []) k = stops_here
  keeps_signals count go (w ∷ n ∷ v ∷ ws) k = stops_here

module _ (d : Draft) (g : Good d) where
  input_good : (t : ℕ) (n : Word) → d.stage ≤ 1 → is_capital t ≡ true → among t (tags d) ≡ false → length d.inputs < 4 → Good (with_input d t n)
  unfolding tags_good
  input_good t n s c new room =
      let s4 : d.stage ≤ 4 = omega arith in
      let none_out = g.early s in
      let alone : among t d.inputs ≡ false = ap (among t) (sym (append-nil d.inputs) ∙ ap (λ (z : List ℕ). d.inputs ++ z) (sym none_out)) ∙ new in
      let i = longer d.inputs t in
      let m = longer d.names n in
      record {
        signals =
            record {
              few_inputs = omega arith;
              few_outputs = g.signals.few_outputs;
              input_tags = tags_more [] d.inputs t g.signals.input_tags c alone;
              output_tags = rw none_out;
              paired = omega (arith, g.signals.paired);
            };
        clocks = g.clocks;
        places = g.places;
        rules = no_rules_yet g.rules s4;
        early = λ h. none_out;
      }

  output_good : (t : ℕ) (n : Word) → d.stage ≤ 2 → is_capital t ≡ true → among t (tags d) ≡ false → length d.outputs < 4 → Good (with_output d t n)
  output_good t n s c new room =
      let s4 : d.stage ≤ 4 = omega arith in
      let o = longer d.outputs t in
      let m = longer d.names n in
      record {
        signals =
            record {
              few_inputs = g.signals.few_inputs;
              few_outputs = omega arith;
              input_tags = g.signals.input_tags;
              output_tags = tags_more d.inputs d.outputs t g.signals.output_tags c new;
              paired = omega (arith, g.signals.paired);
            };
        clocks = g.clocks;
        places = g.places;
        rules = no_rules_yet g.rules s4;
        early = λ h. absurd (omega arith);
      }

  clock_good : (ws : Line) → Keeps Good (clock_line d ws)
  unfolding clock_line all_pass
  clock_good [] = stops_here
  clock_good (w ∷ []) = stops_here
  clock_good (w ∷ n ∷ []) =
      keeps_must (leb d.stage 3) 30 _
      (λ s. keeps_name d w d.clocks _
      (λ e f. keeps_free (find 0 w d.names) _
      (λ h. keeps_numbered n _
      (λ c. keeps_must (ceiling_good c) 4 _
      (λ good. keeps_must (ltb (length d.clocks) 4) 33 _
      (λ room. goes_on (one c (leb-true d.stage 3 s) good (ltb-true (length d.clocks) 4 room))))))))
    where
      one : (c : ℕ) → d.stage ≤ 3 → ceiling_good c ≡ true → length d.clocks < 4 → Good (record {
        inputs = d.inputs;
        outputs = d.outputs;
        names = d.names;
        clocks = d.clocks ++ (w ∷ []);
        ceilings = d.ceilings ++ (c ∷ []);
        places = d.places;
        left = d.left;
        rules = d.rules;
        stage = 3;
        source = d.source;
      })
      one c s good room =
          let s4 : d.stage ≤ 4 = omega arith in
          let a = longer d.clocks w in
          let b = longer d.ceilings c in
          record {
            signals = g.signals;
            clocks =
                record {
                  few = omega (arith, g.clocks.paired);
                  good = all_append ceiling_good d.ceilings (c ∷ []) g.clocks.good (rw good);
                  paired = omega (arith, g.clocks.paired);
                };
            places = g.places;
            rules = no_rules_yet g.rules s4;
            early = λ h. absurd (omega arith);
          }
  clock_good (w ∷ n ∷ v ∷ ws) = stops_here

  place_good : (w : Word) (byte : ℕ) → location_good byte ≡ true → Keeps Good (new_place d w byte)
  unfolding new_place all_pass
  place_good w byte l =
      keeps_must (leb d.stage 4) 30 _
      (λ s. keeps_name d w d.places _
      (λ e f. keeps_must (ltb (length d.places) 64) 33 _
      (λ room. goes_on (one (leb-true d.stage 4 s) (ltb-true (length d.places) 64 room)))))
    where
      one : d.stage ≤ 4 → length d.places < 64 → Good (record {
        inputs = d.inputs;
        outputs = d.outputs;
        names = d.names;
        clocks = d.clocks;
        ceilings = d.ceilings;
        places = d.places ++ (w ∷ []);
        left = d.left ++ (byte ∷ []);
        rules = d.rules;
        stage = 4;
        source = d.source;
      })
      one s4 room =
          let a = longer d.places w in
          let b = longer d.left byte in
          record {
            signals = g.signals;
            clocks = g.clocks;
            places =
                record {
                  few = omega arith;
                  good = all_append location_good d.left (byte ∷ []) g.places.good (rw l);
                  paired = omega (arith, g.places.paired);
                };
            rules = no_rules_yet g.rules s4;
            early = λ h. absurd (omega arith);
          }

  location-good : (ws : Line) → Keeps Good (location_line d ws)
  unfolding location_line
  location-good [] = stops_here
  location-good (w ∷ []) = place_good w 0 refl
  location-good (w ∷ a ∷ []) = stops_here
  location-good (w ∷ a ∷ b ∷ []) = stops_here
  location-good (w ∷ a ∷ b ∷ c ∷ []) = keeps_must (is "must" a && (is "be" b && is "left" c)) 30 _ (λ e. place_good w 1 refl)
  location-good (w ∷ a ∷ b ∷ c ∷ v ∷ ws) = stops_here

-- One rule more.
module _ (inputs outputs : ℕ) (cs : List ℕ) (locations : ℕ) where
  rules_more : (before : ℕ) (rs : List Rule) (r : Rule) → rules_refusal inputs outputs cs locations before rs ≡ 0 →
      rule_refusal inputs outputs cs locations (last_of before rs) r ≡ 0 → rules_refusal inputs outputs cs locations before (rs ++ (r ∷ [])) ≡ 0
  unfolding rules_refusal last_of
  rules_more before [] r h k = (none_refused (rule_refusal inputs outputs cs locations before r) 0).1 (k, refl)
  rules_more before (x ∷ rs) r h k =
      let both = (none_refused (rule_refusal inputs outputs cs locations before x) _).0 h in
      (none_refused (rule_refusal inputs outputs cs locations before x) _).1 (both.0, rules_more x.source rs r both.1 k)

last_more : (before : ℕ) (rs : List Rule) (r : Rule) → last_of before (rs ++ (r ∷ [])) ≡ r.source
unfolding last_of
last_more before [] r = refl
last_more before (x ∷ rs) r = last_more x.source rs r

mask_passes : (signals care value : ℕ) → care < 2 ^ signals → bit_and value care ≡ value → mask_good signals care value ≡ true
unfolding mask_good
mask_passes signals care value h e = rw (lt-ltb care (2 ^ signals) h, eq-eqb (bit_and value care) value e)

target_passes : (locations target : ℕ) → (target < locations) ⊎ (target ≡ 255) → (ltb target locations || eqb target 255) ≡ true
target_passes locations target (◌⊎◌.inl h) = rw (lt-ltb target locations h)
target_passes locations target (◌⊎◌.inr e) = either_second (ltb target locations) (eqb target 255) (eq-eqb target 255 e)

module _ (d : Draft) (g : Good d) where
  signal_count : length (tags d) ≡ length d.inputs + length d.outputs
  signal_count = length-append d.inputs d.outputs

  made_passes : (source : ℕ) (b : Begun) → source < length d.places → last_of 0 d.rules ≤ source →
      Fair (length d.inputs + length d.outputs) (length d.clocks) (length d.places) b → bounds_good d.ceilings b.bounds ≡ true →
      rule_refusal (length d.inputs) (length d.outputs) d.ceilings (length d.places) (last_of 0 d.rules) (rule_of d source b) ≡ 0
  unfolding rule_refusal head_good rule_of
  made_passes source b l up f bounds =
      let i = length d.inputs in
      let o = length d.outputs in
      let clocks : b.reset < 2 ^ length d.ceilings = rw g.clocks.paired at f.reset in
      let small = mod-lt b.care (pow_pos i) in
      rw (
        le-leb (last_of 0 d.rules) source up,
        lt-ltb source (length d.places) l,
        mask_passes i (b.care % 2 ^ i) (b.value % 2 ^ i) small (within_inputs i b.care b.value f.value),
        mask_passes o (b.care / 2 ^ i) (b.value / 2 ^ i) (outputs_below i o b.care f.care) (within_outputs i b.care b.value f.value),
        lt-ltb b.reset (2 ^ length d.ceilings) clocks,
        target_passes (length d.places) b.target f.target,
        bounds,
      )

  rule_good : (ws : Line) {source : Option ℕ} →
      Rules (length d.inputs) (length d.outputs) d.ceilings (length d.places) d.rules d.stage source → d.source ≡ source →
      Keeps Good (rule_line d ws source)
  unfolding rule_line add_rule rule_of
  rule_good ws (before_at k) e = stops_here
  rule_good ws (after_at {s = s} here so_far last few late) e =
      keeps_then (through (rule_word (scope d)) (bare (length d.clocks)) ws) _
      (words_fair (scope d) (length d.inputs + length d.outputs) signal_count g.signals.paired ws (omega arith))
      (λ b f. keeps_must (ends b b.part) 30 _
      (λ h. keeps_must (bounds_good d.ceilings b.bounds) 7 _
      (λ bounds. keeps_must (ltb (length d.rules) 256) 33 _
      (λ room. goes_on (one b f bounds (ltb-true (length d.rules) 256 room))))))
    where
      one : (b : Begun) → Fair (length d.inputs + length d.outputs) (length d.clocks) (length d.places) b →
          bounds_good d.ceilings b.bounds ≡ true → length d.rules < 256 → Good (add_rule d (rule_of d s b))
      one b f bounds room =
          let r = rule_of d s b in
          let n = longer d.rules r in
          let last_one : last_of 0 (d.rules ++ (r ∷ [])) ≡ s = last_more 0 d.rules r in
          let all_pass = rules_more (length d.inputs) (length d.outputs) d.ceilings (length d.places) 0 d.rules r so_far
          (made_passes s b here last f bounds) in
          record {
            signals = g.signals;
            clocks = g.clocks;
            places = g.places;
            rules = rw e (after_at here all_pass (omega arith) (omega arith) (omega arith));
            early = λ h. absurd (omega arith);
          }

  at_good : (ws : Line) → Keeps Good (at_line d ws)
  unfolding at_line rules_refusal last_of
  at_good [] = stops_here
  at_good (w ∷ []) =
      keeps_known (find 0 w d.places) _
      (λ k e. keeps_must (risen d d.source k) 34 _
      (λ up. goes_on (record {
        signals = g.signals;
        clocks = g.clocks;
        places = g.places;
        rules = next g.rules k (found_below w d.places k e) up;
        early = λ h. absurd (omega arith);
      })))
    where
      next : {source : Option ℕ} → Rules (length d.inputs) (length d.outputs) d.ceilings (length d.places) d.rules d.stage source →
          (k : ℕ) → k < length d.places → risen d source k ≡ true →
          Rules (length d.inputs) (length d.outputs) d.ceilings (length d.places) d.rules 5 (some k)
      next (before_at e) k l up = after_at l (rw e) (rw e (omega arith)) (rw e (omega arith)) (omega arith)
      next (after_at {s = s} here so_far last few late) k l up = let h = leb-true s k up in after_at l so_far (omega arith) few (omega arith)
  at_good (w ∷ v ∷ ws) = stops_here

  -- After a line that is read a good draft is good.
  pub line_good : (l : Line) → Keeps Good (read_line d l)
  unfolding read_line input_line output_line
  line_good [] = goes_on g
  line_good (w ∷ ws) =
      keeps_cond (is "input" w) _ _
      (keeps_must (leb d.stage 1) 30 _
      (λ s. keeps_signals d (length d.inputs) (with_input d) ws (λ t n k c e r. input_good d g t n (leb-true d.stage 1 s) c e r)))
      (keeps_cond (is "output" w) _ _
      (keeps_must (leb d.stage 2) 30 _
      (λ s. keeps_signals d (length d.outputs) (with_output d) ws (λ t n k c e r. output_good d g t n (leb-true d.stage 2 s) c e r)))
      (keeps_cond (is "clock" w) _ _ (clock_good d g ws)
      (keeps_cond (is "location" w) _ _ (location-good d g ws)
      (keeps_cond (is "at" w) _ _ (at_good ws) (rule_good (w ∷ ws) g.rules refl)))))

-- A good draft is good after any lines that are read.
pub lines_good : (line : ℕ) (d : Draft) (ls : List Line) (e : Draft) → Good d → read_lines line d ls ≡ reads e → Good e
unfolding read_lines
lines_good line d [] e g h = let s : d ≡ e = cc in rw (← s) g
lines_good line d (l ∷ ls) e g h = at (read_line d l) (line_good d g l) h (λ next k. lines_good (suc line) next ls e k)
  where
    at : (a : Answer Draft) → Keeps Good a → proceed line a (λ next. read_lines (suc line) next ls) ≡ reads e →
        ((next : Draft) → Good next → read_lines (suc line) next ls ≡ reads e → Good e) → Good e
    at (refused n) k h rest = absurd (let z : ◌≡◌ {A = ℕ} 0 1 = cc in omega arith)
    at (gives next) (goes_on k) h rest = rest next k h

-- After all lines of a text the draft is good.
pub all_good : (ls : List Line) (d : Draft) → read_lines 1 empty ls ≡ reads d → Good d
all_good ls d h = lines_good 1 empty ls d good_empty h

-- So the policy has all that the check asks for but a location and few enough states.
pub good_nearly : (reading : ℕ) (d : Draft) → Good d → NearlyFormed (policy_from reading d)
unfolding policy_from rules_refusal
good_nearly reading d g =
    let k = at g.rules in
    record {
      inputs = g.signals.few_inputs;
      outputs = g.signals.few_outputs;
      clocks = g.clocks.few;
      input_tags = g.signals.input_tags;
      output_tags = g.signals.output_tags;
      ceilings = g.clocks.good;
      locations = g.places.few;
      bytes = g.places.paired;
      left = g.places.good;
      rule_count = k.0;
      rules = k.1;
    }
  where
    at : {source : Option ℕ} → Rules (length d.inputs) (length d.outputs) d.ceilings (length d.places) d.rules d.stage source →
        (length d.rules ≤ 256) × (rules_refusal (length d.inputs) (length d.outputs) d.ceilings (length d.places) 0 d.rules ≡ 0)
    at (before_at e) = (rw e (omega arith), rw e)
    at (after_at here so_far last few late) = (few, so_far)

-- Its file has at most 5,974 bytes, also where the check refuses it.
pub good_at_most : (d : Draft) → Good d → length (bytes_of (policy_from 1 d)) ≤ 5974
good_at_most d g = bytes_at_most (policy_from 1 d) (good_nearly 1 d g)
