-- A text in which each name gives way to another, and no two to one, is read alike.
-- In order: answers and drafts with the names changed; the tests of each kind of line; each kind of line; all lines; the text.
use Rattle.std.specs.Prelude.{◌≡◌, Bool, ◌&&◌, ℕ, suc, leb, ltb, length}
use Rattle.std.proofs.Math.Path.{refl, ap}
use Rattle.std.proofs.Common.{sym, ◌∙◌}
use Rattle.std.proofs.Math.Bool.{true, false, cond}
use mathlib.Core.List.{List, [], ◌∷◌, ◌++◌}
use Rattle.std.proofs.Math.Option.{Option, none, some}
use Rattle.streams.specs.Answer.{Answer, refused, gives}
use Rattle.policy.specs.Rules.{Policy}
use Rattle.policy.specs.Check.{ceiling_good, bounds_good}
use Rattle.texts.specs.Decimal.{value_from}
use Rattle.wording.specs.Words.{Word, Line, lines_of}
use Rattle.wording.specs.Names.{same, find, is, every, is_digit, is_plain, is_name, is_number, ◌and_then◌, must, known, free, numbered, through}
use Rattle.wording.specs.Reader.{Draft, empty, letter, tags, new_signal, with_input, with_output, signal_line, input_line, output_line, clock_line, new_place, location_line, risen, at_line}
use Rattle.wording.specs.Reader.{Begun, bare, scope, rule_word}
use Rattle.wording.specs.Reader.{ends, rule_of, add_rule, rule_line, read_line, FromText, reads, stops, proceed, read_lines, policy_from, policy_from_text, said_by, filed, file_from_text}
use Rattle.wording.specs.Renamed.{Renaming, each, each_line, each_length, each_more, find_to, stays, letter_to, numbered_to, words_to}

-- Answers with what they give changed.
module _ {A B : Type 0} (f : A → B) where
  abbrev giving : Answer A → Answer B
  giving (refused n) = refused n
  giving (gives a) = gives (f a)

  giving_must : (t : Bool) (n : ℕ) (a : Answer A) → must t n (giving a) ≡ giving (must t n a)
  giving_must true n a = refl
  giving_must false n a = refl

module _ (r : Renaming) where
  -- A draft with the names changed.
  abbrev redrawn : Draft → Draft
  redrawn d =
      record {
        inputs = d.inputs;
        outputs = d.outputs;
        names = each r.to d.names;
        clocks = each r.to d.clocks;
        ceilings = d.ceilings;
        places = each r.to d.places;
        left = d.left;
        rules = d.rules;
        stage = d.stage;
        source = d.source;
      }

  inner : (x : Bool) (y z : Option ℕ) (u : Bool) (e : Draft) → must x 30 (free y (free z (must u 33 (gives (redrawn e))))) ≡ giving redrawn (must x 30 (free y (free z (must u 33 (gives e)))))
  inner false y z u e = refl
  inner true none none true e = refl
  inner true none none false e = refl
  inner true none (some i) u e = refl
  inner true (some i) z u e = refl

  clock_cases : (x y : Bool) (o p : Option ℕ) (n : Word) (z : Bool) (e : ℕ → Draft) →
      must x 30 (must y 30 (free o (free p (numbered n λ c. must (ceiling_good c) 4 (must z 33 (gives (redrawn (e c))))))))
      ≡ giving redrawn (must x 30 (must y 30 (free o (free p (numbered n λ c. must (ceiling_good c) 4 (must z 33 (gives (e c))))))))
  unfolding numbered
  clock_cases false y o p n z e = refl
  clock_cases true false o p n z e = refl
  clock_cases true true (some i) p n z e = refl
  clock_cases true true none (some i) n z e = refl
  clock_cases true true none none n z e = at (is_number n) (leb (value_from 0 n) 65535) (ceiling_good (value_from 0 n)) z (e (value_from 0 n))
    where
      at : (s t u v : Bool) (f : Draft) → must s 30 (must t 32 (must u 4 (must v 33 (gives (redrawn f))))) ≡ giving redrawn (must s 30 (must t 32 (must u 4 (must v 33 (gives f)))))
      at false t u v f = refl
      at true false u v f = refl
      at true true false v f = refl
      at true true true false f = refl
      at true true true true f = refl

  place_cases : (x y : Bool) (o : Option ℕ) (z : Bool) (e : Draft) → must x 30 (must y 30 (free o (must z 33 (gives (redrawn e)))))
      ≡ giving redrawn (must x 30 (must y 30 (free o (must z 33 (gives e)))))
  place_cases false y o z e = refl
  place_cases true false o z e = refl
  place_cases true true (some i) z e = refl
  place_cases true true none false e = refl
  place_cases true true none true e = refl

  rule_cases : (x y z : Bool) (e : Draft) → must x 30 (must y 7 (must z 33 (gives (redrawn e)))) ≡ giving redrawn (must x 30 (must y 7 (must z 33 (gives e))))
  rule_cases false y z e = refl
  rule_cases true false z e = refl
  rule_cases true true false e = refl
  rule_cases true true true e = refl

  module _ (d : Draft) where
    signal_line_to : (count : ℕ) (go : ℕ → Word → Draft) (on : ℕ → Word → Draft) → ((t : ℕ) (n : Word) → on t (r.to n) ≡ redrawn (go t n)) → (ws : Line) →
        signal_line (redrawn d) count on (each r.to ws) ≡ giving redrawn (signal_line d count go ws)
    unfolding signal_line
    signal_line_to count go on h [] = refl
    signal_line_to count go on h (w ∷ []) = rw (letter_to r (tags d) w) (at (letter (tags d) w))
      where
        at : (a : Answer ℕ) → (a and_then λ t. must (ltb count 4) 33 (gives (on t []))) ≡ giving redrawn (a and_then λ t. must (ltb count 4) 33 (gives (go t [])))
        at (refused n) = refl
        at (gives t) =
            ap (λ (e : Draft). must (ltb count 4) 33 (gives e)) (ap (on t) (sym r.nothing) ∙ h t []) ∙ giving_must redrawn (ltb count 4) 33 (gives (go t []))
    signal_line_to count go on h (w ∷ n ∷ []) =
        rw (letter_to r (tags d) w, r.named n, find_to r 0 n d.names, find_to r 0 n d.clocks) (at (letter (tags d) w))
      where
        at : (a : Answer ℕ) → (a and_then λ t. new_signal d n (must (ltb count 4) 33 (gives (on t (r.to n)))))
            ≡ giving redrawn (a and_then λ t. new_signal d n (must (ltb count 4) 33 (gives (go t n))))
        at (refused m) = refl
        at (gives t) =
            rw (h t n) (inner (is_name n) (find 0 n d.names) (find 0 n d.clocks) (ltb count 4) (go t n))
    signal_line_to count go on h (w ∷ n ∷ v ∷ ws) = refl

    input_to : (t : ℕ) (n : Word) → with_input (redrawn d) t (r.to n) ≡ redrawn (with_input d t n)
    input_to t n =
        let m = each_more r.to d.names n in
        λ i.
        record {
          inputs = d.inputs ++ (t ∷ []);
          outputs = d.outputs;
          names = sym m i;
          clocks = each r.to d.clocks;
          ceilings = d.ceilings;
          places = each r.to d.places;
          left = d.left;
          rules = d.rules;
          stage = 1;
          source = d.source;
        }

    output_to : (t : ℕ) (n : Word) → with_output (redrawn d) t (r.to n) ≡ redrawn (with_output d t n)
    output_to t n =
        let m = each_more r.to d.names n in
        λ i.
        record {
          inputs = d.inputs;
          outputs = d.outputs ++ (t ∷ []);
          names = sym m i;
          clocks = each r.to d.clocks;
          ceilings = d.ceilings;
          places = each r.to d.places;
          left = d.left;
          rules = d.rules;
          stage = 2;
          source = d.source;
        }

    abbrev clock_of : Draft → Word → ℕ → Draft
    clock_of e w c =
        record {
          inputs = e.inputs;
          outputs = e.outputs;
          names = e.names;
          clocks = e.clocks ++ (w ∷ []);
          ceilings = e.ceilings ++ (c ∷ []);
          places = e.places;
          left = e.left;
          rules = e.rules;
          stage = 3;
          source = e.source;
        }

    clock_line_to : (ws : Line) → clock_line (redrawn d) (each r.to ws) ≡ giving redrawn (clock_line d ws)
    unfolding clock_line
    clock_line_to [] = refl
    clock_line_to (w ∷ []) = refl
    clock_line_to (w ∷ n ∷ []) =
        let m = each_more r.to d.clocks w in
        rw (r.named w, find_to r 0 w d.clocks, find_to r 0 w d.names, numbered_to r n _, each_length r.to d.clocks, ← m)
        (clock_cases (leb d.stage 3) (is_name w) (find 0 w d.clocks) (find 0 w d.names) n (ltb (length d.clocks) 4) (clock_of d w))
    clock_line_to (w ∷ n ∷ v ∷ ws) = refl

    abbrev place_of : Draft → Word → ℕ → Draft
    place_of e w byte =
        record {
          inputs = e.inputs;
          outputs = e.outputs;
          names = e.names;
          clocks = e.clocks;
          ceilings = e.ceilings;
          places = e.places ++ (w ∷ []);
          left = e.left ++ (byte ∷ []);
          rules = e.rules;
          stage = 4;
          source = e.source;
        }

    place_to : (w : Word) (byte : ℕ) → new_place (redrawn d) (r.to w) byte ≡ giving redrawn (new_place d w byte)
    unfolding new_place
    place_to w byte =
        let m = each_more r.to d.places w in
        rw (r.named w, find_to r 0 w d.places, each_length r.to d.places, ← m)
        (place_cases (leb d.stage 4) (is_name w) (find 0 w d.places) (ltb (length d.places) 64) (place_of d w byte))

    location_line_to : (ws : Line) → location_line (redrawn d) (each r.to ws) ≡ giving redrawn (location_line d ws)
    unfolding location_line is_name is_plain every is_digit same
    location_line_to [] = refl
    location_line_to (w ∷ []) = place_to w 0
    location_line_to (w ∷ a ∷ []) = refl
    location_line_to (w ∷ a ∷ b ∷ []) = refl
    location_line_to (w ∷ a ∷ b ∷ c ∷ []) =
        rw (stays r 109 _ refl refl a, stays r 98 _ refl refl b, stays r 108 _ refl refl c, place_to w 1) (giving_must redrawn (is "must" a && (is "be" b && is "left" c)) 30 (new_place d w 1))
    location_line_to (w ∷ a ∷ b ∷ c ∷ v ∷ ws) = refl

    abbrev at_of : Draft → ℕ → Draft
    at_of e k =
        record {
          inputs = e.inputs;
          outputs = e.outputs;
          names = e.names;
          clocks = e.clocks;
          ceilings = e.ceilings;
          places = e.places;
          left = e.left;
          rules = e.rules;
          stage = 5;
          source = some k;
        }

    at_line_to : (ws : Line) → at_line (redrawn d) (each r.to ws) ≡ giving redrawn (at_line d ws)
    unfolding at_line
    at_line_to [] = refl
    at_line_to (w ∷ []) = rw (find_to r 0 w d.places) (go (find 0 w d.places))
      where
        go : (o : Option ℕ) → known o (λ k. must (risen (redrawn d) d.source k) 34 (gives (at_of (redrawn d) k)))
            ≡ giving redrawn (known o λ k. must (risen d d.source k) 34 (gives (at_of d k)))
        go none = refl
        go (some k) = giving_must redrawn (risen d d.source k) 34 (gives (at_of d k))
    at_line_to (w ∷ v ∷ ws) = refl

    rule_line_to : (ws : Line) (o : Option ℕ) → rule_line (redrawn d) (each r.to ws) o ≡ giving redrawn (rule_line d ws o)
    unfolding rule_line add_rule rule_of
    rule_line_to ws none = refl
    rule_line_to ws (some s) =
        rw (each_length r.to d.clocks, words_to r (scope d) (bare (length d.clocks)) ws)
        (go (through (rule_word (scope d)) (bare (length d.clocks)) ws))
      where
        go : (a : Answer Begun) →
            (a and_then λ b. must (ends b b.part) 30 (must (bounds_good d.ceilings b.bounds) 7
            (must (ltb (length d.rules) 256) 33 (gives (add_rule (redrawn d) (rule_of (redrawn d) s b))))))
            ≡ giving redrawn (a and_then λ b. must (ends b b.part) 30 (must (bounds_good d.ceilings b.bounds) 7
            (must (ltb (length d.rules) 256) 33 (gives (add_rule d (rule_of d s b))))))
        go (refused n) = refl
        go (gives b) =
            rule_cases (ends b b.part) (bounds_good d.ceilings b.bounds) (ltb (length d.rules) 256) (add_rule d (rule_of d s b))

    line_to : (l : Line) → read_line (redrawn d) (each r.to l) ≡ giving redrawn (read_line d l)
    unfolding read_line input_line output_line is_name is_plain every is_digit same
    line_to [] = refl
    line_to (w ∷ ws) =
        let ins : input_line (redrawn d) (each r.to ws) ≡ giving redrawn (input_line d ws) =
        ap (must (leb d.stage 1) 30) (signal_line_to (length d.inputs) (with_input d) (with_input (redrawn d)) input_to ws) ∙ giving_must redrawn (leb d.stage 1) 30 _ in
        let outs : output_line (redrawn d) (each r.to ws) ≡ giving redrawn (output_line d ws) =
        ap (must (leb d.stage 2) 30) (signal_line_to (length d.outputs) (with_output d) (with_output (redrawn d)) output_to ws) ∙ giving_must redrawn (leb d.stage 2) 30 _ in
        rw (
          stays r 105 _ refl refl w,
          stays r 111 _ refl refl w,
          stays r 99 _ refl refl w,
          stays r 108 _ refl refl w,
          stays r 97 _ refl refl w,
        ) (go (is "input" w) (is "output" w) (is "clock" w) (is "location" w) (is "at" w) ins outs)
      where
        go : (a b c e f : Bool) → input_line (redrawn d) (each r.to ws) ≡ giving redrawn (input_line d ws) →
            output_line (redrawn d) (each r.to ws) ≡ giving redrawn (output_line d ws) →
            cond a (input_line (redrawn d) (each r.to ws))
            (cond b (output_line (redrawn d) (each r.to ws))
            (cond c (clock_line (redrawn d) (each r.to ws))
            (cond e (location_line (redrawn d) (each r.to ws))
            (cond f (at_line (redrawn d) (each r.to ws)) (rule_line (redrawn d) (each r.to (w ∷ ws)) d.source)))))
            ≡ giving redrawn (cond a (input_line d ws)
            (cond b (output_line d ws) (cond c (clock_line d ws) (cond e (location_line d ws) (cond f (at_line d ws) (rule_line d (w ∷ ws) d.source))))))
        go true b c e f ins outs = ins
        go false true c e f ins outs = outs
        go false false true e f ins outs = clock_line_to ws
        go false false false true f ins outs = location_line_to ws
        go false false false false true ins outs = at_line_to ws
        go false false false false false ins outs = rule_line_to (w ∷ ws) d.source

  -- What lines give, with the names of the draft changed.
  abbrev reading : FromText Draft → FromText Draft
  reading (stops n line) = stops n line
  reading (reads d) = reads (redrawn d)

  lines_to : (line : ℕ) (d : Draft) (ls : List Line) → read_lines line (redrawn d) (each_line r.to ls) ≡ reading (read_lines line d ls)
  unfolding read_lines
  lines_to line d [] = refl
  lines_to line d (l ∷ ls) = rw (line_to d l) (go (read_line d l) (λ e. lines_to (suc line) e ls))
    where
      go : (a : Answer Draft) → ((e : Draft) → read_lines (suc line) (redrawn e) (each_line r.to ls) ≡ reading (read_lines (suc line) e ls)) →
          proceed line (giving redrawn a) (λ e. read_lines (suc line) e (each_line r.to ls)) ≡ reading (proceed line a (λ e. read_lines (suc line) e ls))
      go (refused n) rest = refl
      go (gives e) rest = rest e

  same_policy : (d : Draft) → policy_from 1 (redrawn d) ≡ policy_from 1 d
  unfolding policy_from
  same_policy d =
      let n = each_length r.to d.places in
      λ i.
      record {
        reading = 1;
        inputs = d.inputs;
        outputs = d.outputs;
        ceilings = d.ceilings;
        locations = n i;
        left = d.left;
        rules = d.rules;
      }

-- A text with other names gives the same file, or the same refusal in the same line.
pub renamed_alike : (r : Renaming) (text other : List ℕ) → lines_of other ≡ each_line r.to (lines_of text) → file_from_text other ≡ file_from_text text
unfolding file_from_text policy_from_text
renamed_alike r text other e =
    ap (λ (x : FromText Draft). filed (said_by 1 x)) (ap (read_lines 1 empty) e ∙ lines_to r 1 empty (lines_of text)) ∙ go (read_lines 1 empty (lines_of text))
  where
    go : (x : FromText Draft) → filed (said_by 1 (reading r x)) ≡ filed (said_by 1 x)
    go (stops n line) = refl
    go (reads d) = ap (λ (p : Policy). filed (reads p)) (same_policy r d)
