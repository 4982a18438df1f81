-- What is known of the answers: how large a refusal is, that a name is short, and which numbers stay 0.
use Rattle.std.proofs.Math.Path.{◌≡◌, refl, ap}
use Rattle.std.proofs.Common.{sym, arith}
use Rattle.std.specs.Prelude.{Bool, cond, ◌&&◌, ◌||◌, leb, ltb, get_or}
use Rattle.std.proofs.Math.Bool.{true, false}
use Rattle.std.proofs.lemmas.Bool.{false≢true}
use mathlib.Core.List.{List, [], ◌∷◌}
use Prim.Native.Nat.{ℕ, zero, suc, ◌+◌, ◌≤◌, ◌<◌}
use Rattle.std.proofs.Math.ListN.{length}
use Rattle.streams.specs.Answer.{Answer, refused, gives}
use Rattle.policy.specs.Check.{ceiling_good}
use Rattle.texts.specs.Text.{ascii}
use Rattle.wording.specs.Words.{Word, Line, words_of, each_words, split, lines_of}
use Rattle.wording.specs.Names.{same, find, is}
use Rattle.wording.specs.NamesBack.{same_true, name_few}
use Rattle.wording.specs.Reader.{Draft, empty, with_input, with_output, signal_line, input_line, output_line, clock_line, new_place, location_line, read_line}
use Rattle.wording.specs.Reader.{FromText, stops, reads, proceed, read_lines, file_from_text}
use Rattle.wording.specs.Kept.{Keeps, stops_here, goes_on, kept, keeps_must, keeps_if, keeps_free, keeps_numbered}
use Rattle.wording.specs.Good.{Signalled, unnamed, named, keeps_name, keeps_signals}
use Rattle.wording.specs.Given.{stopped_by, read_said}
use Rattle.pointing.specs.NameAt.{NameAt, declares, name_word, word_place, standing, name_in, pick, names_from, name_given}

-- A line that is read and declares has a short name, or none.
module _ (d : Draft) where
  signal_few : (count : ℕ) (go : ℕ → Word → Draft) (ws : Line) → Keeps (λ e. length (get_or ws 1 []) ≤ 16) (signal_line d count go ws)
  signal_few count go ws = keeps_signals d count go ws (λ t n x c e r. short x)
    where
      short : {vs : Line} {t : ℕ} {n : Word} → Signalled d vs t n → length (get_or vs 1 []) ≤ 16
      short unnamed = omega arith
      short (named {n = n} f free) = name_few n f

  clock_few : (ws : Line) → Keeps (λ e. length (get_or ws 0 []) ≤ 16) (clock_line d ws)
  unfolding clock_line
  clock_few [] = stops_here
  clock_few (v ∷ []) = stops_here
  clock_few (v ∷ n ∷ []) =
      keeps_must (leb d.stage 3) 30 _
      (λ s. keeps_name d v d.clocks _
      (λ e f. keeps_free (find 0 v d.names) _
      (λ h. keeps_numbered n _
      (λ c. keeps_must (ceiling_good c) 4 _ (λ good. keeps_must (ltb (length d.clocks) 4) 33 _ (λ room. goes_on (name_few v e)))))))
  clock_few (v ∷ n ∷ u ∷ ws) = stops_here

  place_few : (v : Word) (byte : ℕ) → Keeps (λ e. length v ≤ 16) (new_place d v byte)
  unfolding new_place
  place_few v byte =
      keeps_must (leb d.stage 4) 30 _
      (λ s. keeps_name d v d.places _ (λ e f. keeps_must (ltb (length d.places) 64) 33 _ (λ room. goes_on (name_few v e))))

  location_few : (ws : Line) → Keeps (λ e. length (get_or ws 0 []) ≤ 16) (location_line d ws)
  unfolding location_line
  location_few [] = stops_here
  location_few (v ∷ []) = place_few v 0
  location_few (v ∷ a ∷ []) = stops_here
  location_few (v ∷ a ∷ b ∷ []) = stops_here
  location_few (v ∷ a ∷ b ∷ c ∷ []) = keeps_must (is "must" a && (is "be" b && is "left" c)) 30 _ (λ e. place_few v 1)
  location_few (v ∷ a ∷ b ∷ c ∷ u ∷ ws) = stops_here

  neither : (a b : Bool) → a ≡ false → b ≡ false → (a || b) ≡ true → ⊥
  neither false false e f h = false≢true h
  neither true b e f h = false≢true (sym e)
  neither false true e f h = false≢true (sym f)

  line_few : (kind : ℕ) (l : Line) → declares kind l ≡ true → Keeps (λ e. length (get_or l (name_word kind) []) ≤ 16) (read_line d l)
  unfolding read_line input_line output_line same
  line_few zero [] h = absurd (false≢true h)
  line_few (suc zero) [] h = absurd (false≢true h)
  line_few (suc (suc k)) [] h = absurd (false≢true h)
  line_few zero (w ∷ ws) h =
      keeps_if (is "input" w) _ _ (λ a. keeps_must (leb d.stage 1) 30 _ (λ s. signal_few (length d.inputs) (with_input d) ws))
      (λ a. keeps_if (is "output" w) _ _ (λ b. keeps_must (leb d.stage 2) 30 _ (λ s. signal_few (length d.outputs) (with_output d) ws))
      (λ b. absurd (neither (is "input" w) (is "output" w) a b h)))
  line_few (suc zero) (w ∷ ws) h =
      let e = same_true w (ascii "clock") h in
      let a : is "input" w ≡ false = ap (is "input") e in
      let b : is "output" w ≡ false = ap (is "output") e in
      rw (a, b, h) (clock_few ws)
  line_few (suc (suc k)) (w ∷ ws) h =
      let e = same_true w (ascii "location") h in
      let a : is "input" w ≡ false = ap (is "input") e in
      let b : is "output" w ≡ false = ap (is "output") e in
      let c : is "clock" w ≡ false = ap (is "clock") e in
      rw (a, b, c, h) (location_few ws)

-- An answer for a name: with a refusal only its line is told, and without one only where the name stands.
pub record Shaped (r : NameAt) : Type 0 where
  pub few : r.length ≤ 16
  pub number : r.refusal ≤ 35
  pub found : r.refusal ≡ 0 → r.line ≡ 0
  pub none : (r.refusal ≡ 0 → ⊥) → (r.place ≡ 0) × (r.length ≡ 0)

standing_shaped : (place size : ℕ) → size ≤ 16 → Shaped (standing place size)
standing_shaped place zero h = record { few = omega arith; number = omega arith; found = λ e. refl; none = λ e. absurd (e refl) }
standing_shaped place (suc n) h = record { few = h; number = omega arith; found = λ e. refl; none = λ e. absurd (e refl) }

refused_shaped : (n line : ℕ) → 0 < n → n ≤ 35 → Shaped (record { refusal = n; line = line; place = 0; length = 0 })
refused_shaped n line h l = record { few = omega arith; number = l; found = λ e. absurd (omega arith); none = λ e. (refl, refl) }

module _ (kind : ℕ) where
  name_shaped : (at : ℕ) (l : List ℕ) → length (get_or (words_of l) (name_word kind) []) ≤ 16 → Shaped (name_in kind at l)
  unfolding name_in
  name_shaped at l h = standing_shaped (at + word_place (name_word kind) l) (length (get_or (words_of l) (name_word kind) [])) h

  names_shaped : (at i line : ℕ) (d : Draft) (ls : List (List ℕ)) (e : Draft) → read_lines line d (each_words ls) ≡ reads e → Shaped (names_from kind at i ls)
  unfolding names_from read_lines
  names_shaped at i line d [] e h = refused_shaped 35 0 (omega arith) (omega arith)
  names_shaped at i line d (l ∷ ls) e h =
      go (declares kind (words_of l)) (read_line d (words_of l)) i (line_few d kind (words_of l)) h (λ j next. names_shaped (at + length l + 1) j (suc line) next ls e)
    where
      go : (t : Bool) (a : Answer Draft) (j : ℕ) → (t ≡ true → Keeps (λ e. length (get_or (words_of l) (name_word kind) []) ≤ 16) a) →
          proceed line a (λ next. read_lines (suc line) next (each_words ls)) ≡ reads e →
          ((j : ℕ) (next : Draft) → read_lines (suc line) next (each_words ls) ≡ reads e → Shaped (names_from kind (at + length l + 1) j ls)) →
          Shaped (cond t (pick j (name_in kind at l) (λ m. names_from kind (at + length l + 1) m ls)) (names_from kind (at + length l + 1) j ls))
      go t (refused n) j k h rest = absurd (let z : ◌≡◌ {A = ℕ} 0 1 = cc in omega arith)
      go true (gives next) zero k h rest = name_shaped at l (kept (k refl))
      go true (gives next) (suc j) k h rest = rest j next h
      go false (gives next) j k h rest = rest j next h

  -- Every answer for a name is of this shape: the name has at most 16 bytes, and the refusal is at most 35.
  pub given_shaped : (text : List ℕ) (i : ℕ) → Shaped (name_given kind text i (file_from_text text))
  unfolding lines_of
  given_shaped text i = go (file_from_text text) refl
    where
      go : (x : FromText (List ℕ)) → file_from_text text ≡ x → Shaped (name_given kind text i x)
      go (stops n line) e = let k = stopped_by text n line e in refused_shaped n line k.0 (omega (arith, k.1))
      go (reads f) e = let s = read_said text f e in names_shaped 0 i 1 empty (split text) s.draft s.lines
