-- After every line each name that was noted stands for the signal of its letter.
-- In order: what it means that names stand for signals; one signal more; what a line notes; all kinds of lines.
use Rattle.std.specs.Prelude.{◌≡◌, refl, Bool, true, false, cond, ◌||◌, ℕ, suc, ◌+◌, ◌≤◌, leb}
use Rattle.std.proofs.Common.{ap, ◌∙◌, arith, length-append, leb-true}
use Rattle.std.proofs.Math.Path.{sym}
use mathlib.Core.List.{List, [], ◌∷◌, ◌++◌, append_assoc, append-nil}
use Rattle.std.proofs.Math.Option.{none, some}
use Rattle.std.proofs.Math.ListN.{length}
use Rattle.streams.specs.Tests.{either_first, either_second}
use Rattle.policy.specs.Rules.{Rule}
use Rattle.policy.specs.Check.{is_capital, among}
use Rattle.wording.specs.Words.{Word, Line}
use Rattle.wording.specs.Names.{same, find, is, is_name, letters_of}
use Rattle.wording.specs.NamesBack.{same_self, find_letter}
use Rattle.wording.specs.Reader.{Draft, tags, with_input, with_output, input_line, output_line}
use Rattle.wording.specs.Reader.{signal_by, add_rule, read_line}
use Rattle.wording.specs.Kept.{Keeps, goes_on, keeps_weak, keeps_must, keeps_cond, keeps_if}
use Rattle.wording.specs.Good.{Good, Signalled, unnamed, named, keeps_signals}
use Rattle.wording.specs.Others.{Aside, clock_aside, location_aside, at_aside, rule_adds}
use Rattle.wording.specs.Lettered.{Named, noted}
use Rattle.wording.specs.OtherWords.{name_low, no_name, no_capital}

-- A name's signal and its letter's are one.
pub record Stands (letters : List ℕ) (names : List Word) (s : Named) : Type 0 where
  pub number : ℕ
  pub by_name : signal_by letters names s.name ≡ some number
  pub by_letter : signal_by letters names (s.letter ∷ []) ≡ some number
  pub name : is_name s.name ≡ true
  pub capital : is_capital s.letter ≡ true

-- Each of these names stands so.
pub data AllStand (letters : List ℕ) (names : List Word) : List Named → Type 0 where
  stand_none : AllStand letters names []
  stand_more : {s : Named} {ss : List Named} → Stands letters names s → AllStand letters names ss → AllStand letters names (s ∷ ss)

-- Each of these names stands so in the draft d.
abbrev pub StandsIn : Draft → List Named → Type 0
StandsIn d ss = AllStand (tags d) d.names ss

-- What a name stood for it stands for after more signals.
find_front : (i : ℕ) (w : Word) (vs us : List Word) (k : ℕ) → find i w vs ≡ some k → find i w (vs ++ us) ≡ some k
unfolding find
find_front i w [] us k e = absurd (let z : ◌≡◌ {A = ℕ} 0 1 = cc in omega arith)
find_front i w (v ∷ vs) us k e = go (same v w) e (find_front (suc i) w vs us k)
  where
    go : (t : Bool) → cond t (some i) (find (suc i) w vs) ≡ some k → (find (suc i) w vs ≡ some k → find (suc i) w (vs ++ us) ≡ some k) →
        cond t (some i) (find (suc i) w (vs ++ us)) ≡ some k
    go true h rest = h
    go false h rest = rest h

find_last : (i : ℕ) (w : Word) (vs : List Word) → find i w vs ≡ none → find i w (vs ++ (w ∷ [])) ≡ some (i + length vs)
unfolding find
find_last i w [] e = let z : i + 0 ≡ i = omega arith in rw (same_self w, z)
find_last i w (v ∷ vs) e = go (same v w) e (find_last (suc i) w vs)
  where
    go : (t : Bool) → cond t (some i) (find (suc i) w vs) ≡ none → (find (suc i) w vs ≡ none → find (suc i) w (vs ++ (w ∷ [])) ≡ some (suc i + length vs)) →
        cond t (some i) (find (suc i) w (vs ++ (w ∷ []))) ≡ some (i + suc (length vs))
    go true h rest = absurd (let z : ◌≡◌ {A = ℕ} 0 1 = cc in omega arith)
    go false h rest = let z : suc i + length vs ≡ i + suc (length vs) = omega arith in rest h ∙ ap some z

letters_more : (ts : List ℕ) (t : ℕ) → letters_of (ts ++ (t ∷ [])) ≡ letters_of ts ++ ((t ∷ []) ∷ [])
unfolding letters_of
letters_more [] t = refl
letters_more (x ∷ ts) t = ap (λ (z : Line). (x ∷ []) ∷ z) (letters_more ts t)

module _ (letters : List ℕ) (names : List Word) (t : ℕ) (n : Word) where
  signal_more : (w : Word) (i : ℕ) → signal_by letters names w ≡ some i → signal_by (letters ++ (t ∷ [])) (names ++ (n ∷ [])) w ≡ some i
  signal_more [] i e = e
  signal_more (c ∷ cs) i e = go (is_capital c) e
    where
      go : (b : Bool) → cond b (find 0 (c ∷ cs) (letters_of letters)) (find 0 (c ∷ cs) names) ≡ some i →
          cond b (find 0 (c ∷ cs) (letters_of (letters ++ (t ∷ [])))) (find 0 (c ∷ cs) (names ++ (n ∷ []))) ≡ some i
      go true h = rw (letters_more letters t) (find_front 0 (c ∷ cs) (letters_of letters) ((t ∷ []) ∷ []) i h)
      go false h = find_front 0 (c ∷ cs) names (n ∷ []) i h

  stand_on : {ss : List Named} → AllStand letters names ss → AllStand (letters ++ (t ∷ [])) (names ++ (n ∷ [])) ss
  stand_on stand_none = stand_none
  stand_on (stand_more {s = s} k ks) =
      stand_more (record {
        number = k.number;
        by_name = signal_more s.name k.number k.by_name;
        by_letter = signal_more (s.letter ∷ []) k.number k.by_letter;
        name = k.name;
        capital = k.capital;
      }) (stand_on ks)

  new_stands : is_name n ≡ true → find 0 n names ≡ none → is_capital t ≡ true → among t letters ≡ false → length names ≡ length letters →
      Stands (letters ++ (t ∷ [])) (names ++ (n ∷ [])) (record { letter = t; name = n })
  new_stands f g c e long =
      record {
        number = length letters;
        by_name = by-name n f g;
        by_letter = rw c (let z : 0 + length letters ≡ length letters = omega arith in find_letter 0 t letters [] e ∙ ap some z);
        name = f;
        capital = c;
      }
    where
      by-name : (w : Word) → is_name w ≡ true → find 0 w names ≡ none → signal_by (letters ++ (t ∷ [])) (names ++ (w ∷ [])) w ≡ some (length letters)
      by-name [] f g = absurd (no_name f)
      by-name (x ∷ xs) f g =
          let low = name_low x xs f in
          let small : is_capital x ≡ false = no_capital x (omega arith) in
          let z : 0 + length names ≡ length letters = omega arith in
          rw small (find_last 0 (x ∷ xs) names g ∙ ap some z)

-- A line that declares no signal notes no name.
noted_other : (ss : List Named) (w : Word) (ws : Line) → is "input" w ≡ false → is "output" w ≡ false → noted ss (w ∷ ws) ≡ ss
unfolding noted
noted_other ss w [] a b = refl
noted_other ss w (x ∷ []) a b = refl
noted_other ss w ([] ∷ n ∷ []) a b = refl
noted_other ss w ((t ∷ []) ∷ n ∷ []) a b = rw (a, b)
noted_other ss w ((t ∷ u ∷ us) ∷ n ∷ []) a b = refl
noted_other ss w (x ∷ n ∷ v ∷ ws) a b = refl

stand_last : {letters : List ℕ} {names : List Word} {ss : List Named} {s : Named} → AllStand letters names ss → Stands letters names s → AllStand letters names (ss ++ (s ∷ []))
stand_last stand_none n = stand_more n stand_none
stand_last (stand_more k ks) n = stand_more k (stand_last ks n)

module _ (d : Draft) (g : Good d) {ss : List Named} (k : StandsIn d ss) where
  signal_noted : (w : Word) (ws : Line) (t : ℕ) (n : Word) → (is "input" w || is "output" w) ≡ true → Signalled d ws t n → is_capital t ≡ true →
      among t (tags d) ≡ false → AllStand (tags d ++ (t ∷ [])) (d.names ++ (n ∷ [])) (noted ss (w ∷ ws))
  unfolding noted
  signal_noted w ws t n h unnamed c e = stand_on (tags d) d.names t [] k
  signal_noted w ws t n h (named f free) c e =
      let long : length d.names ≡ length (tags d) = g.signals.paired ∙ sym (length-append d.inputs d.outputs) in
      rw (h, c) (stand_last (stand_on (tags d) d.names t n k) (new_stands (tags d) d.names t n f free c e long))

  input_noted : (w : Word) (ws : Line) (t : ℕ) (n : Word) → is "input" w ≡ true → d.stage ≤ 1 → Signalled d ws t n → is_capital t ≡ true →
      among t (tags d) ≡ false → StandsIn (with_input d t n) (noted ss (w ∷ ws))
  input_noted w ws t n h s x c e =
      let none_out = g.early s in
      let order : tags (with_input d t n) ≡ tags d ++ (t ∷ []) =
      ap (λ (o : List ℕ). (d.inputs ++ (t ∷ [])) ++ o) none_out ∙ append-nil (d.inputs ++ (t ∷ []))
      ∙ ap (λ (z : List ℕ). z ++ (t ∷ [])) (sym (append-nil d.inputs) ∙ ap (λ (o : List ℕ). d.inputs ++ o) (sym none_out)) in
      rw order (signal_noted w ws t n (either_first (is "input" w) (is "output" w) h) x c e)

  output_noted : (w : Word) (ws : Line) (t : ℕ) (n : Word) → is "output" w ≡ true → Signalled d ws t n → is_capital t ≡ true →
      among t (tags d) ≡ false → StandsIn (with_output d t n) (noted ss (w ∷ ws))
  output_noted w ws t n h x c e =
      rw (← append_assoc d.inputs d.outputs (t ∷ [])) (signal_noted w ws t n (either_second (is "input" w) (is "output" w) h) x c e)

  aside_stands : (e : Draft) → Aside d e → StandsIn e ss
  aside_stands e a = rw (a.letters, a.names) k

  added_stands : (e : Draft) → (r : Rule) × (e ≡ add_rule d r) → StandsIn e ss
  unfolding add_rule
  added_stands e a = rw a.1 k

  blank_noted : StandsIn d (noted ss [])
  unfolding noted
  blank_noted = k

  -- After a line that is read, each name noted so far stands for the signal of its letter.
  pub line_noted : (l : Line) → Keeps (λ e. StandsIn e (noted ss l)) (read_line d l)
  unfolding read_line input_line output_line
  line_noted [] = goes_on blank_noted
  line_noted (w ∷ ws) =
      keeps_if (is "input" w) _ _
      (λ a. keeps_must (leb d.stage 1) 30 _
      (λ s. keeps_signals d (length d.inputs) (with_input d) ws (λ t n x c e r. input_noted w ws t n a (leb-true d.stage 1 s) x c e)))
      (λ a. keeps_if (is "output" w) _ _
      (λ b. keeps_must (leb d.stage 2) 30 _
      (λ s. keeps_signals d (length d.outputs) (with_output d) ws (λ t n x c e r. output_noted w ws t n b x c e)))
      (λ b. rw (noted_other ss w ws a b)
      (keeps_cond (is "clock" w) _ _ (keeps_weak aside_stands (clock_aside d ws))
      (keeps_cond (is "location" w) _ _ (keeps_weak aside_stands (location_aside d ws))
      (keeps_cond (is "at" w) _ _ (keeps_weak aside_stands (at_aside d ws)) (keeps_weak added_stands (rule_adds d (w ∷ ws) d.source)))))))
