-- Names may be changed: words that are other names are read alike.
-- In order: what a renaming is; words that it may change; what it does to words compared, found, and read as letters or numbers; the words of a rule.
use Rattle.std.specs.Prelude.{◌≡◌, Bool, true, false, cond, ℕ, suc, eqb, length}
use Rattle.std.proofs.Math.Path.{refl, ap, sym}
use Rattle.std.proofs.Common.{◌∙◌, arith, eqb-true, ne_eqb}
use Rattle.std.proofs.lemmas.Bool.{false≢true}
use mathlib.Core.List.{List, [], ◌∷◌, ◌++◌}
use Rattle.std.proofs.Math.Option.{Option, none, some}
use Rattle.streams.specs.Answer.{Answer, refused, gives}
use Rattle.policy.specs.Check.{is_capital}
use Rattle.wording.specs.Words.{Word, Line}
use Rattle.wording.specs.Names.{same, find, every, is_digit, is_plain, is_name, is_number, letters_of, ◌and_then◌, known, numbered, through}
use Rattle.wording.specs.NamesBack.{same_self, same_true}
use Rattle.wording.specs.OtherWords.{name_low, no_digit, no_capital, no_name}
use Rattle.wording.specs.Reader.{letter}
use Rattle.wording.specs.Reader.{Begun, Part, opening, more, arrow, sign, at_least, at_most, goes, gone, clears, turn, on_signal, Scope, signal_by, signal, signal_or, condition, word_at, rule_word}

-- Words for words: a name for a name, no two for one, an `!` before what it stands before, and any other word as it is.
pub record Renaming : Type 0 where
  pub to : Word → Word
  pub named : (w : Word) → is_name (to w) ≡ is_name w
  pub apart : (v w : Word) → to v ≡ to w → v ≡ w
  pub off : (w : Word) → to (33 ∷ w) ≡ 33 ∷ to w
  pub other : (c : ℕ) (cs : Word) → is_name (c ∷ cs) ≡ false → eqb c 33 ≡ false → to (c ∷ cs) ≡ c ∷ cs
  pub nothing : to [] ≡ []

-- Each word of a list, changed by f.
abbrev pub each : (Word → Word) → List Word → List Word
each f [] = []
each f (w ∷ ws) = f w ∷ each f ws

-- Each word of each line, changed by f.
abbrev pub each_line : (Word → Word) → List Line → List Line
each_line f [] = []
each_line f (l ∷ ls) = each f l ∷ each_line f ls

-- There are as many words as before.
pub each_length : (f : Word → Word) (ws : List Word) → length (each f ws) ≡ length ws
each_length f [] = refl
each_length f (w ∷ ws) = ap suc (each_length f ws)

-- One word more is changed as the others are.
pub each_more : (f : Word → Word) (ws : List Word) (w : Word) → each f (ws ++ (w ∷ [])) ≡ each f ws ++ (f w ∷ [])
each_more f [] w = refl
each_more f (v ∷ ws) w = ap (λ (z : List Word). f v ∷ z) (each_more f ws w)

-- A name is no letter.
name_letter : (before : List ℕ) (w : Word) → is_name w ≡ true → letter before w ≡ refused 30
name_letter before [] h = absurd (no_name h)
name_letter before (c ∷ []) h = let low = name_low c [] h in rw (no_capital c (omega arith))
name_letter before (c ∷ d ∷ ds) h = refl

off_letter : (before : List ℕ) (cs : Word) → letter before (33 ∷ cs) ≡ refused 30
off_letter before [] = refl
off_letter before (c ∷ cs) = refl

module _ {A : Type 0} (go : ℕ → Answer A) where
  name_number : (w : Word) → is_name w ≡ true → numbered w go ≡ refused 30
  unfolding numbered is_number
  name_number [] h = absurd (no_name h)
  name_number (c ∷ cs) h = let low = name_low c cs h in rw (no_digit c (omega arith))

  off_number : (cs : Word) → numbered (33 ∷ cs) go ≡ refused 30
  unfolding numbered is_number is_digit
  off_number cs = refl

name_condition : (s : Scope) (b : Begun) (w : Word) → is_name w ≡ true → condition s b w ≡ signal_or s b w (signal s w)
unfolding condition
name_condition s b [] h = absurd (no_name h)
name_condition s b (c ∷ cs) h = let low = name_low c cs h in rw (ne_eqb c 33 (λ e. omega arith))

name_signal : (letters : List ℕ) (names : List Word) (w : Word) → is_name w ≡ true → signal_by letters names w ≡ find 0 w names
name_signal letters names [] h = absurd (no_name h)
name_signal letters names (c ∷ cs) h = let low = name_low c cs h in rw (no_capital c (omega arith))

module _ (r : Renaming) where
  -- The four kinds of words.
  data Case : Word → Type 0 where
    empty_word : Case []
    off_word : (cs : Word) → Case (33 ∷ cs)
    name_word : {w : Word} → is_name w ≡ true → Case w
    other_word : (c : ℕ) (cs : Word) → eqb c 33 ≡ false → r.to (c ∷ cs) ≡ c ∷ cs → Case (c ∷ cs)

  case_of : (w : Word) → Case w
  case_of [] = empty_word
  case_of (c ∷ cs) = go (eqb c 33) refl (is_name (c ∷ cs)) refl
    where
      go : (s : Bool) → eqb c 33 ≡ s → (t : Bool) → is_name (c ∷ cs) ≡ t → Case (c ∷ cs)
      go true e t f = rw (eqb-true c 33 e) (off_word cs)
      go false e true f = name_word f
      go false e false f = other_word c cs e (r.other c cs f e)

  -- Renamed words are the same exactly if they were before.
  pub same_to : (v w : Word) → same (r.to v) (r.to w) ≡ same v w
  same_to v w = go (same v w) refl
    where
      no : (t : Bool) → same (r.to v) (r.to w) ≡ t → same v w ≡ false → t ≡ false
      no true f e = absurd (false≢true (sym e ∙ ap (same v) (sym (r.apart v w (same_true (r.to v) (r.to w) f))) ∙ same_self v))
      no false f e = refl

      go : (s : Bool) → same v w ≡ s → same (r.to v) (r.to w) ≡ s
      go true e = ap (λ (z : Word). same (r.to v) (r.to z)) (sym (same_true v w e)) ∙ same_self (r.to v)
      go false e = no (same (r.to v) (r.to w)) refl e

  -- A renamed word is found among renamed ones where it was before.
  pub find_to : (i : ℕ) (w : Word) (vs : List Word) → find i (r.to w) (each r.to vs) ≡ find i w vs
  unfolding find
  find_to i w [] = refl
  find_to i w (v ∷ vs) = rw (same_to v w, find_to (suc i) w vs)

  -- A renaming does not change whether a word is a given one that is no name and begins with no `!`.
  pub stays : (c : ℕ) (cs : Word) → is_name (c ∷ cs) ≡ false → eqb c 33 ≡ false → (w : Word) → same (r.to w) (c ∷ cs) ≡ same w (c ∷ cs)
  stays c cs e f w = ap (same (r.to w)) (sym (r.other c cs e f)) ∙ same_to w (c ∷ cs)

  -- A word is the same letter after a renaming, or is refused alike.
  pub letter_to : (before : List ℕ) (w : Word) → letter before (r.to w) ≡ letter before w
  letter_to before w = go (case_of w)
    where
      go : {w : Word} → Case w → letter before (r.to w) ≡ letter before w
      go empty_word = ap (letter before) r.nothing
      go (off_word cs) = ap (letter before) (r.off cs) ∙ off_letter before (r.to cs) ∙ sym (off_letter before cs)
      go (name_word {w = w} h) = name_letter before (r.to w) (r.named w ∙ h) ∙ sym (name_letter before w h)
      go (other_word c cs e f) = ap (letter before) f

  -- A word is the same number after a renaming, or is refused alike.
  pub numbered_to : {A : Type 0} (w : Word) (next : ℕ → Answer A) → numbered (r.to w) next ≡ numbered w next
  numbered_to w next = go (case_of w)
    where
      go : {w : Word} → Case w → numbered (r.to w) next ≡ numbered w next
      go empty_word = ap (λ (v : Word). numbered v next) r.nothing
      go (off_word cs) = ap (λ (v : Word). numbered v next) (r.off cs) ∙ off_number next (r.to cs) ∙ sym (off_number next cs)
      go (name_word {w = w} h) = name_number next (r.to w) (r.named w ∙ h) ∙ sym (name_number next w h)
      go (other_word c cs e f) = ap (λ (v : Word). numbered v next) f

  signal_to : (letters : List ℕ) (names : List Word) (w : Word) → signal_by letters (each r.to names) (r.to w) ≡ signal_by letters names w
  signal_to letters names w = go (case_of w)
    where
      go : {w : Word} → Case w → signal_by letters (each r.to names) (r.to w) ≡ signal_by letters names w
      go empty_word = ap (signal_by letters (each r.to names)) r.nothing
      go (off_word cs) =
          ap (signal_by letters (each r.to names)) (r.off cs) ∙ ap (λ (v : Word). find 0 v (each r.to names)) (sym (r.off cs)) ∙ find_to 0 (33 ∷ cs) names
      go (name_word {w = w} h) =
          name_signal letters (each r.to names) (r.to w) (r.named w ∙ h) ∙ find_to 0 w names ∙ sym (name_signal letters names w h)
      go (other_word c cs e f) =
          ap (signal_by letters (each r.to names)) f
          ∙ ap (cond (is_capital c) (find 0 (c ∷ cs) (letters_of letters))) (ap (λ (v : Word). find 0 v (each r.to names)) (sym f) ∙ find_to 0 (c ∷ cs) names)

  -- A scope with its names renamed.
  abbrev pub scoped : Scope → Scope
  scoped s = record { letters = s.letters; names = each r.to s.names; clocks = each r.to s.clocks; places = each r.to s.places }

  module _ (s : Scope) (b : Begun) where
    signal_in : (w : Word) → signal (scoped s) (r.to w) ≡ signal s w
    unfolding signal
    signal_in w = signal_to s.letters s.names w

    or_to : (w : Word) (o : Option ℕ) → signal_or (scoped s) b (r.to w) o ≡ signal_or s b w o
    or_to w none = ap (λ (o : Option ℕ). known o (λ k. gives (turn (sign k) b))) (find_to 0 w s.clocks)
    or_to w (some i) = refl

    or_in : (w : Word) → signal_or (scoped s) b (r.to w) (signal (scoped s) (r.to w)) ≡ signal_or s b w (signal s w)
    or_in w = ap (signal_or (scoped s) b (r.to w)) (signal_in w) ∙ or_to w (signal s w)

    condition_to : (w : Word) → condition (scoped s) b (r.to w) ≡ condition s b w
    unfolding condition
    condition_to w = go (case_of w)
      where
        go : {w : Word} → Case w → condition (scoped s) b (r.to w) ≡ condition s b w
        go empty_word = ap (condition (scoped s) b) r.nothing
        go (off_word cs) = ap (condition (scoped s) b) (r.off cs) ∙ ap (λ (o : Option ℕ). known o (on_signal b 0)) (signal_in cs)
        go (name_word {w = w} h) = name_condition (scoped s) b (r.to w) (r.named w ∙ h) ∙ or_in w ∙ sym (name_condition s b w h)
        go (other_word c cs e f) =
            ap (condition (scoped s) b) f
            ∙ rw e (ap (λ (v : Word). signal_or (scoped s) b v (signal (scoped s) v)) (sym f) ∙ or_in (c ∷ cs))

    word_to : (part : Part) (w : Word) → word_at (scoped s) b part (r.to w) ≡ word_at s b part w
    unfolding word_at is_name is_plain every is_digit same
    word_to opening w = rw (stays 97 _ refl refl w, condition_to w)
    word_to more w = rw (stays 45 _ refl refl w, condition_to w)
    word_to arrow w = rw (stays 45 _ refl refl w)
    word_to (sign k) w = rw (stays 62 _ refl refl w, stays 60 _ refl refl w)
    word_to (at_least k) w = numbered_to w _
    word_to (at_most k) w = numbered_to w _
    word_to goes w = rw (stays 118 _ refl refl w, find_to 0 w s.places)
    word_to gone w = rw (stays 114 _ refl refl w)
    word_to clears w = rw (find_to 0 w s.clocks)

  -- The words of a rule say the same after a renaming, if what they may name is renamed too.
  pub words_to : (s : Scope) (b : Begun) (ws : Line) → through (rule_word (scoped s)) b (each r.to ws) ≡ through (rule_word s) b ws
  unfolding through
  words_to s b [] = refl
  words_to s b (w ∷ ws) = rw (word_to s b b.part w) (go (word_at s b b.part w) (λ c. words_to s c ws))
    where
      go : (a : Answer Begun) → ((c : Begun) → through (rule_word (scoped s)) c (each r.to ws) ≡ through (rule_word s) c ws) →
          (a and_then λ c. through (rule_word (scoped s)) c (each r.to ws)) ≡ (a and_then λ c. through (rule_word s) c ws)
      go (refused n) rest = refl
      go (gives c) rest = rest c
