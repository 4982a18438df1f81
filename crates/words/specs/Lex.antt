-- The next word of a line, found by counting: what the code does, and that it gives the words of the line.
-- In order: blanks, and bytes of one kind; how both are counted at a position; the kind of a byte; the next word; two words compared; the next line.
use Rattle.std.specs.Prelude.{◌≡◌, Bool, true, false, cond, not, ◌&&◌, List, [], ◌∷◌, ltb, eqb, length, get_or, take, drop}
use Rattle.std.proofs.Math.Path.{refl, sym}
use Rattle.std.proofs.Common.{ap, ◌∙◌, drop_of_length-le, length-drop, drop-cons, drop-drop, get_or-drop}
use Rattle.std.specs.Cmp.Lexicographic.{pointwise}
use Rattle.std.specs.List.{prefix_len, take_while}
use Rattle.std.proofs.Math.Seq.{take_all}
use Rattle.std.proofs.lemmas.List.Folds.{length-prefix_len}
use Rattle.std.proofs.Math.Bool.{and-eq-true_iff}
use Rattle.std.proofs.lemmas.Bool.{false≢true}
use Prim.Native.Nat.{ℕ, zero, suc, ◌+◌, ◌-◌, ◌≤◌, ◌<◌}
use native.Mathlib.Omega.{arith}
use borrow.Author.Tests.{eqb-true, ne_eqb, eq-eqb, lt-ltb, le-ltb, not-true}
use Rattle.wording.specs.Laid.{no_comment}
use Rattle.wording.specs.Names.{same}
use Rattle.wording.specs.Words.{Word, parts, is_sign, kind, onto, words_of, split}
use Rattle.words.specs.declared.words.Kind.{Kind}

-- The kind's number in `Words.kind`.
abbrev pub kind_number : Kind → ℕ
kind_number Kind.Blank = 0
kind_number Kind.Plain = 1
kind_number Kind.Sign = 2

-- The byte parts words and begins no comment.
abbrev pub skips : ℕ → Bool
skips c = eqb (kind c) 0 && not (eqb c 35)

-- How many bytes at the front part words, as far as a comment.
unfoldable pub blanks : List ℕ → ℕ
blanks [] = 0
blanks (c ∷ cs) = cond (skips c) (suc (blanks cs)) 0

-- How many bytes at the front are of the kind k.
unfoldable pub run : ℕ → List ℕ → ℕ
run k [] = 0
run k (c ∷ cs) = cond (eqb (kind c) k) (suc (run k cs)) 0

blanks_counted : (cs : List ℕ) → prefix_len skips cs ≡ blanks cs
unfolding blanks
blanks_counted [] = refl
blanks_counted (c ∷ cs) =
    let e : 1 + prefix_len skips cs ≡ suc (blanks cs) = omega (arith, blanks_counted cs) in
    ap (λ (n : ℕ). cond (skips c) n 0) e

run_counted : (k : ℕ) (cs : List ℕ) → prefix_len (λ c. eqb (kind c) k) cs ≡ run k cs
unfolding run
run_counted k [] = refl
run_counted k (c ∷ cs) =
    let e : 1 + prefix_len (λ c. eqb (kind c) k) cs ≡ suc (run k cs) = omega (arith, run_counted k cs) in
    ap (λ (n : ℕ). cond (eqb (kind c) k) n 0) e

rest_whole : (l : List ℕ) (at : ℕ) → take (length l - at) (drop at l) ≡ drop at l
rest_whole l at = take_all (length l - at) (drop at l) (omega (arith, length-drop at l))

front_of_rest : (p : ℕ → Bool) (l : List ℕ) (at : ℕ) → length (take_while p (take (length l - at) (drop at l))) ≡ prefix_len p (drop at l)
front_of_rest p l at = ap (λ (cs : List ℕ). length (take_while p cs)) (rest_whole l at) ∙ length-prefix_len p (drop at l)

-- Both counted from a position of the line on.
module _ (l : List ℕ) (at : ℕ) where
  -- The bytes that are skipped.
  pub blanks_rest : length (take_while skips (take (length l - at) (drop at l))) ≡ blanks (drop at l)
  blanks_rest = front_of_rest skips l at ∙ blanks_counted (drop at l)

  -- The bytes of the kind k.
  pub run_rest : (k : ℕ) → length (take_while (λ c. eqb (kind c) k) (take (length l - at) (drop at l))) ≡ run k (drop at l)
  run_rest k = front_of_rest (λ c. eqb (kind c) k) l at ∙ run_counted k (drop at l)

-- A word that begins here.
word_run : (k c : ℕ) (cs : List ℕ) → 0 < k → kind c ≡ k → eqb c 35 ≡ false →
    words_of (c ∷ cs) ≡ take (suc (run k cs)) (c ∷ cs) ∷ words_of (drop (run k cs) cs)
unfolding words_of run
word_run k c [] h e plain = rw (plain, e, ne_eqb k 0 (λ s. omega arith), ne_eqb 0 k (λ s. omega arith))
word_run k c (d ∷ ds) h e plain =
    rw (plain, e, ne_eqb k 0 (λ s. omega arith)) (go (eqb (kind d) k) refl (λ s. word_run k d ds h s (no_comment d (omega arith))))
  where
    go : (t : Bool) → eqb (kind d) k ≡ t →
        (kind d ≡ k → words_of (d ∷ ds) ≡ take (suc (run k ds)) (d ∷ ds) ∷ words_of (drop (run k ds) ds)) →
        cond t (onto c (words_of (d ∷ ds))) ((c ∷ []) ∷ words_of (d ∷ ds))
        ≡ take (suc (cond t (suc (run k ds)) 0)) (c ∷ d ∷ ds) ∷ words_of (drop (cond t (suc (run k ds)) 0) (d ∷ ds))
    go true s rest = ap (onto c) (rest (eqb-true (kind d) k s))
    go false s rest = refl

-- Bytes that part words.
blank_first : (c : ℕ) (cs : List ℕ) → skips c ≡ true → words_of (c ∷ cs) ≡ words_of cs
unfolding words_of
blank_first c cs h =
    let both = (and-eq-true_iff (eqb (kind c) 0) _).0 h in
    rw (not-true (eqb c 35) both.1, both.0)

-- Blanks at the front of a line change none of its words.
pub after_blanks : (cs : List ℕ) → words_of cs ≡ words_of (drop (blanks cs) cs)
unfolding blanks
after_blanks [] = refl
after_blanks (c ∷ cs) = go (skips c) refl (after_blanks cs)
  where
    go : (t : Bool) → skips c ≡ t → words_of cs ≡ words_of (drop (blanks cs) cs) →
        words_of (c ∷ cs) ≡ words_of (drop (cond t (suc (blanks cs)) 0) (c ∷ cs))
    go true s rest = blank_first c cs s ∙ rest
    go false s rest = refl

-- The same at a position of the line.
module _ (l : List ℕ) where
  at_byte : (i : ℕ) → i < length l → drop i l ≡ get_or l i 0 ∷ drop (i + 1) l
  at_byte i h = let e : suc i ≡ i + 1 = omega arith in drop-cons l i 0 h ∙ ap (λ (n : ℕ). get_or l i 0 ∷ drop n l) e

  past_end : (i : ℕ) → length l ≤ i → drop i l ≡ []
  past_end i h = drop_of_length-le l h

  -- At a byte that is skipped there is one blank and those behind it.
  pub blanks_more : (i : ℕ) → i < length l → skips (get_or l i 0) ≡ true → blanks (drop i l) ≡ suc (blanks (drop (i + 1) l))
  unfolding blanks
  blanks_more i h s = rw (at_byte i h, s)

  -- At any other byte there are no more blanks.
  pub blanks_done : (i : ℕ) → i < length l → skips (get_or l i 0) ≡ false → blanks (drop i l) ≡ 0
  unfolding blanks
  blanks_done i h s = rw (at_byte i h, s)

  -- At the end of the line there are no more blanks.
  pub blanks_end : (i : ℕ) → length l ≤ i → blanks (drop i l) ≡ 0
  unfolding blanks
  blanks_end i h = rw (past_end i h)

  module _ (k : ℕ) where
    -- A byte of the kind k makes the run one longer.
    pub run_more : (i : ℕ) → i < length l → kind (get_or l i 0) ≡ k → run k (drop i l) ≡ suc (run k (drop (i + 1) l))
    unfolding run
    run_more i h s = rw (at_byte i h, eq-eqb (kind (get_or l i 0)) k s)

    -- A byte of another kind ends the run.
    pub run_done : (i : ℕ) → i < length l → (kind (get_or l i 0) ≡ k → ⊥) → run k (drop i l) ≡ 0
    unfolding run
    run_done i h s = rw (at_byte i h, ne_eqb (kind (get_or l i 0)) k s)

    -- The end of the line ends the run.
    pub run_end : (i : ℕ) → length l ≤ i → run k (drop i l) ≡ 0
    unfolding run
    run_end i h = rw (past_end i h)

-- The kind of a byte by its range, and that of a byte which is none of those that part words or are of a sign.
module _ (c : ℕ) where
  -- A byte that neither parts words nor is of a sign has kind 1.
  pub kind_other : (c ≡ 32 → ⊥) → (c ≡ 9 → ⊥) → (c ≡ 13 → ⊥) → (c ≡ 10 → ⊥) → (c ≡ 35 → ⊥) → (c ≡ 45 → ⊥) → (c ≡ 60 → ⊥) → (c ≡ 61 → ⊥) → (c ≡ 62 → ⊥) → 1 ≡ kind c
  unfolding kind parts is_sign
  kind_other space tab return feed hash dash below same above =
      rw (ne_eqb c 32 space, ne_eqb c 9 tab, ne_eqb c 13 return, ne_eqb c 10 feed, ne_eqb c 35 hash, ne_eqb c 45 dash, ne_eqb c 60 below, ne_eqb c 61 same, ne_eqb c 62 above)

  -- A byte above `>` has kind 1.
  pub kind_above : 62 < c → 1 ≡ kind c
  kind_above h = kind_other (λ e. omega arith) (λ e. omega arith) (λ e. omega arith) (λ e. omega arith) (λ e. omega arith) (λ e. omega arith) (λ e. omega arith) (λ e. omega arith) (λ e. omega arith)

  -- The bytes `<`, `=` and `>` have kind 2.
  pub kind_sign : 59 < c → c ≤ 62 → 2 ≡ kind c
  unfolding kind parts is_sign
  kind_sign h l = go (c - 60) refl
    where
      go : (n : ℕ) → c - 60 ≡ n → 2 ≡ kind c
      go zero e = let s : c ≡ 60 = omega arith in sym (ap kind s)
      go (suc zero) e = let s : c ≡ 61 = omega arith in sym (ap kind s)
      go (suc (suc zero)) e = let s : c ≡ 62 = omega arith in sym (ap kind s)
      go (suc (suc (suc n))) e = absurd (omega arith)

-- What the search for the next word gives: its first byte and the one after its last, or two times the same position and no word.
pub record Next (l : List ℕ) (at start end : ℕ) : Type 0 where
  pub begins : start ≡ at + blanks (drop at l)
  pub after : at ≤ start
  pub order : start ≤ end
  pub within : end ≤ length l
  pub words : words_of (drop at l) ≡ cond (ltb start end) (take (end - start) (drop start l) ∷ words_of (drop end l)) []

pub blanks_le : (cs : List ℕ) → blanks cs ≤ length cs
unfolding blanks
blanks_le [] = omega arith
blanks_le (c ∷ cs) = go (skips c) (blanks_le cs)
  where
    go : (t : Bool) → blanks cs ≤ length cs → cond t (suc (blanks cs)) 0 ≤ suc (length cs)
    go true h = omega arith
    go false h = omega arith

pub run_le : (k : ℕ) (cs : List ℕ) → run k cs ≤ length cs
unfolding run
run_le k [] = omega arith
run_le k (c ∷ cs) = go (eqb (kind c) k) (run_le k cs)
  where
    go : (t : Bool) → run k cs ≤ length cs → cond t (suc (run k cs)) 0 ≤ suc (length cs)
    go true h = omega arith
    go false h = omega arith

-- The byte after the blanks is none.
blanks_stop : (cs : List ℕ) → blanks cs < length cs → skips (get_or cs (blanks cs) 0) ≡ false
unfolding blanks
blanks_stop [] h = absurd (omega arith)
blanks_stop (c ∷ cs) h = go (skips c) refl h (blanks_stop cs)
  where
    go : (t : Bool) → skips c ≡ t → cond t (suc (blanks cs)) 0 < suc (length cs) → (blanks cs < length cs → skips (get_or cs (blanks cs) 0) ≡ false) →
        skips (get_or (c ∷ cs) (cond t (suc (blanks cs)) 0) 0) ≡ false
    go true s l rest = rest (omega arith)
    go false s l rest = s

module _ (l : List ℕ) (at : ℕ) (h : at ≤ length l) (start : ℕ) (e : start ≡ at + blanks (drop at l)) where
  -- The position after the blanks is at most the end of the line.
  pub start_within : start ≤ length l
  start_within = omega (arith, blanks_le (drop at l), length-drop at l)

  words_start : words_of (drop at l) ≡ words_of (drop start l)
  words_start = after_blanks (drop at l) ∙ ap words_of (drop-drop (blanks (drop at l)) at l ∙ ap (λ (n : ℕ). drop n l) (sym e))

  start_plain : start < length l → skips (get_or l start 0) ≡ false
  start_plain s = rw e (rw (get_or-drop at l (blanks (drop at l)) 0) at (blanks_stop (drop at l) (simp length-drop (omega arith))))

  nothing : words_of (drop start l) ≡ [] → Next l at start start
  nothing n =
      record {
        begins = e;
        after = omega arith;
        order = omega arith;
        within = start_within;
        words = words_start ∙ rw (le-ltb start start (omega arith)) n;
      }

  -- Nothing but blanks up to the end: there is no next word.
  pub next_end : length l ≤ start → Next l at start start
  unfolding words_of
  next_end s = nothing (rw (past_end l start s))

  -- A comment after the blanks: there is no next word.
  pub next_comment : start < length l → get_or l start 0 ≡ 35 → Next l at start start
  unfolding words_of
  next_comment s c = nothing (rw (at_byte l start s, eq-eqb (get_or l start 0) 35 c))

  positive_kind : start < length l → (get_or l start 0 ≡ 35 → ⊥) → 0 < kind (get_or l start 0)
  positive_kind s c = go (kind (get_or l start 0)) refl
    where
      go : (k : ℕ) → kind (get_or l start 0) ≡ k → 0 < k
      go zero z =
          let t : skips (get_or l start 0) ≡ true = rw (eq-eqb (kind (get_or l start 0)) 0 z, ne_eqb (get_or l start 0) 35 c) in
          absurd (false≢true (sym (start_plain s) ∙ t))
      go (suc k) z = omega arith

  -- Else the next word begins there, and goes on as long as the kind is the same.
  pub next_word : start < length l → (get_or l start 0 ≡ 35 → ⊥) → (k : ℕ) → k ≡ kind (get_or l start 0) → (end : ℕ) → end ≡ start + 1 + run k (drop (start + 1) l) →
      Next l at start end
  next_word s c k kk end f =
      let cs = drop (start + 1) l in
      let n = run k cs in
      let le = run_le k cs in
      let long = length-drop (start + 1) l in
      let first = word_run k (get_or l start 0) cs (rw kk (positive_kind s c)) (sym kk) (ne_eqb (get_or l start 0) 35 c) in
      let size : suc n ≡ end - start = omega arith in
      let rest : drop n cs ≡ drop end l = drop-drop n (start + 1) l ∙ ap (λ (m : ℕ). drop m l) (sym f) in
      let here = at_byte l start s in
      record {
        begins = e;
        after = omega arith;
        order = omega arith;
        within = omega arith;
        words = words_start ∙ rw (lt-ltb start end (omega arith))
            (ap words_of here ∙ first ∙ (λ i. take (size i) (sym here i) ∷ words_of (rest i)));
      }

-- Two words compared byte by byte.
pub same_is : (v w : Word) → pointwise eqb v w ≡ same v w
unfolding same
same_is [] [] = refl
same_is [] (b ∷ bs) = refl
same_is (a ∷ as') [] = refl
same_is (a ∷ as') (b ∷ bs) = ap (λ (t : Bool). eqb a b && t) (same_is as' bs)

-- How many bytes stand before the end of the line, and the lines from there on.
unfoldable pub line_length : List ℕ → ℕ
line_length [] = 0
line_length (c ∷ cs) = cond (eqb c 10) 0 (suc (line_length cs))

line_counted : (cs : List ℕ) → prefix_len (λ c. not (eqb c 10)) cs ≡ line_length cs
unfolding line_length
line_counted [] = refl
line_counted (c ∷ cs) = go (eqb c 10) (line_counted cs)
  where
    go : (t : Bool) → prefix_len (λ c. not (eqb c 10)) cs ≡ line_length cs → cond (not t) (1 + prefix_len (λ c. not (eqb c 10)) cs) 0 ≡ cond t 0 (suc (line_length cs))
    go true h = refl
    go false h = omega arith

-- Counted from a position of the text on.
pub line_rest : (text : List ℕ) (at : ℕ) → length (take_while (λ c. not (eqb c 10)) (take (length text - at) (drop at text))) ≡ line_length (drop at text)
line_rest text at = front_of_rest (λ c. not (eqb c 10)) text at ∙ line_counted (drop at text)

pub line_le : (cs : List ℕ) → line_length cs ≤ length cs
unfolding line_length
line_le [] = omega arith
line_le (c ∷ cs) = go (eqb c 10) (line_le cs)
  where
    go : (t : Bool) → line_length cs ≤ length cs → cond t 0 (suc (line_length cs)) ≤ suc (length cs)
    go true h = omega arith
    go false h = omega arith

line_first : (c : ℕ) (cs : List ℕ) → split (c ∷ cs) ≡ take (line_length (c ∷ cs)) (c ∷ cs) ∷ split (drop (suc (line_length (c ∷ cs))) (c ∷ cs))
unfolding split line_length
line_first c [] = go (eqb c 10)
  where
    go : (t : Bool) → cond t ([] ∷ []) ((c ∷ []) ∷ []) ≡ take (cond t 0 1) (c ∷ []) ∷ split (drop (cond t 0 1) [])
    go true = refl
    go false = refl
line_first c (d ∷ ds) = go (eqb c 10) (line_first d ds)
  where
    go : (t : Bool) → split (d ∷ ds) ≡ take (line_length (d ∷ ds)) (d ∷ ds) ∷ split (drop (suc (line_length (d ∷ ds))) (d ∷ ds)) →
        cond t ([] ∷ split (d ∷ ds)) (onto c (split (d ∷ ds)))
        ≡ take (cond t 0 (suc (line_length (d ∷ ds)))) (c ∷ d ∷ ds) ∷ split (drop (cond t 0 (suc (line_length (d ∷ ds)))) (d ∷ ds))
    go true rest = refl
    go false rest = ap (onto c) rest

-- The line from `at` on ends at `end`.
pub record NextLine (text : List ℕ) (at end : ℕ) : Type 0 where
  pub after : at ≤ end
  pub within : end ≤ length text
  pub lines : at < length text → split (drop at text) ≡ take (end - at) (drop at text) ∷ split (drop (end + 1) text)

module _ (text : List ℕ) where
  -- A byte other than a line feed makes the line one longer.
  pub line_more : (i : ℕ) → i < length text → (get_or text i 0 ≡ 10 → ⊥) → line_length (drop i text) ≡ suc (line_length (drop (i + 1) text))
  unfolding line_length
  line_more i h e = rw (at_byte text i h, ne_eqb (get_or text i 0) 10 e)

  -- A line feed ends the line.
  pub line_done : (i : ℕ) → i < length text → get_or text i 0 ≡ 10 → line_length (drop i text) ≡ 0
  unfolding line_length
  line_done i h e = rw (at_byte text i h, eq-eqb (get_or text i 0) 10 e)

  -- The end of the text ends the line.
  pub line_last : (i : ℕ) → length text ≤ i → line_length (drop i text) ≡ 0
  unfolding line_length
  line_last i h = rw (past_end text i h)

  -- The bytes counted up to a line feed give the line from `at` on.
  pub next_line : (at end : ℕ) → at ≤ length text → end ≡ at + line_length (drop at text) → NextLine text at end
  next_line at end h e =
      record {
        after = omega arith;
        within = omega (arith, line_le (drop at text), length-drop at text);
        lines = λ l. go l (drop at text) refl;
      }
    where
      go : at < length text → (cs : List ℕ) → drop at text ≡ cs → split cs ≡ take (end - at) cs ∷ split (drop (end + 1) text)
      go l [] s = absurd (omega (arith, length-drop at text, ap length s))
      go l (c ∷ cs) s =
          let size : line_length (c ∷ cs) ≡ end - at = omega (arith, ap line_length s) in
          let to : at + suc (line_length (c ∷ cs)) ≡ end + 1 = omega (arith, ap line_length s) in
          let rest : drop (suc (line_length (c ∷ cs))) (c ∷ cs) ≡ drop (end + 1) text =
          ap (drop (suc (line_length (c ∷ cs)))) (sym s) ∙ drop-drop (suc (line_length (c ∷ cs))) at text ∙ ap (λ (n : ℕ). drop n text) to in
          line_first c cs ∙ (λ i. take (size i) (c ∷ cs) ∷ split (rest i))
