-- Lines that are laid out are read as those lines.
use Rattle.std.proofs.Math.Path.{◌≡◌, ap}
use Rattle.std.specs.Prelude.{refl, Bool, false, ◌&&◌, ℕ, zero, suc, ◌<◌, ltb, eqb, replicate}
use Rattle.std.proofs.Common.{sym, ◌∙◌, arith}
use Rattle.std.proofs.Math.Bool.{true, cond, and-eq-true_iff}
use mathlib.Core.List.{List, [], ◌∷◌, ◌++◌, append-nil}
use borrow.Author.Tests.{ltb-true, eqb-true, ne_eqb}
use Rattle.wording.specs.Words.{Word, Line, parts, kind, first_kind, onto, words_of, split, each_words, lines_of, spaced_out, laid}

-- All bytes are of the kind k.
unfoldable pub all_of : ℕ → List ℕ → Bool
all_of k [] = true
all_of k (c ∷ cs) = eqb (kind c) k && all_of k cs

-- One byte or more, all of one kind, and none that parts words.
unfoldable pub whole : Word → Bool
whole [] = false
whole (c ∷ cs) = ltb 0 (kind c) && all_of (kind c) cs

-- A line of whole words.
pub data AllWhole : Line → Type 0 where
  whole_none : AllWhole []
  whole_more : {w : Word} {ws : Line} → whole w ≡ true → AllWhole ws → AllWhole (w ∷ ws)

-- Lines of whole words.
pub data EachWhole : List Line → Type 0 where
  lines_none : EachWhole []
  lines_more : {l : Line} {ls : List Line} → AllWhole l → EachWhole ls → EachWhole (l ∷ ls)

-- Whole words with whole words behind them are whole words.
pub whole_both : {ws vs : Line} → AllWhole ws → AllWhole vs → AllWhole (ws ++ vs)
whole_both whole_none b = b
whole_both (whole_more h a) b = whole_more h (whole_both a b)

-- Lines of whole words with more of them are lines of whole words.
pub lines_both : {ls ms : List Line} → EachWhole ls → EachWhole ms → EachWhole (ls ++ ms)
lines_both lines_none b = b
lines_both (lines_more h a) b = lines_more h (lines_both a b)

-- A byte of a word begins no comment and ends no line.
in_word : (c a : ℕ) → kind a ≡ 0 → 0 < kind c → eqb c a ≡ false
in_word c a e h = ne_eqb c a (λ s. let z : kind c ≡ kind a = ap kind s in omega arith)

-- A byte of a word begins no comment.
pub no_comment : (c : ℕ) → 0 < kind c → eqb c 35 ≡ false
unfolding kind parts
no_comment c h = in_word c 35 refl h

no_end : (c : ℕ) → 0 < kind c → eqb c 10 ≡ false
unfolding kind parts
no_end c h = in_word c 10 refl h

-- A word of one kind before something of another.
module _ (rest : List ℕ) (other : first_kind rest ≡ 0) where
  word_from : (c : ℕ) (cs : List ℕ) → 0 < kind c → all_of (kind c) cs ≡ true → words_of ((c ∷ cs) ++ rest) ≡ (c ∷ cs) ∷ words_of rest
  unfolding words_of all_of
  word_from c [] h a = rw (no_comment c h, ne_eqb (kind c) 0 (λ e. omega arith), other, ne_eqb 0 (kind c) (λ e. omega arith))
  word_from c (d ∷ ds) h a =
      let both = simp and-eq-true_iff at a in
      let e : kind d ≡ kind c = eqb-true (kind d) (kind c) both.0 in
      let same : all_of (kind d) ds ≡ true = rw e both.1 in
      rw (no_comment c h, ne_eqb (kind c) 0 (λ e. omega arith), both.0)
      (ap (onto c) (word_from d ds (omega arith) same))

  -- A whole word with the end, a blank or a comment behind it is read as that word.
  pub word_read : (w : Word) → whole w ≡ true → words_of (w ++ rest) ≡ w ∷ words_of rest
  unfolding whole
  word_read [] h = absurd (let z : ◌≡◌ {A = ℕ} 0 1 = ap (λ (b : Bool). cond b 1 0) h in omega arith)
  word_read (c ∷ cs) h =
      let both = simp and-eq-true_iff at h in
      word_from c cs (ltb-true 0 (kind c) both.0) both.1

-- Whole words with spaces between them are read as these words.
pub words_read : (ws : Line) → AllWhole ws → words_of (spaced_out ws) ≡ ws
unfolding words_of spaced_out kind parts
words_read [] h = refl
words_read (w ∷ []) (whole_more h g) = ap words_of (sym (append-nil w)) ∙ word_read [] refl w h
words_read (w ∷ v ∷ ws) (whole_more h g) = word_read (32 ∷ spaced_out (v ∷ ws)) refl w h ∙ ap (λ (l : Line). w ∷ l) (words_read (v ∷ ws) g)

margin_read : (n : ℕ) (cs : List ℕ) → words_of (replicate n 32 ++ cs) ≡ words_of cs
unfolding words_of kind parts
margin_read zero cs = refl
margin_read (suc n) cs = margin_read n cs

-- No byte is a line feed.
abbrev pub Unended : List ℕ → Type 0
Unended [] = Unit {0}
Unended (c ∷ cs) = (eqb c 10 ≡ false) × Unended cs

unended_both : (cs ds : List ℕ) → Unended cs → Unended ds → Unended (cs ++ ds)
unended_both [] ds a b = b
unended_both (c ∷ cs) ds a b = (a.0, unended_both cs ds a.1 b)

unended_margin : (n : ℕ) → Unended (replicate n 32)
unended_margin zero = tt
unended_margin (suc n) = (refl, unended_margin n)

unended_kind : (k : ℕ) (cs : List ℕ) → 0 < k → all_of k cs ≡ true → Unended cs
unfolding all_of
unended_kind k [] h a = tt
unended_kind k (c ∷ cs) h a =
    let both = simp and-eq-true_iff at a in
    let e : kind c ≡ k = eqb-true (kind c) k both.0 in
    (no_end c (omega arith), unended_kind k cs h both.1)

unended_word : (w : Word) → whole w ≡ true → Unended w
unfolding whole
unended_word [] h = tt
unended_word (c ∷ cs) h =
    let both = simp and-eq-true_iff at h in
    let l = ltb-true 0 (kind c) both.0 in
    (no_end c l, unended_kind (kind c) cs l both.1)

unended_words : (ws : Line) → AllWhole ws → Unended (spaced_out ws)
unfolding spaced_out
unended_words [] h = tt
unended_words (w ∷ []) (whole_more h g) = unended_word w h
unended_words (w ∷ v ∷ ws) (whole_more h g) = unended_both w (32 ∷ spaced_out (v ∷ ws)) (unended_word w h) (refl, unended_words (v ∷ ws) g)

-- Bytes without a line feed, with one behind them, are the first line of a text.
pub line_split : (cs rest : List ℕ) → Unended cs → split (cs ++ (10 ∷ rest)) ≡ cs ∷ split rest
unfolding split
line_split [] rest h = refl
line_split (c ∷ cs) rest h = rw (h.0, line_split cs rest h.1)

-- Lines of whole words are read as they were laid out.
pub laid_read : (margin : Line → ℕ) (ls : List Line) → EachWhole ls → lines_of (laid margin ls) ≡ ls
unfolding lines_of laid split
laid_read margin [] h = refl
laid_read margin (l ∷ ls) (lines_more h g) =
    let text = replicate (margin l) 32 ++ spaced_out l in
    let one : split (text ++ (10 ∷ laid margin ls)) ≡ text ∷ split (laid margin ls) =
    line_split text (laid margin ls) (unended_both (replicate (margin l) 32) (spaced_out l) (unended_margin (margin l)) (unended_words l h)) in
    let first : words_of text ≡ l = margin_read (margin l) (spaced_out l) ∙ words_read l h in
    let rest : each_words (split (laid margin ls)) ≡ ls = laid_read margin ls g in
    rw one (λ i. first i ∷ rest i)
