-- The words of any text are whole.
use Rattle.std.specs.Prelude.{◌≡◌, refl, Bool, true, false, cond, List, [], ◌∷◌, ℕ, ◌<◌, ltb, eqb}
use Rattle.std.proofs.Math.Bool.{and-eq-true_iff}
use Rattle.std.proofs.Common.{subst, arith, lt-ltb, eqb-true, eq-eqb, ne_eqb}
use Rattle.std.proofs.lemmas.Bool.{eqb-false}
use Rattle.wording.specs.Words.{Word, Line, kind, first_kind, onto, words_of, split, each_words, lines_of}
use Rattle.wording.specs.Laid.{all_of, whole, AllWhole, whole_none, whole_more, EachWhole, lines_none, lines_more, no_comment}

-- Words of which the first begins with this byte.
data Begins (c : ℕ) : Line → Type 0 where
  begins : {w : Word} {ws : Line} → Begins c ((c ∷ w) ∷ ws)

word_begins : (c : ℕ) (cs : List ℕ) → 0 < kind c → Begins c (words_of (c ∷ cs))
unfolding words_of
word_begins c cs h = rw (no_comment c h, ne_eqb (kind c) 0 (λ e. omega arith)) (go (eqb (first_kind cs) (kind c)) (words_of cs))
  where
    go : (t : Bool) (ws : Line) → Begins c (cond t (onto c ws) ((c ∷ []) ∷ ws))
    go true [] = begins
    go true (w ∷ ws) = begins
    go false ws = begins

one_more : (c d : ℕ) → 0 < kind c → kind d ≡ kind c → {ws : Line} → Begins d ws → AllWhole ws → AllWhole (onto c ws)
unfolding whole all_of
one_more c d h e (begins {w = w}) (whole_more k ks) =
    let both = (and-eq-true_iff (ltb 0 (kind d)) _).0 k in
    whole_more {w = c ∷ d ∷ w} (rw (lt-ltb 0 (kind c) h, eq-eqb (kind d) (kind c) e) (subst (λ (k : ℕ). all_of k w ≡ true) e both.1)) ks

alone : (c : ℕ) → 0 < kind c → whole (c ∷ []) ≡ true
unfolding whole all_of
alone c h = rw (lt-ltb 0 (kind c) h)

-- The words of any line are whole.
pub words_whole : (cs : List ℕ) → AllWhole (words_of cs)
unfolding words_of
words_whole [] = whole_none
words_whole (c ∷ cs) = go (eqb c 35) (eqb (kind c) 0) refl (eqb (first_kind cs) (kind c)) refl (words_whole cs)
  where
    positive : (k : ℕ) → eqb k 0 ≡ false → 0 < k
    positive k e = let n = eqb-false k 0 e in omega arith

    join : (ds : List ℕ) → first_kind ds ≡ kind c → 0 < kind c → AllWhole (words_of ds) → AllWhole (onto c (words_of ds))
    join [] e h k = absurd (omega arith)
    join (d ∷ ds) e h k = one_more c d h e (word_begins d ds (omega arith)) k

    go : (s t : Bool) → eqb (kind c) 0 ≡ t → (u : Bool) → eqb (first_kind cs) (kind c) ≡ u → AllWhole (words_of cs) →
        AllWhole (cond s [] (cond t (words_of cs) (cond u (onto c (words_of cs)) ((c ∷ []) ∷ words_of cs))))
    go true t e u f k = whole_none
    go false true e u f k = k
    go false false e true f k = join cs (eqb-true (first_kind cs) (kind c) f) (positive (kind c) e) k
    go false false e false f k = whole_more (alone c (positive (kind c) e)) k

-- The words of every line of a text are whole.
pub lines_whole : (text : List ℕ) → EachWhole (lines_of text)
unfolding lines_of
lines_whole text = go (split text)
  where
    go : (ls : List (List ℕ)) → EachWhole (each_words ls)
    go [] = lines_none
    go (l ∷ ls) = lines_more (words_whole l) (go ls)
