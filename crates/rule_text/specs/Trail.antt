-- A rule's signals as they are written: each word with a space after it.
use Rattle.std.specs.Prelude.{◌≡◌, refl, Bool, true, false, List, [], ◌∷◌, ◌++◌, ℕ, zero, suc, ◌+◌, ◌/◌, ◌%◌, ◌≤◌, ◌<◌, length, get_or, take}
use Rattle.std.proofs.Common.{ap, sym, ◌∙◌, append_assoc, append-nil, add-one, arith, take_all, eq-eqb, ne_eqb}
use Rattle.wording.specs.Words.{Word, Line, spaced_out}
use Rattle.wording.specs.Writer.{when, odd, signal_word, signal_words}

-- Words, each with a space after it.
unfoldable pub trailing : Line → List ℕ
trailing [] = []
trailing (w ∷ ws) = w ++ (32 ∷ trailing ws)

-- The text of two groups of words is that of the first, then that of the second.
pub trailing_both : (xs ys : Line) → trailing (xs ++ ys) ≡ trailing xs ++ trailing ys
unfolding trailing
trailing_both [] ys = refl
trailing_both (x ∷ xs) ys = rw (trailing_both xs ys, append_assoc)

-- A line: what is written before its last words, and those.
pub spaced_trailing : (ws : Line) (v : Word) (vs : Line) → spaced_out (ws ++ (v ∷ vs)) ≡ trailing ws ++ spaced_out (v ∷ vs)
unfolding trailing spaced_out
spaced_trailing [] v vs = refl
spaced_trailing (w ∷ []) v vs = sym (append_assoc w (32 ∷ []) (spaced_out (v ∷ vs)))
spaced_trailing (w ∷ u ∷ ws) v vs =
    ap (λ (z : List ℕ). w ++ (32 ∷ z)) (spaced_trailing (u ∷ ws) v vs) ∙ sym (append_assoc w (32 ∷ trailing (u ∷ ws)) (spaced_out (v ∷ vs)))

-- A mask halved i times.
unfoldable pub halved : ℕ → ℕ → ℕ
halved zero m = m
halved (suc i) m = halved i (m / 2)

halved_next : (i m : ℕ) → halved (suc i) m ≡ halved i m / 2
unfolding halved
halved_next zero m = refl
halved_next (suc i) m = halved_next i (m / 2)

-- Halved no time, a mask is itself.
pub halved_none : (m : ℕ) → m ≡ halved 0 m
unfolding halved
halved_none m = refl

-- Half of what was halved i times was halved i + 1 times.
pub halved_more : (i m : ℕ) → halved i m / 2 ≡ halved (i + 1) m
halved_more i m = rw add-one (sym (halved_next i m))

-- One signal more.
abbrev pub one_signal : (t care value : ℕ) → Line
one_signal t care value = when (odd care) (signal_word t (odd value) ∷ [])

-- The words of i + 1 signals are those of the first i and that of the last.
pub signals_more : (i : ℕ) (ts : List ℕ) (care value : ℕ) → i < length ts →
    signal_words (take (suc i) ts) care value ≡ signal_words (take i ts) care value ++ one_signal (get_or ts i 0) (halved i care) (halved i value)
unfolding signal_words halved
signals_more i [] care value h = absurd (omega arith)
signals_more zero (t ∷ ts) care value h = append-nil _
signals_more (suc i) (t ∷ ts) care value h = rw (signals_more i ts (care / 2) (value / 2) (omega arith), append_assoc)

-- The same as text: the last signal's word is written behind the others.
pub trail_more : (i : ℕ) (ts : List ℕ) (care value : ℕ) → i < length ts →
    trailing (signal_words (take (i + 1) ts) care value)
    ≡ trailing (signal_words (take i ts) care value) ++ trailing (one_signal (get_or ts i 0) (halved i care) (halved i value))
trail_more i ts care value h = rw (add-one, signals_more i ts care value h) (trailing_both (signal_words (take i ts) care value) _)

-- When i has reached the number of signals, all are written.
pub trail_all : (i : ℕ) (ts : List ℕ) (care value : ℕ) → length ts ≤ i → trailing (signal_words (take i ts) care value) ≡ trailing (signal_words ts care value)
trail_all i ts care value h = rw (take_all i ts h)

-- Before the first signal nothing is written.
pub trail_none : (ts : List ℕ) (care value : ℕ) → trailing (signal_words (take 0 ts) care value) ≡ []
unfolding trailing signal_words
trail_none ts care value = refl

-- A signal by its bits.
pub trail_off : (t care value : ℕ) → (care % 2 ≡ 1 → ⊥) → trailing (one_signal t care value) ≡ []
unfolding trailing
trail_off t care value h = rw (ne_eqb (care % 2) 1 h)

-- A signal that must be on is its letter and a space.
pub trail_on : (t care value : ℕ) → care % 2 ≡ 1 → value % 2 ≡ 1 → trailing (one_signal t care value) ≡ (t ∷ []) ++ (32 ∷ [])
unfolding trailing
trail_on t care value h g = rw (eq-eqb (care % 2) 1 h, eq-eqb (value % 2) 1 g)

-- A signal that must be off is `!`, its letter and a space.
pub trail_not : (t care value : ℕ) → care % 2 ≡ 1 → (value % 2 ≡ 1 → ⊥) → trailing (one_signal t care value) ≡ ((33 ∷ []) ++ (t ∷ [])) ++ (32 ∷ [])
unfolding trailing
trail_not t care value h g = rw (eq-eqb (care % 2) 1 h, ne_eqb (value % 2) 1 g)

-- A signal takes at most three bytes.
pub trail_short : (t care value : ℕ) → length (trailing (one_signal t care value)) ≤ 3
unfolding trailing
trail_short t care value = go (odd care) (odd value)
  where
    go : (a b : Bool) → length (trailing (when a (signal_word t b ∷ []))) ≤ 3
    go true true = omega arith
    go true false = omega arith
    go false b = omega arith
