-- A text with letters for names is made of whole words.
use Rattle.std.specs.Prelude.{◌≡◌, refl, Bool, true, false, cond, ◌&&◌, ◌||◌, List, [], ◌∷◌, ◌++◌, eqb}
use Rattle.std.proofs.Common.{eqb-true}
use Rattle.policy.specs.Check.{is_capital}
use Rattle.wording.specs.Words.{Word, Line}
use Rattle.wording.specs.Names.{same, is}
use Rattle.wording.specs.NamesBack.{letter_whole, off_whole}
use Rattle.wording.specs.Laid.{whole, AllWhole, whole_none, whole_more, EachWhole, lines_none, lines_more}
use Rattle.wording.specs.RuleLines.{is_rule}
use Rattle.wording.specs.Lettered.{Named, noted, letter_for, word_lettered, rule_lettered, lettered}

-- Every noted letter is a capital.
pub data AllCapital : List Named → Type 0 where
  capital_none : AllCapital []
  capital_more : {s : Named} {ss : List Named} → is_capital s.letter ≡ true → AllCapital ss → AllCapital (s ∷ ss)

capital_last : {ss : List Named} (s : Named) → AllCapital ss → is_capital s.letter ≡ true → AllCapital (ss ++ (s ∷ []))
capital_last s capital_none h = capital_more h capital_none
capital_last s (capital_more k ks) h = capital_more k (capital_last s ks h)

noted_capital : {ss : List Named} → AllCapital ss → (l : Line) → AllCapital (noted ss l)
unfolding noted
noted_capital k [] = k
noted_capital k (w ∷ []) = k
noted_capital k (w ∷ a ∷ []) = k
noted_capital k (w ∷ [] ∷ n ∷ []) = k
noted_capital {ss} k (w ∷ (t ∷ []) ∷ n ∷ []) = go (is "input" w || is "output" w) (is_capital t) refl
  where
    go : (a b : Bool) → is_capital t ≡ b → AllCapital (cond (a && b) (ss ++ (record { letter = t; name = n } ∷ [])) ss)
    go true true e = capital_last (record { letter = t; name = n }) k e
    go true false e = k
    go false b e = k
noted_capital k (w ∷ (t ∷ u ∷ us) ∷ n ∷ []) = k
noted_capital k (w ∷ a ∷ n ∷ v ∷ ws) = k

letter_whole_for : {ss : List Named} → AllCapital ss → (w : Word) → whole w ≡ true → whole (letter_for ss w) ≡ true
unfolding letter_for
letter_whole_for capital_none w h = h
letter_whole_for (capital_more {s = s} {ss = ss} k ks) w h = go (same s.name w) (letter_whole_for ks w h)
  where
    go : (t : Bool) → whole (letter_for ss w) ≡ true → whole (cond t (s.letter ∷ []) (letter_for ss w)) ≡ true
    go true rest = letter_whole s.letter k
    go false rest = rest

off_whole_for : {ss : List Named} → AllCapital ss → (w : Word) → whole (33 ∷ w) ≡ true → whole (33 ∷ letter_for ss w) ≡ true
unfolding letter_for
off_whole_for capital_none w h = h
off_whole_for (capital_more {s = s} {ss = ss} k ks) w h = go (same s.name w) (off_whole_for ks w h)
  where
    go : (t : Bool) → whole (33 ∷ letter_for ss w) ≡ true → whole (33 ∷ cond t (s.letter ∷ []) (letter_for ss w)) ≡ true
    go true rest = off_whole s.letter k
    go false rest = rest

word_whole : {ss : List Named} → AllCapital ss → (w : Word) → whole w ≡ true → whole (word_lettered ss w) ≡ true
unfolding word_lettered
word_whole k [] h = h
word_whole {ss} k (c ∷ cs) h = go (eqb c 33) refl
  where
    go : (t : Bool) → eqb c 33 ≡ t → whole (cond t (33 ∷ letter_for ss cs) (letter_for ss (c ∷ cs))) ≡ true
    go true e = let z = eqb-true c 33 e in off_whole_for k cs (rw z at h)
    go false e = letter_whole_for k (c ∷ cs) h

rule_whole : {ss : List Named} → AllCapital ss → {ws : Line} → AllWhole ws → AllWhole (rule_lettered ss ws)
unfolding rule_lettered
rule_whole k whole_none = whole_none
rule_whole {ss} k (whole_more {w = w} {ws = ws} h hs) = go (is "->" w) (rule_whole k hs)
  where
    go : (t : Bool) → AllWhole (rule_lettered ss ws) → AllWhole (cond t (w ∷ ws) (word_lettered ss w ∷ rule_lettered ss ws))
    go true rest = whole_more h hs
    go false rest = whole_more (word_whole k w h) rest

-- With letters for names, lines of whole words are lines of whole words.
pub lettered_whole : {ss : List Named} → AllCapital ss → {ls : List Line} → EachWhole ls → EachWhole (lettered ss ls)
unfolding lettered
lettered_whole k lines_none = lines_none
lettered_whole {ss} k (lines_more {l = l} h hs) = lines_more (go (is_rule l)) (lettered_whole {ss = noted ss l} (noted_capital k l) hs)
  where
    go : (t : Bool) → AllWhole (cond t (rule_lettered ss l) l)
    go true = rule_whole k h
    go false = h
