-- A text with each signal's letter in the place of its name.
use Rattle.std.specs.Prelude.{cond, ◌&&◌, ◌||◌, List, [], ◌∷◌, ◌++◌, ℕ, eqb}
use Rattle.policy.specs.Check.{is_capital}
use Rattle.wording.specs.Words.{Word, Line, lines_of, laid}
use Rattle.wording.specs.Names.{same, is}
use Rattle.wording.specs.RuleLines.{is_rule}

-- A signal that has a name.
pub record Named : Type 0 where
  pub letter : ℕ
  pub name : Word

-- The names after a line: `input LETTER NAME` and `output LETTER NAME` say one more.
unfoldable pub noted : List Named → Line → List Named
noted ss [] = ss
noted ss (w ∷ []) = ss
noted ss (w ∷ a ∷ []) = ss
noted ss (w ∷ [] ∷ n ∷ []) = ss
noted ss (w ∷ (t ∷ []) ∷ n ∷ []) =
    cond ((is "input" w || is "output" w) && is_capital t) (ss ++ (record { letter = t; name = n } ∷ [])) ss
noted ss (w ∷ (t ∷ u ∷ us) ∷ n ∷ []) = ss
noted ss (w ∷ a ∷ n ∷ v ∷ ws) = ss

-- The letter of the signal that a word names; any other word as it is.
unfoldable pub letter_for : List Named → Word → Word
letter_for [] w = w
letter_for (s ∷ ss) w = cond (same s.name w) (s.letter ∷ []) (letter_for ss w)

-- The same, also behind an `!`.
unfoldable pub word_lettered : List Named → Word → Word
word_lettered ss [] = []
word_lettered ss (c ∷ cs) = cond (eqb c 33) (33 ∷ letter_for ss cs) (letter_for ss (c ∷ cs))

-- A rule with letters in its conditions, the words before the arrow. After it stand names of a location and of clocks.
unfoldable pub rule_lettered : List Named → Line → Line
rule_lettered ss [] = []
rule_lettered ss (w ∷ ws) = cond (is "->" w) (w ∷ ws) (word_lettered ss w ∷ rule_lettered ss ws)

-- In each rule of some lines, letters for the names that were said before it.
unfoldable pub lettered : List Named → List Line → List Line
lettered ss [] = []
lettered ss (l ∷ ls) = cond (is_rule l) (rule_lettered ss l) l ∷ lettered (noted ss l) ls

-- The text of these lines, without margins.
unfoldable pub with_letters : List ℕ → List ℕ
with_letters text = laid (λ l. 0) (lettered [] (lines_of text))
