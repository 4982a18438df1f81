-- The lines of a text that say its rules.
use Rattle.std.specs.Prelude.{Bool, false, cond, not, ◌||◌, List, [], ◌∷◌, ℕ, suc}
use Rattle.wording.specs.Words.{Line, lines_of}
use Rattle.wording.specs.Names.{is}

-- A line that is neither blank nor a declaration nor an `at`.
unfoldable pub is_rule : Line → Bool
is_rule [] = false
is_rule (w ∷ ws) = not (is "input" w || (is "output" w || (is "clock" w || (is "location" w || is "at" w))))

-- Their numbers, where the first of some lines has the number `line`.
unfoldable pub rules_among : ℕ → List Line → List ℕ
rules_among line [] = []
rules_among line (l ∷ ls) = cond (is_rule l) (line ∷ rules_among (suc line) ls) (rules_among (suc line) ls)

-- The line of each rule of a text. Lines are counted from 1.
abbrev pub rule_numbers : List ℕ → List ℕ
rule_numbers text = rules_among 1 (lines_of text)
