-- Names change nothing: a text with each signal's letter in the place of its name is read alike.
use Rattle.std.specs.Prelude.{◌≡◌, refl, List, [], ◌∷◌, ℕ, suc}
use Rattle.std.proofs.Common.{ap, ◌∙◌}
use Rattle.streams.specs.Answer.{Answer, refused, gives}
use Rattle.wording.specs.Words.{Line, lines_of}
use Rattle.wording.specs.Laid.{laid_read}
use Rattle.wording.specs.Reader.{Draft, empty}
use Rattle.wording.specs.Reader.{read_line, FromText, proceed, read_lines, policy_from_text, filed, said_by, file_from_text}
use Rattle.wording.specs.Kept.{Keeps, goes_on}
use Rattle.wording.specs.Good.{Good, line_good, good_empty}
use Rattle.wording.specs.Whole.{lines_whole}
use Rattle.wording.specs.Lettered.{Named, noted, lettered, with_letters}
use Rattle.wording.specs.Standing.{stand_none, StandsIn, line_noted}
use Rattle.wording.specs.LetteredRules.{line_alike}
use Rattle.wording.specs.LetteredWhole.{capital_none, lettered_whole}

-- Lines with letters for names are read alike.
letters_read : (line : ℕ) (d : Draft) → Good d → {ss : List Named} → StandsIn d ss → (ls : List Line) → read_lines line d (lettered ss ls) ≡ read_lines line d ls
unfolding lettered read_lines
letters_read line d g k [] = refl
letters_read line d g {ss} k (l ∷ ls) =
    rw (line_alike d k l) (go (read_line d l) (line_good d g l) (line_noted d g k l) (λ e h i. letters_read (suc line) e h i ls))
  where
    go : (a : Answer Draft) → Keeps Good a → Keeps (λ e. StandsIn e (noted ss l)) a →
        ((e : Draft) → Good e → StandsIn e (noted ss l) → read_lines (suc line) e (lettered (noted ss l) ls) ≡ read_lines (suc line) e ls) →
        proceed line a (λ e. read_lines (suc line) e (lettered (noted ss l) ls)) ≡ proceed line a (λ e. read_lines (suc line) e ls)
    go (refused n) h i rest = refl
    go (gives e) (goes_on h) (goes_on i) rest = rest e h i

-- Any text that has the letters in the place of the names in the conditions of its rules is read as the text with the names: as the same file, or refused
-- by the same number in the same line.
pub letters_alike : (text other : List ℕ) → lines_of other ≡ lettered [] (lines_of text) → file_from_text other ≡ file_from_text text
unfolding file_from_text policy_from_text
letters_alike text other e =
    ap (λ (r : FromText Draft). filed (said_by 1 r)) (ap (read_lines 1 empty) e ∙ letters_read 1 empty good_empty stand_none (lines_of text))

-- "Names change nothing."
pub names_change_nothing : (text : List ℕ) → file_from_text (with_letters text) ≡ file_from_text text
unfolding with_letters
names_change_nothing text =
    letters_alike text (with_letters text) (laid_read (λ l. 0) (lettered [] (lines_of text)) (lettered_whole capital_none (lines_whole text)))
