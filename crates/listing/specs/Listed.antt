-- What the program `clean` prints and writes, for any word, any bytes of a file.
use Rattle.std.specs.Prelude.{cond, List, [], ◌∷◌, ◌++◌, ℕ, zero, suc, ◌+◌, ◌*◌, eqb, length}
use Rattle.policy.specs.File.{policy_of}
use Rattle.policy.specs.Check.{refusal_under}
use Rattle.texts.specs.Text.{ascii, decimal}
use Rattle.usage.specs.Clean.{Struck}
use Rattle.cleaning.specs.Entry.{struck_of, cleaned_file}
use Rattle.printing.specs.Text.{unless_refused}
-- "The caller names the reading": by a word.
pub use Rattle.readings.specs.Reading.{reading_of}

-- "Kinds: 1 location no permitted stream from the start leads to, 2 rule of such a location, 3 other rule that decides no event in any state such a stream
-- leads to."
unfoldable pub entry_line : (kind number : ℕ) → List ℕ
entry_line kind n =
    cond (eqb kind 1) (ascii "location " ++ decimal n ++ ascii ": no permitted stream from the start leads to it\n")
    (cond (eqb kind 2) (ascii "rule " ++ decimal n ++ ascii ": of such a location\n")
    (ascii "rule " ++ decimal n ++ ascii ": decides no event in any state such a stream leads to\n"))

-- "a list of each location and rule struck out, in file order": a line each.
unfoldable pub lines : List Struck → List ℕ
lines [] = []
lines (x ∷ xs) = entry_line x.kind x.number ++ lines xs

-- The same from the list's bytes, "three bytes each, kind and old number".
unfoldable pub bytes_lines : List ℕ → List ℕ
bytes_lines [] = []
bytes_lines (k ∷ []) = []
bytes_lines (k ∷ h ∷ []) = []
bytes_lines (k ∷ h ∷ l ∷ bs) = entry_line k (h * 256 + l) ++ bytes_lines bs

-- How long the cleaned policy is.
unfoldable pub left_line : ℕ → List ℕ
left_line n = ascii "left " ++ decimal n ++ ascii " bytes\n"

-- The bytes, or none after a refusal.
abbrev pub none_refused : ℕ → List ℕ → List ℕ
none_refused zero bytes = bytes
none_refused (suc n) bytes = []

module _ (reading : ℕ) (file : List ℕ) where
  -- The cleaned policy; a refusal writes none.
  unfoldable pub written : List ℕ
  written = none_refused (refusal_under reading file) (cleaned_file reading file)

  -- A line for each entry of the list and the one of the length, or the line of a refusal as `enforce` prints it.
  unfoldable pub printed : List ℕ
  printed = unless_refused (refusal_under reading file) (lines (struck_of (policy_of reading file)) ++ left_line (length (cleaned_file reading file)))
