-- What the program `compile` writes and prints, for any bytes of a text.
use Rattle.std.specs.Prelude.{cond, List, [], ◌++◌, ℕ, leb, length}
use Rattle.texts.specs.Text.{ascii, decimal}
use Rattle.wording.specs.Reader.{FromText, stops, reads, file_from_text}

-- The number of a refusal, and the line of the text that it stands in: 0 where it belongs to no line.
unfoldable pub stopped_line : (number line : ℕ) → List ℕ
stopped_line n line = ascii "refused " ++ decimal n ++ ascii " line " ++ decimal line ++ ascii "\n"

-- How long the file is.
unfoldable pub compiled_line : ℕ → List ℕ
compiled_line n = ascii "compiled " ++ decimal n ++ ascii " bytes\n"

-- The file of a text, or its refusal and the line. 33 in line 0: the text has more than 65,536 bytes. In a line of the text, 33 says that there are more of
-- something than a file has room for.
unfoldable pub compiled : List ℕ → FromText (List ℕ)
compiled text = cond (leb (length text) 65536) (file_from_text text) (stops 33 0)

-- What is written: the file, or nothing.
abbrev pub file_of : FromText (List ℕ) → List ℕ
file_of (stops n line) = []
file_of (reads f) = f

-- What is printed: how long the file is, or the refusal and its line.
abbrev pub line_of : FromText (List ℕ) → List ℕ
line_of (stops n line) = stopped_line n line
line_of (reads f) = compiled_line (length f)

module _ (text : List ℕ) where
  -- The policy file; a refusal writes none.
  unfoldable pub written : List ℕ
  written = file_of (compiled text)

  -- One line.
  unfoldable pub printed : List ℕ
  printed = line_of (compiled text)
