-- What the program `show` prints, for any bytes of a file.
use Rattle.std.specs.Prelude.{List, ℕ}
use Rattle.policy.specs.Check.{refusal_of}
use Rattle.wording.specs.Writer.{text_of_file}
use Rattle.printing.specs.Text.{unless_refused}

-- The text of a file that passes its check, or the line of a refusal as `enforce` prints it.
unfoldable pub printed : List ℕ → List ℕ
printed file = unless_refused (refusal_of file) (text_of_file file)
