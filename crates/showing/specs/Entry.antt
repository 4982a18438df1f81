-- What the writer answers, for any bytes.
use Rattle.std.specs.Prelude.{List, ◌++◌, ℕ, zero, suc, leb, length, drop}
use Rattle.streams.specs.Answer.{◌or_else◌, unless}
use Rattle.policy.specs.Check.{refusal_of}
use Rattle.wording.specs.Writer.{text_of_file}

-- What a slice holds after a text is written over it, or after a refusal, which writes nothing.
abbrev pub written_over : (text out : List ℕ) → ℕ → List ℕ
written_over text out zero = text ++ drop (length text) out
written_over text out (suc n) = out

-- The length, or 0 after a refusal.
abbrev pub length_unless : ℕ → ℕ → ℕ
length_unless zero n = n
length_unless (suc r) n = 0

-- 1 to 9, then 14: the slice is shorter than the text.
unfoldable pub write_refusal : (file out : List ℕ) → ℕ
write_refusal file out = refusal_of file or_else unless (leb (length (text_of_file file)) (length out)) 14
