-- What the rest adds to i is what the text from `at` on gives.
use Rattle.std.proofs.Common.{◌≡◌, ◌+◌, drop}
use Rattle.words.specs.Lex.{line_length}
use Rattle.words.proofs.words.line_end.Given as goal

abbrev pub invariant-loop-i : goal.invariant-loop-i
invariant-loop-i l = l.i + line_length (drop l.i l.text) ≡ l.at + line_length (drop l.at l.text)
