-- What the rest adds to i is what the line from `at` on gives.
use Rattle.std.proofs.Common.{◌≡◌, ◌+◌, drop}
use Rattle.words.specs.Lex.{blanks}
use Rattle.words.proofs.words.skip.Given as goal

abbrev pub invariant-loop-i : goal.invariant-loop-i
invariant-loop-i l = l.i + blanks (drop l.i l.line) ≡ l.at + blanks (drop l.at l.line)
