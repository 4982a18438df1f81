-- What the rest adds to i is what the line from `at` on gives.
use Rattle.std.proofs.Common.{◌≡◌, ◌+◌, drop}
use Rattle.words.specs.Lex.{kind_number, run}
use Rattle.words.proofs.words.run_end.Given as goal

abbrev pub invariant-loop-i : goal.invariant-loop-i
invariant-loop-i l = l.i + run (kind_number l.k) (drop l.i l.line) ≡ l.at + run (kind_number l.k) (drop l.at l.line)
