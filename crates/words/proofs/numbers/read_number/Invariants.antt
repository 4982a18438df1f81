-- The bytes passed are digits, and `value` is what they say as far as 65,536.
use Rattle.std.proofs.Common.{◌≤◌}
use Rattle.words.specs.Counted.{Counted}
use Rattle.words.proofs.numbers.read_number.Given as goal

abbrev pub invariant-loop-c : goal.invariant-loop-c
invariant-loop-c l = record { small : l.value ≤ 65536; counted : Counted l.word l.c-index l.value }
