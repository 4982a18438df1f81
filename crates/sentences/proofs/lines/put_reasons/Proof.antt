-- `sentences::lines::put_reasons` meets its contract: the line of the input, then that of the output.
use mathlib.Core.List.{List}
use Prim.Native.Nat.{ℕ, ◌≤◌}
use native.Mathlib.Omega.{arith}
use lib.ListN.{length}
use borrow.Author.Rules.{rules}
use Rattle.policy.specs.File.{policy_of}
use Rattle.texts.specs.Text.{ascii}
use Rattle.texts.specs.WroteLaws.{wrote_then}
use Rattle.explaining.specs.CodeReasons.{reason_said}
use Rattle.sentences.specs.Text.{input_line, output_line, reason_lines}
use Rattle.sentences.specs.Named.{line_short}
use Rattle.sentences.proofs.lines.put_reasons.Statement.{statement}
use Rattle.sentences.proofs.lines.put_reasons.Tie as tie

-- What stands before the words of each half.
abbrev broken_input : List ℕ
broken_input = ascii "input: no output will do; with none on, "

put-reason-requires : tie.Need-put_reason-next-requires
put-reason-requires c κs =
    ((c.requires.0.0, c.requires.1.0.0, c.requires.1.0.1), (omega arith, omega arith))

-- The line of the input is short, and so is that of the output.
input_short : (s : tie.Start) → length (input_line (policy_of s.args.layout.reading s.args.file.now) (reason_said s.args.told.input)) ≤ 192
input_short s = line_short s.requires.0.0 broken_input (ascii "input: ") (reason_said s.args.told.input) s.requires.1.0.0 s.requires.1.0.1 (omega arith)

output_short : (s : tie.Start) → length (output_line (policy_of s.args.layout.reading s.args.file.now) (reason_said s.args.told.output)) ≤ 160
output_short s = line_short s.requires.0.0 (ascii "output: ") (ascii "output: ") (reason_said s.args.told.output) s.requires.1.1.0 s.requires.1.1.1 (omega arith)

put-reason-requires-2 : tie.Need-put_reason-requires
put-reason-requires-2 c κs =
    ((c.requires.0.0, c.requires.1.1.0, c.requires.1.1.1), (omega arith, omega (arith, input_short c.before.before.before.before.before.before.before.before.before.before.before.before.before.before.before)))

returns : tie.Need-returns
unfolding reason_lines
returns c = (
  wrote_then (omega arith) c.put_reason-next.ensures c.put_reason.ensures,
  omega (arith, input_short c.before.before.before.before.before.before.before.before.before.before.before.before.before.before.before.before.before.before, output_short c.before.before.before.before.before.before.before.before.before.before.before.before.before.before.before.before.before.before),
)

pub put_reasons_spec : {M : Type 1} → statement M
put_reasons_spec = tie.close (tie.spec put-reason-requires put-reason-requires-2 (λ c. search rules) returns)
