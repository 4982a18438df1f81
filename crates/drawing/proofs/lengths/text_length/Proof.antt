-- `drawing::lengths::text_length` meets its contract.
use mathlib.Core.Path.{ap}
use native.Mathlib.Omega.{arith}
use lib.ListN.{length}
use Rattle.drawing.specs.Lengths.{opening_long, text_long, text_empty}
use borrow.Author.Rules.{rules}
use Rattle.drawing.proofs.lengths.text_length.Statement.{statement}
use Rattle.drawing.proofs.lengths.text_length.Tie as tie

returns : tie.Need-returns-then-events-eq0
returns c =
    omega (arith, opening_long c.args.inputs.now c.args.outputs.now, ap length (text_empty c.args.inputs.now c.args.outputs.now c.args.events.now c.if-events-eq0.true))

returns-2 : tie.Need-returns
returns-2 c =
    omega (arith, opening_long c.args.inputs.now c.args.outputs.now, text_long c.args.inputs.now c.args.outputs.now c.args.events.now (omega arith))

pub text_length_spec : {M : Type 1} → statement M
text_length_spec = tie.close (tie.spec (λ c. search rules) (λ c. search rules) (λ c. search rules) (λ c. search rules) returns (λ c κs. search rules) (λ c. search rules) (λ c κs. search rules) (λ c. search rules) returns-2)
