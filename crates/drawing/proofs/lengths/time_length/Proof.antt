-- `drawing::lengths::time_length` meets its contract.
use native.Mathlib.Omega.{arith}
use Rattle.drawing.specs.Under.{time_length}
use borrow.Author.Rules.{rules}
use Rattle.drawing.proofs.lengths.time_length.Statement.{statement}
use Rattle.drawing.proofs.lengths.time_length.Tie as tie

returns : tie.Need-returns
returns c = (omega (arith, time_length c.args.time), omega arith)

pub time_length_spec : {M : Type 1} → statement M
time_length_spec = tie.close (tie.spec (λ c κs. search rules) (λ c. search rules) returns)
