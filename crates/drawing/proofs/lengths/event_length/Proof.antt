-- `drawing::lengths::event_length` meets its contract.
use native.Mathlib.Omega.{arith}
use Rattle.drawing.specs.Under.{event_length}
use borrow.Author.Rules.{rules}
use Rattle.drawing.proofs.lengths.event_length.Statement.{statement}
use Rattle.drawing.proofs.lengths.event_length.Tie as tie

returns : tie.Need-returns
returns c = let a = c.args in (omega (arith, event_length a.inputs.now a.outputs.now a.shown 0), omega arith)

pub event_length_spec : {M : Type 1} → statement M
event_length_spec = tie.close (tie.spec (λ c κs. search rules) (λ c κs. search rules) (λ c. search rules) returns)
