-- `drawing::lengths::change_length` meets its contract.
use native.Mathlib.Omega.{arith}
use borrow.Author.Tests.{eq-eqb}
use Rattle.drawing.specs.Lengths.{change_long}
use borrow.Author.Rules.{rules}
use Rattle.drawing.proofs.lengths.change_length.Statement.{statement}
use Rattle.drawing.proofs.lengths.change_length.Tie as tie

returns : tie.Need-returns-then-shown-eq0
returns c = (rw (eq-eqb _ 0 c.if-shown-eq0.true), omega arith)

returns-2 : tie.Need-returns
returns-2 c =
    let a = c.args in
    (omega (arith, change_long a.inputs.now a.outputs.now a.time a.shown 0 c.if-shown-eq0.false), omega arith)

pub change_length_spec : {M : Type 1} → statement M
change_length_spec = tie.close (tie.spec returns (λ c κs. search rules) (λ c κs. search rules) (λ c. search rules) returns-2)
