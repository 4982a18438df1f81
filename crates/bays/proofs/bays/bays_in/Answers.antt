-- `bays::bays::bays_in` meets its contract.
use Rattle.std.proofs.Common.{eq-eqb, le-leb}
use Rattle.std.proofs.lemmas.Bool.{lt-leb}
use borrow.Author.Tests.{ne_eqb}
use Rattle.bays.specs.Bays.{bays_in}
use Rattle.bays.proofs.bays.bays_in.Goals as goal
use Rattle.bays.proofs.bays.bays_in.Goals.{then-numbers-ne0-via-then-numbers-ne0, then-numbers-ne0-via-else-numbers-ne0+then-numbers}

pub returns-then-numbers-ne0 : goal.returns-then-numbers-ne0
unfolding bays_in
returns-then-numbers-ne0 c =
    elim c.then-numbers-ne0.branch [
      | then-numbers-ne0-via-then-numbers-ne0 w ↦ rw (ne_eqb _ 0 w.if-numbers-ne0.true)
      | then-numbers-ne0-via-else-numbers-ne0+then-numbers w ↦ rw (eq-eqb _ 0 w.if-numbers-ne0.false, lt-leb c.args.numbers 40 w.if-numbers.true)
    ]

pub returns : goal.returns
unfolding bays_in
returns c = rw (eq-eqb _ 0 c.if-numbers-ne0.false, le-leb c.args.numbers 40 c.if-numbers.false)
