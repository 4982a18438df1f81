-- The table it lends is the one that was tested.
use Rattle.std.proofs.Common.{◌≡◌, ◌+◌, ◌*◌, ◌/◌, ◌%◌, refl, sym, ◌∙◌, arith}
use Rattle.streams.specs.ChooseLaws.{nearest_high}
use Rattle.choice.specs.Sets.{has}
use Rattle.choice.specs.Table.{table}
use Rattle.choice.proofs.chooser.nearest.Goals as goal

pub first_of_row-requires : goal.first_of_row-requires
unfolding table
first_of_row-requires c = (refl, omega arith, c.requires)

pub returns : goal.returns
returns c =
    let w = c.args.wanted in
    let e : w / 16 * 16 + w % 16 ≡ w = omega arith in
    c.first_of_row.ensures ∙ sym (rw e at (nearest_high (has c.args.set) 4 (w / 16) (w % 16) c.args.n (omega arith) c.requires))
