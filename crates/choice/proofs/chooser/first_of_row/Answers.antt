-- The table lists each row from the nearest value to the farthest, so the first that may stand is the nearest.
use Rattle.std.proofs.Common.{◌≡◌, ◌+◌, ◌-◌, ◌*◌, arith}
use Rattle.choice.proofs.TableLaws.{row_nearest}
use Rattle.choice.proofs.chooser.first_of_row.Goals as goal

pub loop-value-init : goal.loop-value-init
loop-value-init c =
    let from = c.args.wanted * 16 in
    let e : from + 16 - from ≡ 16 = omega arith in
    rw (c.requires.0, e) (row_nearest c.args.wanted c.requires.1 _ c.args.n c.requires.2)
