-- `join::counts::left_at` meets its contract: the byte is 0 where both parts rest.
use mathlib.Core.Path.{sym}
use native.Mathlib.Omega.{arith}
use Rattle.join.proofs.SizeLaws.{sizes}
use Rattle.join.proofs.FileLaws.{first_place, second_place, left_by}
use Rattle.join.proofs.counts.left_at.Statement.{statement}
use Rattle.join.proofs.counts.left_at.Tie as tie

div-may-rest : tie.Need-nonzero_div-location
div-may-rest c = omega (arith, sizes c.requires.0.second)

may-rest-requires : tie.Need-may_rest-rests-requires
may-rest-requires c κs = let p = c.requires in first_place p.0 _ p.1

rem-may-rest : tie.Need-nonzero_rem-location
rem-may-rest c = omega (arith, sizes c.requires.0.second)

may-rest-requires-2 : tie.Need-may_rest-other_rests-requires
may-rest-requires-2 c κs = let p = c.requires in second_place p.0 _ p.1

returns : tie.Need-returns-then-rests-other_rests
returns c =
    (sym (left_by c.requires.0 _ c.may_rest-rests.ensures c.may_rest-other_rests.ensures c.if-rests-other_rests.true), omega arith)

returns-2 : tie.Need-returns-else-rests-other_rests
returns-2 c =
    (sym (left_by c.requires.0 _ c.may_rest-rests.ensures c.may_rest-other_rests.ensures c.if-rests-other_rests.false), omega arith)

pub left_at_spec : {M : Type 1} → statement M
left_at_spec = tie.close (tie.spec div-may-rest may-rest-requires rem-may-rest may-rest-requires-2 returns returns-2)
