use Rattle.std.proofs.Common.{◌+◌, get_or, drop}
use Rattle.drawing.specs.Wave.{var_line, var_lines}
use Rattle.texts.specs.Under.{under_room, under_more, under_all}
use Rattle.drawing.specs.Under.{vars_turn, vars_end}
use Rattle.drawing.proofs.lines.put_vars.Goals as goal

pub put_bytes-next-requires : goal.put_bytes-next-requires
put_bytes-next-requires c =
    let tags = c.args.tags.now in
    let i = c.loop-tag.tag-index in
    rw c.var_line-line.ensures
    (under_room c.requires c.loop-tag.invariant (var_line (get_or tags i 0)) (var_lines (drop (i + 1) tags)) (vars_turn tags i c.loop-tag-test.true))

pub loop-tag-preserved : goal.loop-tag-preserved
loop-tag-preserved c =
    let p = c.put_bytes-next in
    under_more c.requires c.loop-tag.invariant (rw c.var_line-line.ensures (vars_turn c.args.tags.now c.loop-tag.tag-index c.loop-tag-test.true)) p.ensures p.auto.text

pub returns : goal.returns
returns c = under_all c.loop-tag.invariant (vars_end _ _ c.loop-tag-test.false)
