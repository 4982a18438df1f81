use Rattle.texts.specs.Under.{under_room, under_more, under_all}
use Rattle.drawing.specs.Under.{values_turn, values_end}
use Rattle.drawing.proofs.lines.put_values.Goals as goal

pub put_value-next-requires : goal.put_value-next-requires
put_value-next-requires c = under_room c.requires c.loop-tag.invariant _ _ (values_turn _ _ c.loop-tag.shown_on c.loop-tag.values_on c.loop-tag-test.true)

pub loop-tag-preserved : goal.loop-tag-preserved
loop-tag-preserved c =
    let p = c.put_value-next in
    under_more c.requires c.loop-tag.invariant (values_turn _ _ c.loop-tag.shown_on c.loop-tag.values_on c.loop-tag-test.true) p.ensures p.auto.text

pub returns : goal.returns
returns c = under_all c.loop-tag.invariant (values_end _ _ c.loop-tag.shown_on c.loop-tag.values_on c.loop-tag-test.false)
