use Rattle.std.proofs.Common.{◌+◌, ◌/◌, arith, drop, get_or}
use Rattle.texts.specs.Under.{under_start, under_room, under_more, under_all}
use Rattle.asks.specs.Words.{name, names}
use Rattle.asks.specs.Turns.{names_turn, names_end}
use Rattle.asks.proofs.signals.put_names.Goals as goal

pub loop-tag-init : goal.loop-tag-init
loop-tag-init c = under_start _ _ _

pub put_name-next-requires : goal.put_name-next-requires
put_name-next-requires c =
    let tags = c.args.tags.now in
    let i = c.loop-tag.tag-index in
    let mask = c.loop-tag.mask_on in
    under_room c.requires c.loop-tag.invariant (name (get_or tags i 0) mask) (names (drop (i + 1) tags) (mask / 2)) (names_turn tags i mask (omega arith))

pub loop-tag-preserved : goal.loop-tag-preserved
loop-tag-preserved c =
    let l = c.loop-tag in
    let put = c.put_name-next in
    under_more c.requires l.invariant (names_turn c.args.tags.now l.tag-index l.mask_on (omega arith)) put.ensures put.auto.text

pub returns : goal.returns
returns c =
    let l = c.loop-tag in under_all l.invariant (names_end c.args.tags.now l.tag-index l.mask_on (omega arith))
