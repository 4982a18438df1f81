use Rattle.pointing.specs.NameAt.{declares_by}
use Rattle.pointing.specs.Said.{one_bit, kind_number}
use Rattle.pointing.proofs.nameat.declares.Goals as goal

pub returns : goal.returns
returns c =
    one_bit _ _
    (declares_by c.word_in-first.ensures (kind_number c.args.kind) c.if-first.false c.keyword.result c.keyword.ensures c.word_declares.ensures)
