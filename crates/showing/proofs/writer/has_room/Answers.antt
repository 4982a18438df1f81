-- The longest text fits.
use Rattle.std.proofs.Common.{sym, ◌∙◌, arith, length, le-leb}
use Rattle.wording.specs.Writer.{text_of_file}
use Rattle.wording.specs.Longest.{written_at_most}
use Rattle.showing.proofs.writer.has_room.Goals as goal

pub returns-then-room-ge-LONGEST : goal.returns-then-room-ge-LONGEST
returns-then-room-ge-LONGEST c =
    let file = c.args.file.now in
    le-leb _ _ c.if-room-ge-LONGEST.true
    ∙ sym (le-leb (length (text_of_file file)) c.args.room (omega (arith, written_at_most file c.requires.0.passes, c.if-room-ge-LONGEST.true)))
