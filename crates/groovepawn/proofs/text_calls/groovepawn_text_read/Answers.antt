-- The answer of the reader in one number, small enough to be packed.
use Rattle.std.proofs.Common.{arith}
use Rattle.groovepawn.specs.Text.{text_read_word, read_small}
use Rattle.groovepawn.proofs.text_calls.groovepawn_text_read.Goals as goal

pub pack_place-requires : goal.pack_place-requires
pack_place-requires c =
    let few = rw (← c.in-Ok.ensures.says) at (read_small c.args.text.now c.args.file.now) in omega (arith, few)

pub returns-in-Ok : goal.returns-in-Ok
unfolding text_read_word
returns-in-Ok c = let e = c.in-Ok.ensures in record { said = rw (← e.says) c.pack_place.ensures; file = e.writes }

pub pack_place-requires-in-Err : goal.pack_place-requires-in-Err
pack_place-requires-in-Err c =
    let few = rw (← c.in-Err.ensures.says) at (read_small c.args.text.now c.args.file.now) in omega (arith, few, c.from.ensures)

pub returns-in-Err : goal.returns-in-Err
unfolding text_read_word
returns-in-Err c = let e = c.in-Err.ensures in record { said = rw (← e.says, ← c.from.ensures) c.pack_place-in-Err.ensures; file = e.writes }
