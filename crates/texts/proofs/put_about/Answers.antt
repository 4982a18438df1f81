-- The words, the digits, the words.
use Rattle.std.proofs.Common.{arith}
use Rattle.texts.specs.WroteLaws.{wrote_then}
use Rattle.texts.proofs.put_about.Goals as goal

pub returns : goal.returns
returns c =
    wrote_then (omega arith) (wrote_then (omega arith) c.put_bytes-number.ensures c.put_decimal-rest.ensures) c.put_bytes.ensures
