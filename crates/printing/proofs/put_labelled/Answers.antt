-- The label, then the digits.
use Rattle.std.proofs.Common.{arith}
use Rattle.texts.specs.WroteLaws.{wrote_then}
use Rattle.printing.proofs.put_labelled.Goals as goal

pub returns : goal.returns
returns c =
    wrote_then (omega (arith, c.requires)) c.put_bytes-next.ensures c.put_decimal.ensures
