use Rattle.std.proofs.Common.{arith}
use Rattle.texts.specs.WroteLaws.{wrote_then}
use Rattle.showing.proofs.declared.put_tag.Goals as goal

pub returns : goal.returns
returns c = (wrote_then (omega arith) c.put_bytes-next.ensures c.put_bytes.ensures, omega (arith, c.put_bytes-next.ensures.next, c.put_bytes.ensures.next))
