-- The words, and then the number with the words after it.
use Rattle.std.proofs.Common.{append_assoc, arith}
use Rattle.texts.specs.Text.{decimal}
use Rattle.texts.specs.WroteLaws.{wrote_then}
use Rattle.rule_text.proofs.limits.put_named.Goals as goal

pub put_number-requires : goal.put_number-requires
put_number-requires c = let p = c.put_bytes-number in (omega arith, omega (arith, p.ensures.next))

pub returns : goal.returns
returns c =
    let a = c.args in
    let p = c.put_bytes-number in
    let q = c.put_number in
    (rw (append_assoc a.before.now (decimal a.n) a.after.now) (wrote_then (omega arith) p.ensures q.ensures.0), omega (arith, p.ensures.next, q.ensures.1))
