-- What one more read gave stands behind what was there.
use Rattle.std.proofs.Common.{rules, ◌-◌, length, subst}
use Rattle.std.specs.Io.KnownBytes.{Consumes}
use Rattle.files.proofs.Known.{consumes_both, front_and_read}
use Rattle.files.proofs.read_full.Goals as goal

pub loop-done-preserved : goal.loop-done-preserved
loop-done-preserved g c =
    let from = c.loop-done.done in
    let more = front_and_read from (length c.loop-done.bytes - from) c.in-Ok.read c.loop-done.bytes c.read.new.buf c.loop-done.invariant.0 c.in-Ok.ensures.bound.0 in
    (search rules, subst (Consumes _ _) more (consumes_both _ _ _ _ _ c.loop-done.invariant.1 c.in-Ok.ensures.bytes.0))
