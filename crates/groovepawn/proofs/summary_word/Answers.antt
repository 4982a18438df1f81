-- The numbers of a summary are small enough to be packed.
use Rattle.std.proofs.Common.{ap, arith}
use Rattle.refusals.specs.Refused.{told}
use Rattle.groovepawn.proofs.summary_word.Goals as goal

pub pack_summary-requires : goal.pack_summary-requires
pack_summary-requires c = let s = c.requires c.in-Ok.s (ap told c.in-Ok.is) in (omega (arith, s), omega (arith, s))
