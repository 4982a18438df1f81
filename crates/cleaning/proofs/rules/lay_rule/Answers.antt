-- The parts are laid one after the other.
use Rattle.std.proofs.Common.{ℕ, ◌+◌, ◌<◌, ◌∙◌, ap, arith}
use Rattle.policy.specs.File.{byte_at}
use Rattle.laying.specs.Laying.{laid_more, laid_as, bytes_length}
use Rattle.usage.specs.Sift.{rank}
use Rattle.usage.specs.Clean.{renumbered}
use Rattle.usage.specs.Code.{flags_of}
use Rattle.cleaning.proofs.LayLaws.{rule_laid}
use Rattle.cleaning.proofs.rules.lay_rule.Goals as goal

pub put-bounds-requires : goal.put-bounds-requires
put-bounds-requires c =
    (omega (arith, c.renumber-target.ensures.1, c.byte_within-2.ensures.1), omega (arith, c.copy-targets.ensures.ends, bytes_length c.args.file.now (c.args.p + 1) 5))

pub copy-requires : goal.copy-requires
copy-requires c =
    let n = bytes_length c.args.file.now (c.args.p + 1) 5 in
    (omega arith, omega arith, omega (arith, c.put-bounds.ensures.ends, c.copy-targets.ensures.ends))

pub returns : goal.returns
returns c =
    let a = c.args in
    let flags = flags_of a.entered.now in
    let bytes : (i : ℕ) → byte_at a.file.now i < 256 = λ i. omega (arith, c.type_inv.file i) in
    laid_as
    (rule_laid flags a.clocks a.file.now a.p bytes (c.rank-source.ensures.0 ∙ ap (rank flags) c.byte_within.ensures.0)
    (c.renumber-target.ensures.0 ∙ ap (renumbered flags) c.byte_within-2.ensures.0))
    (laid_more (laid_more (laid_more c.put-cares.ensures c.copy-targets.ensures) c.put-bounds.ensures) c.copy.ensures)
