use Rattle.std.proofs.Common.{arith}
use Rattle.index.specs.Names.{index_long}
use Rattle.index.specs.Sections.{sections_limits, sections_own}
use Rattle.index.proofs.own_at.Goals as goal

pub bounds-index-at : goal.bounds-index-at
bounds-index-at c = omega (arith, index_long _ c.requires.1, sections_limits c.requires.0)

pub bounds-index-at-2 : goal.bounds-index-at-2
bounds-index-at-2 c = omega (arith, index_long _ c.requires.1, sections_limits c.requires.0)

pub returns : goal.returns
returns c =
    rw (c.from.ensures, c.from-2.ensures, c.from-at.ensures) (sections_own c.requires.0 c.args.location c.requires.2 c.args.index.now c.requires.1)
