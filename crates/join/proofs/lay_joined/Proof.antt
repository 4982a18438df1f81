-- `join::lay_joined` meets its contract: the parts of the files that the rules are.
use native.Mathlib.Omega.{arith}
use Rattle.laying.specs.Laying.{laid_as}
use Rattle.join.proofs.SizeLaws.{sizes}
use Rattle.join.proofs.FileLaws.{rules_section, joinable, rules_joined}
use borrow.Author.Rules.{rules}
use Rattle.join.proofs.lay_joined.Statement.{statement}
use Rattle.join.proofs.lay_joined.Tie as tie

sub-lay-rules : tie.Need-slice_bounds-lay_rules-count
sub-lay-rules c = omega (arith, sizes c.requires.first)

part-lay-rules-start : tie.Need-slice_bounds-lay_rules-start
part-lay-rules-start c = omega (arith, sizes c.requires.first)

part-lay-rules-end : tie.Need-slice_bounds-lay_rules-end
part-lay-rules-end c = omega (arith, sizes c.requires.first)

sub-lay-rules-2 : tie.Need-slice_bounds-lay_rules-count-2
sub-lay-rules-2 c = omega (arith, sizes c.requires.second)

part-lay-rules-start-2 : tie.Need-slice_bounds-lay_rules-start-2
part-lay-rules-start-2 c = omega (arith, sizes c.requires.second)

part-lay-rules-end-2 : tie.Need-slice_bounds-lay_rules-end-2
part-lay-rules-end-2 c = omega (arith, sizes c.requires.second)

lay-rules-requires : tie.Need-lay_rules-requires
lay-rules-requires c κs =
    let p = c.requires in
    rw ((sizes p.first).section, (sizes p.second).section) (joinable p, rules_section p.first, rules_section p.second)

returns : tie.Need-returns
returns c =
    let p = c.requires in
    let e = c.lay_rules.ensures in
    (laid_as (rules_joined p) (rw ((sizes p.first).section, (sizes p.second).section) at e.0), e.1)

pub lay_joined_spec : {M : Type 1} → statement M
lay_joined_spec = tie.close (tie.spec sub-lay-rules part-lay-rules-start part-lay-rules-end sub-lay-rules-2 part-lay-rules-start-2 part-lay-rules-end-2 lay-rules-requires (λ c. search rules) returns)
