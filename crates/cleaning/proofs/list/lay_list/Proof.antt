-- `cleaning::list::lay_list` meets its contract: the parts are laid one after the other.
use borrow.Author.Rules.{rules}
use Rattle.laying.specs.Laying.{laid_more, laid_as}
use Rattle.cleaning.proofs.LayLaws.{flags_few, struck_whole}
use Rattle.cleaning.proofs.list.lay_list.Statement.{statement}
use Rattle.cleaning.proofs.list.lay_list.Tie as tie

lay-locations-requires : tie.Need-lay_locations-next-requires
lay-locations-requires c κs = (flags_few c.requires).0

lay-rules-struck-requires : tie.Need-lay_rules_struck-requires
lay-rules-struck-requires c κs = (c.requires, c.lay_locations-next.ensures.1)

returns : tie.Need-returns
returns c =
    let a = c.args in
    laid_as (struck_whole a.entered.now a.used.now a.file.now a.layout) (laid_more c.lay_locations-next.ensures.0 c.lay_rules_struck.ensures)

pub lay_list_spec : {M : Type 1} → statement M
lay_list_spec = tie.close (tie.spec lay-locations-requires lay-rules-struck-requires (λ c. search rules) returns)
