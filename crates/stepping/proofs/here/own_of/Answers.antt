-- The rule section reads as the rules.
use Rattle.std.proofs.Common.{ap, ◌∙◌, arith, length-take, length-drop}
use Rattle.policy.specs.Own.{own_of}
use Rattle.stepping.specs.Laid.{laid_limits, laid_section, laid_rules}
use Rattle.stepping.proofs.here.own_of.Goals as goal

pub slice_bounds-own_rules-count : goal.slice_bounds-own_rules-count
slice_bounds-own_rules-count c = omega (arith, laid_limits c.requires)

pub slice_bounds-own_rules-start : goal.slice_bounds-own_rules-start
slice_bounds-own_rules-start c = omega (arith, laid_limits c.requires)

pub slice_bounds-own_rules-end : goal.slice_bounds-own_rules-end
slice_bounds-own_rules-end c = omega (arith, laid_limits c.requires)

pub own_rules-requires : goal.own_rules-requires
own_rules-requires c =
    let k = c.requires in
    simp (length-take, length-drop) (omega (arith, laid_limits k, laid_section k))

pub returns : goal.returns
returns c = c.own_rules.ensures ∙ ap (own_of c.args.layout.clocks c.args.state.location) (laid_rules c.requires)
