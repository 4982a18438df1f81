-- A turn takes one rule, and behind it the others are ahead.
use Rattle.std.proofs.Common.{ap, ◌∙◌}
use Rattle.policy.specs.File.{policy_of}
use Rattle.stepping.specs.Laid.{laid_well}
use Rattle.stepping.specs.RuleAhead.{none_ahead}
use Rattle.stepping.specs.RulePlaces.{places_fit, place_first, place_rule, place_rest}
use Rattle.choice.specs.Sets.{all_below}
use Rattle.leading.specs.Rowing.{rowing_start, rowing_more, rowing_empty, rowing_done}
use Rattle.leading.proofs.pass.row.Goals as goal

pub loop-at-init : goal.loop-at-init
loop-at-init c =
    let all = c.rule_places-at-items.ensures in
    rw c.into_iter-at-iterator.ensures.into_iter_gives (
      places_fit all.places,
      tt,
      all.places,
      rowing_start _ (policy_of c.args.layout.reading c.args.file.now) _ _ (laid_well c.requires.standing.laid) _ all.rules _ (c.all_below-left.ensures ∙ ap all_below c.outputs_of.ensures.0),
    )

pub takes-took-requires : goal.takes-took-requires
takes-took-requires c = (c.requires.standing.laid, c.requires.here, place_rule c.loop-at.invariant.2 c.in-Some.ensures.steps)

pub kept-found-requires : goal.kept-found-requires
kept-found-requires c = (c.requires.standing, place_rule c.loop-at.invariant.2 c.in-Some.ensures.steps)

pub returns-then-left-eq0 : goal.returns-then-left-eq0
returns-then-left-eq0 c =
    let g = c.loop-at.invariant in
    rowing_empty _ _ _ _ (rowing_more _ _ _ _ (rw (place_first g.2 c.in-Some.ensures.steps) at g.3) c.takes-took.ensures c.kept-found.ensures) c.if-left-eq0.true

pub loop-at-preserved : goal.loop-at-preserved
loop-at-preserved c =
    let g = c.loop-at.invariant in
    let rest = place_rest g.2 c.in-Some.ensures.steps in (
      places_fit rest,
      tt,
      rest,
      rowing_more _ _ _ _ (rw (place_first g.2 c.in-Some.ensures.steps) at g.3) c.takes-took.ensures c.kept-found.ensures,
    )

pub returns : goal.returns
returns c = rowing_done _ _ _ _ (rw (none_ahead _ _ _ _ c.in-None.ensures.steps) at c.loop-at.invariant.3)
