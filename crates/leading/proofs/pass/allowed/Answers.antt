-- A turn takes one rule, and behind it the others are ahead.
use Rattle.std.proofs.Common.{refl, ◌∙◌}
use Rattle.policy.specs.File.{policy_of}
use Rattle.stepping.specs.Laid.{laid_well}
use Rattle.stepping.specs.Pass.{gathers_as, gathering_start, gathering_more, gathering_done}
use Rattle.stepping.specs.RuleAhead.{none_ahead}
use Rattle.stepping.specs.RulePlaces.{places_fit, place_first, place_rule, place_rest}
use Rattle.leading.proofs.pass.allowed.Goals as goal

pub loop-at-init : goal.loop-at-init
loop-at-init c =
    let all = c.rule_places-at-items.ensures in
    rw c.into_iter-at-iterator.ensures.into_iter_gives (
      places_fit all.places,
      tt,
      all.places,
      c.all_left-left.ensures.size,
      refl,
      gathering_start _ (policy_of c.args.layout.reading c.args.file.now) _ (laid_well c.requires.standing.laid) _ all.rules _ c.all_left-left.ensures,
    )

pub gather_by-requires : goal.gather_by-requires
gather_by-requires c =
    let g = c.loop-at.invariant in
    (c.requires, place_rule g.2 c.in-Some.ensures.steps, c.inputs_of-inputs.ensures.1, g.3, g.4)

pub loop-at-preserved : goal.loop-at-preserved
loop-at-preserved c =
    let g = c.loop-at.invariant in
    let w = c.gather_by.ensures in
    let rest = place_rest g.2 c.in-Some.ensures.steps in (
      places_fit rest,
      tt,
      rest,
      w.taken.size ∙ g.3,
      w.gained.size ∙ g.4,
      gathering_more _ _ _ (rw (place_first g.2 c.in-Some.ensures.steps) at g.5) (gathers_as _ _ _ c.inputs_of-inputs.ensures.0 w),
    )

pub returns : goal.returns
returns c = gathering_done _ _ _ (rw (none_ahead _ _ _ _ c.in-None.ensures.steps) at c.loop-at.invariant.5)
