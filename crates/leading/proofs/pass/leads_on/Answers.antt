-- A turn takes one rule, and behind it the others are ahead.
use Rattle.std.proofs.Common.{sym, ◌∙◌, pow_pos}
use Rattle.streams.specs.ChooseLaws.{some_has}
use Rattle.policy.specs.File.{policy_of}
use Rattle.stepping.specs.Tick.{may_stand}
use Rattle.stepping.specs.Laid.{laid_well}
use Rattle.stepping.specs.Pass.{went_as, gathering_start, gathering_on, gathering_found, gathering_nothing}
use Rattle.stepping.specs.RuleAhead.{none_ahead}
use Rattle.stepping.specs.RulePlaces.{places_fit, place_first, place_rule, place_rest}
use Rattle.leading.proofs.pass.leads_on.Goals as goal

pub returns-then-idles : goal.returns-then-idles
unfolding may_stand
returns-then-idles c = sym (some_has _ _ 0 (pow_pos _) (some_has _ _ 0 (pow_pos _) (sym c.idles.ensures ∙ c.if-idles.true)))

pub loop-at-init : goal.loop-at-init
loop-at-init c =
    let all = c.rule_places-at-items.ensures in
    rw c.into_iter-at-iterator.ensures.into_iter_gives (
      places_fit all.places,
      tt,
      all.places,
      c.all_left-left.ensures.size,
      gathering_start _ (policy_of c.args.layout.reading c.args.file.now) _ (laid_well c.requires.standing.laid) _ all.rules _ c.all_left-left.ensures,
    )

pub go_by-requires : goal.go_by-requires
go_by-requires c =
    let g = c.loop-at.invariant in
    (c.requires, place_rule g.2 c.in-Some.ensures.steps, c.inputs_of-inputs.ensures.1, g.3)

pub returns-then-go_by : goal.returns-then-go_by
returns-then-go_by c =
    let g = c.loop-at.invariant in
    sym (gathering_found _ _ _ (laid_well c.requires.standing.laid) (rw (place_first g.2 c.in-Some.ensures.steps) at g.4)
    (went_as _ _ _ c.inputs_of-inputs.ensures.0 c.if-go_by.true c.go_by.ensures))

pub loop-at-preserved : goal.loop-at-preserved
loop-at-preserved c =
    let g = c.loop-at.invariant in
    let rest = place_rest g.2 c.in-Some.ensures.steps in (
      places_fit rest,
      tt,
      rest,
      c.go_by.ensures.changed.size ∙ g.3,
      gathering_on _ _ _ (rw (place_first g.2 c.in-Some.ensures.steps) at g.4) (went_as _ _ _ c.inputs_of-inputs.ensures.0 c.if-go_by.false c.go_by.ensures),
    )

pub returns : goal.returns
returns c = sym (gathering_nothing _ _ _ (laid_well c.requires.standing.laid) (rw (none_ahead _ _ _ _ c.in-None.ensures.steps) at c.loop-at.invariant.4))
