-- `reasons::runs::explained` meets its contract: 20, then 15, and without them a word for each event.
use Rattle.std.proofs.Common.{rules, ◌≡◌, length, sym, ap, ◌∙◌, arith}
use Rattle.policy.specs.Rules.{Place}
use Rattle.policy.specs.File.{policy_of}
use Rattle.policy.specs.Number.{number_of}
use Rattle.stepping.specs.State.{is_marked}
use Rattle.stepping.specs.Laid.{laid_place}
use Rattle.enforcer.specs.States.{state_granted, granted_standing}
use Rattle.enforcer.proofs.RunLaws.{good_back}
use Rattle.explaining.specs.Edited.{marks_prepared}
use Rattle.reasons.specs.RunLaws.{walking_starts, run_20, run_15, answers_no, answers_all}
use Rattle.reasons.proofs.runs.explained.Goals as goal

pub returns-then-others : goal.returns-then-others
returns-then-others c =
    λ work z. answers_no _ _ _ _ _ _ work (run_20 _ _ _ _ _ _ work z (sym c.requires.laid.1 ∙ c.if-others.true)) (λ e. omega arith)

pub returns-then-not-events_good : goal.returns-then-not-events_good
returns-then-not-events_good c =
    λ work z.
    answers_no _ _ _ _ _ _ work
    (run_15 _ _ _ _ _ _ work z (sym c.requires.laid.1 ∙ c.if-others.false) (sym c.events_good.ensures ∙ c.if-not-events_good.true)) (λ e. omega arith)

pub explain_all-requires-clause-walking : goal.explain_all-requires-clause-walking
explain_all-requires-clause-walking c =
    let a = c.args in
    let k = c.requires.laid.0 in
    let b = c.requires.file_in_bounds in
    let g = (state_granted _ _ _ a.state).0 b.1 in
    let four : length a.state.clocks ≡ 4 = search rules in (
      walking_starts _ _ (granted_standing k b.0 b.1)
          (ap (λ (z : Place). is_marked a.marks.now (number_of (policy_of a.layout.reading a.file.now) z)) (laid_place k a.state) ∙ g.1)
          (good_back k a.state four g.0),
      b.2,
    )

pub explain_all-requires-clause-as_prepared : goal.explain_all-requires-clause-as_prepared
explain_all-requires-clause-as_prepared c =
    let a = c.args in (
      marks_prepared (policy_of a.layout.reading a.file.now) a.marks.now (sym c.requires.laid.1 ∙ c.if-others.false),
      c.requires.laid.2,
      sym c.events_good.ensures ∙ c.if-not-events_good.false,
    )

pub returns : goal.returns
returns c =
    let g = c.explain_all.ensures in
    λ work z.
    answers_all _ _ c.requires.laid.0 _ _ _ work z (sym c.requires.laid.1 ∙ c.if-others.false) (sym c.events_good.ensures ∙ c.if-not-events_good.false) g.ready
    c.requires.file_in_bounds.2 g
