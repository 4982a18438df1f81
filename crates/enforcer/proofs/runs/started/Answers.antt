-- `enforcer::runs::started` meets its contract: at each return the refusals before it are none.
use Rattle.std.proofs.Common.{rules, ◌≡◌, sym, ◌∙◌, length, le-leb}
use Rattle.std.proofs.lemmas.Bool.{lt-leb}
use Rattle.refusals.specs.declared.Refusal.{Refusal}
use Rattle.refusals.specs.Laws.{refused_first, handed_on}
use Rattle.stepping.specs.Laid.{laid_place, laid_sections}
use Rattle.enforcer.specs.Entries.{run_refusal, run_of}
use Rattle.enforcer.specs.States.{state_granted, layout_refused, layout_none, layout_granted, half_standing}
use Rattle.enforcer.proofs.RunLaws.{good_back, run_past, run_refused}
use Rattle.enforcer.proofs.runs.started.Goals as goal

pub returns-in_err-layout : goal.returns-in_err-layout
unfolding run_refusal
returns-in_err-layout c =
    rw (handed_on _ _ c.from_residual.ensures.1)
    (run_refused c.in_err-layout.field-0.0 (rw (layout_refused _ _ _ _ c.in_err-layout.ensures) (refused_first _ _)))

pub returns-then-out-events : goal.returns-then-out-events
unfolding run_refusal
returns-then-out-events c = run_refused Refusal.NoRoom (rw (layout_none _ _ _ c.in_ok-layout.ensures, lt-leb _ _ c.if-out-events.true))

pub check_state-requires : goal.check_state-requires
check_state-requires c = let g = layout_granted _ _ _ c.in_ok-layout.ensures in (g.laid, g.enough)

pub returns-in_err-check_state : goal.returns-in_err-check_state
unfolding run_refusal
returns-in_err-check_state c =
    let l = c.in_ok-layout.ensures in
    rw (handed_on _ _ c.from_residual-in_err-check_state.ensures.1)
    (run_refused c.in_err-check_state.field-0.0
    (rw (layout_none _ _ _ l, le-leb _ _ c.if-out-events.false, ← (layout_granted _ _ _ l).named, ← c.in_err-check_state.ensures) (refused_first _ _)))

pub events_good-requires : goal.events_good-requires
events_good-requires c = (layout_granted _ _ _ c.in_ok-layout.ensures).laid

pub returns-then-not-events_good : goal.returns-then-not-events_good
returns-then-not-events_good c =
    let l = c.in_ok-layout.ensures in
    run_refused Refusal.BadEvent
    (run_past _ _ _ _ _ _ c.in_ok-layout.layout (layout_granted _ _ _ l).named (layout_none _ _ _ l) c.if-out-events.false (sym c.in_ok-check_state.ensures)
    ∙ rw (sym c.events_good.ensures ∙ c.if-not-events_good.true))

pub fill-requires : goal.fill-requires
fill-requires c = (laid_sections (layout_granted _ _ _ c.in_ok-layout.ensures).laid, search rules)

pub release-requires-clause-standing : goal.release-requires-clause-standing
release-requires-clause-standing c =
    let l = c.in_ok-layout.ensures in
    let four : length c.args.state.clocks ≡ 4 = search rules in (
      half_standing _ _ _ l _ c.in_ok-check_state.ensures,
      good_back (layout_granted _ _ _ l).laid _ four ((state_granted _ _ _ _).0 (sym c.in_ok-check_state.ensures)).0,
    )

pub returns : goal.returns
unfolding run_of
returns c =
    let l = c.in_ok-layout.ensures in
    let g = layout_granted _ _ _ l in
    let past = run_past _ _ _ _ _ _ c.in_ok-layout.layout g.named (layout_none _ _ _ l) c.if-out-events.false (sym c.in_ok-check_state.ensures) in
    record { said = rw (past, sym c.events_good.ensures ∙ c.if-not-events_good.false, ← g.named, ← laid_place g.laid _) c.release.ensures }
