-- `reasons::runs::room_for` meets its contract: 22 or a refusal up to 10 comes first, then 23, then 14.
use Rattle.std.proofs.Common.{◌≤◌, ◌<◌, sym, ap, ◌∙◌, ℕ, arith}
use Rattle.streams.specs.Answer.{gives}
use Rattle.refusals.specs.Laws.{number_above, handed_answer}
use Rattle.policy.specs.File.{policy_of}
use Rattle.policy.specs.Number.{states}
use Rattle.enforcer.specs.States.{layout_refused, layout_none, layout_granted, layout_is}
use Rattle.reasons.specs.Runs.{room_for}
use Rattle.reasons.specs.RunLaws.{room_first, room_23, room_14, room_0}
use Rattle.reasons.proofs.runs.room_for.Goals as goal

pub returns-in_err-layout : goal.returns-in_err-layout
unfolding room_for
returns-in_err-layout c =
    let r = c.in_err-layout.field-0.0 in
    handed_answer _ _ _ c.from_residual.ensures.1
    (sym (room_first _ _ _ _ _ _ (sym (layout_refused _ _ _ r c.in_err-layout.ensures)) (λ z. omega (arith, number_above r))))

pub returns-then-work-layout : goal.returns-then-work-layout
unfolding room_for
returns-then-work-layout c =
    let l = c.in_ok-layout.ensures in
    let g = layout_granted _ _ _ l in
    let n = g.laid.states ∙ ap (λ (r : ℕ). states (policy_of r c.args.file.now)) g.named in
    let short : c.args.work < states (policy_of c.args.reading c.args.file.now) = omega (arith, c.if-work-layout.true, n) in
    rw (room_23 _ _ _ _ _ _ (layout_none _ _ _ l) short)

pub returns-then-words-events : goal.returns-then-words-events
unfolding room_for
returns-then-words-events c =
    let l = c.in_ok-layout.ensures in
    let g = layout_granted _ _ _ l in
    let n = g.laid.states ∙ ap (λ (r : ℕ). states (policy_of r c.args.file.now)) g.named in
    let long : states (policy_of c.args.reading c.args.file.now) ≤ c.args.work = omega (arith, c.if-work-layout.false, n) in
    rw (room_14 _ _ _ _ _ _ (layout_none _ _ _ l) long c.if-words-events.true)

pub returns : goal.returns
unfolding room_for
returns c =
    let l = c.in_ok-layout.ensures in
    let g = layout_granted _ _ _ l in
    let n = g.laid.states ∙ ap (λ (r : ℕ). states (policy_of r c.args.file.now)) g.named in
    let long : states (policy_of c.args.reading c.args.file.now) ≤ c.args.work = omega (arith, c.if-work-layout.false, n) in
    rw (room_0 _ _ _ _ _ _ (layout_none _ _ _ l) long c.if-words-events.false) (ap gives (sym (layout_is _ _ _ l)))
