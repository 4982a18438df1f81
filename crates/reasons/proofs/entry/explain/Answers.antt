-- `reasons::entry::explain` meets its contract: a refusal, or the reasons by tables with an entry for each state.
use Rattle.std.proofs.Common.{refl, sym, arith}
use Rattle.refusals.specs.Laws.{number_above, handed_on}
use Rattle.reasons.specs.Granted.{allowed, answers_refused, answers_given, at_standing, at_prepared, at_live, at_x, at_y, at_told, at_counts}
use Rattle.reasons.proofs.entry.explain.Goals as goal

pub returns-in_err-layout : goal.returns-in_err-layout
returns-in_err-layout c =
    rw (handed_on _ _ c.from_residual.ensures.1)
    (record { answers = answers_refused _ _ _ _ _ _ c.in_err-layout.ensures.refuses (λ z. omega (arith, number_above c.in_err-layout.field-0.0)) }, tt)

pub reasons-requires-clause-standing : goal.reasons-requires-clause-standing
reasons-requires-clause-standing c =
    let k = c.in_ok-layout.ensures.granted in
    let h = allowed _ _ _ _ _ _ (sym c.in_ok-layout.ensures.refuses.is) in
    (at_standing k h, at_prepared k h, at_live k h)

pub reasons-requires-clause-counts_of : goal.reasons-requires-clause-counts_of
reasons-requires-clause-counts_of c =
    let k = c.in_ok-layout.ensures.granted in
    let h = allowed _ _ _ _ _ _ (sym c.in_ok-layout.ensures.refuses.is) in
    (at_counts _ _ k (c.in_ok-layout.ensures.refuses.left refl), at_x k h, at_y k h)

pub returns : goal.returns
returns c =
    let k = c.in_ok-layout.ensures.granted in
    let h = allowed _ _ _ _ _ _ (sym c.in_ok-layout.ensures.refuses.is) in
    let t = c.reasons.ensures in
    (record { answers = answers_given _ _ _ _ _ _ c.in_ok-layout.ensures.refuses refl (at_told k h t) }, (t.few_input, t.few_output))
