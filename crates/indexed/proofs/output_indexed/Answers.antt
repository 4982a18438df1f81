-- `indexed::output_indexed` meets its contract: each refusal up to 16 in its order, and then what is left past it, by the rules that the index names.
use Rattle.std.proofs.Common.{sym, ap, ◌∙◌}
use Rattle.std.specs.Prelude.{Result, ℕ}
use Rattle.refusals.specs.declared.Refusal.{Refusal}
use Rattle.stepping.specs.declared.state.State.{State}
use Rattle.refusals.specs.Laws.{handed_on}
use Rattle.stepping.specs.Laid.{laid_sections, standing_location}
use Rattle.enforcer.specs.States.{layout_granted, half_standing}
use Rattle.refusals.specs.Refused.{told}
use Rattle.enforcer.specs.Promises.{handed}
use Rattle.indexed.proofs.Laws.{early_index, early_layout, output_refused, output_state, output-past}
use Rattle.indexed.proofs.output_indexed.Goals as goal

pub returns-in_err-layout : goal.returns-in_err-layout
returns-in_err-layout c =
    record { said = ap (λ (r : Result (ℕ × State) Refusal). handed c.args.state r) (handed_on _ _ c.from_residual.ensures.1) ∙ sym (output_refused _ _ _ _ _ c.in_err-layout.ensures _ _ _) }

pub check_state-requires : goal.check_state-requires
check_state-requires c = let g = layout_granted _ _ _ (early_layout _ _ _ _ c.in_ok-layout.ensures) in (g.laid, g.enough)

pub returns-in_err-check_state : goal.returns-in_err-check_state
returns-in_err-check_state c =
    record {
      said =
          ap (λ (r : Result (ℕ × State) Refusal). handed c.args.state r) (handed_on _ _ c.from_residual-in_err-check_state.ensures.1)
          ∙ sym (output_state _ _ _ _ c.in_ok-layout.ensures _ _ c.in_err-check_state.ensures _ _);
    }

pub own_at-own-requires : goal.own_at-own-requires
own_at-own-requires c =
    let k = half_standing _ _ _ (early_layout _ _ _ _ c.in_ok-layout.ensures) _ c.in_ok-check_state.ensures in
    (laid_sections k.laid, early_index _ _ _ _ c.in_ok-layout.ensures, standing_location k)

pub output_by-requires : goal.output_by-requires
output_by-requires c = (half_standing _ _ _ (early_layout _ _ _ _ c.in_ok-layout.ensures) _ c.in_ok-check_state.ensures, c.own_at-own.ensures)

pub returns : goal.returns
returns c = record { said = c.output_by.ensures ∙ sym (output-past _ _ _ _ c.in_ok-layout.ensures _ c.in_ok-check_state.ensures _ _) }
