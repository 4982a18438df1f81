-- `enforcer::halves::output_of` meets its contract: each refusal up to 15 in its order; then the output as it was read, if it stands; and then what is left past it.
use Rattle.std.proofs.Common.{sym, ◌∙◌, ap}
use Rattle.std.specs.Prelude.{Result, ℕ}
use Rattle.refusals.specs.Laws.{handed_on}
use Rattle.refusals.specs.declared.Refusal.{Refusal}
use Rattle.stepping.specs.Ready.{ready_of}
use Rattle.stepping.specs.declared.state.State.{State}
use Rattle.enforcer.specs.States.{layout_granted, output_early, half_standing, output_by_16, output_left}
use Rattle.enforcer.specs.AsRead.{output_past_15_x, output_past_15_y, output_half_as_read}
use Rattle.enforcer.specs.Promises.{handed}
use Rattle.enforcer.proofs.halves.output_of.Goals as goal

pub returns-in_err-layout : goal.returns-in_err-layout
returns-in_err-layout c =
    record {
      said =
          ap (λ (r : Result (ℕ × State) Refusal). handed c.args.state r) (handed_on _ _ c.from_residual.ensures.1)
          ∙ sym (output_early _ _ _ _ c.in_err-layout.ensures _ _ _);
    }

pub check_state-requires : goal.check_state-requires
check_state-requires c = let g = layout_granted _ _ _ c.in_ok-layout.ensures in (g.laid, g.enough)

pub returns-in_err-check_state : goal.returns-in_err-check_state
returns-in_err-check_state c =
    record {
      said =
          ap (λ (r : Result (ℕ × State) Refusal). handed c.args.state r) (handed_on _ _ c.from_residual-in_err-check_state.ensures.1)
          ∙ sym (output_by_16 _ _ _ c.in_ok-layout.ensures _ _ c.in_err-check_state.ensures _ _);
    }

pub inputs_of-requires : goal.inputs_of-requires
inputs_of-requires c = (layout_granted _ _ _ c.in_ok-layout.ensures).laid

pub returns-then-inputs_of-x : goal.returns-then-inputs_of-x
returns-then-inputs_of-x c =
    record {
      said =
          sym (output_left _ _ _ c.in_ok-layout.ensures _ c.in_ok-check_state.ensures _ _
          ∙ output_past_15_x _ _ _ _ _ _ _ (rw c.inputs_of.ensures.0 at c.if-inputs_of-x.true));
    }

pub outputs_of-requires : goal.outputs_of-requires
outputs_of-requires c = (layout_granted _ _ _ c.in_ok-layout.ensures).laid

pub returns-then-outputs_of-y : goal.returns-then-outputs_of-y
returns-then-outputs_of-y c =
    record {
      said =
          sym (output_left _ _ _ c.in_ok-layout.ensures _ c.in_ok-check_state.ensures _ _
          ∙ output_past_15_y _ _ _ _ _ _ _ (rw c.inputs_of.ensures.0 at c.if-inputs_of-x.false) (rw c.outputs_of.ensures.0 at c.if-outputs_of-y.true));
    }

pub own_of-own-requires : goal.own_of-own-requires
own_of-own-requires c = (layout_granted _ _ _ c.in_ok-layout.ensures).laid

pub here_by-here-requires : goal.here_by-here-requires
here_by-here-requires c = ((layout_granted _ _ _ c.in_ok-layout.ensures).laid, c.own_of-own.ensures)

pub output_arrival-requires : goal.output_arrival-requires
output_arrival-requires c = ready_of (half_standing _ _ _ c.in_ok-layout.ensures _ c.in_ok-check_state.ensures) c.here_by-here.ensures

-- As it was read the output stands, and the state moves.
pub returns-in-Some : goal.returns-in-Some
returns-in-Some c =
    record {
      said =
          sym (output_left _ _ _ c.in_ok-layout.ensures _ c.in_ok-check_state.ensures _ _
          ∙ output_half_as_read _ _ _ _ _ _ _ (rw c.inputs_of.ensures.0 at c.if-inputs_of-x.false) (rw c.outputs_of.ensures.0 at c.if-outputs_of-y.false) (rw c.here_by-here.ensures.1 at c.in-Some.ensures));
    }

pub output_by-requires : goal.output_by-requires
output_by-requires c = (half_standing _ _ _ c.in_ok-layout.ensures _ c.in_ok-check_state.ensures, c.own_of-own.ensures)

pub returns : goal.returns
returns c =
    record { said = c.output_by.ensures ∙ sym (output_left _ _ _ c.in_ok-layout.ensures _ c.in_ok-check_state.ensures _ _) }
