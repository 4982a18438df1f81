-- `enforcer::halves::input_half` meets its contract: each refusal up to 15 in its order; then the input as it was read, if it stands; and then what is left past it.
use Rattle.std.proofs.Common.{sym, ◌∙◌, ap}
use Rattle.refusals.specs.Laws.{handed_on}
use Rattle.stepping.specs.Ready.{ready_of}
use Rattle.enforcer.specs.States.{layout_granted, input_early, half_standing, input_by_16, input_left}
use Rattle.enforcer.specs.AsRead.{input_past_15, input_as_read}
use Rattle.refusals.specs.Refused.{told}
use Rattle.enforcer.proofs.halves.input_half.Goals as goal

pub returns-in_err-layout : goal.returns-in_err-layout
returns-in_err-layout c =
    record { said = ap told (handed_on _ _ c.from_residual.ensures.1) ∙ sym (input_early _ _ _ _ c.in_err-layout.ensures _ _) }

pub check_state-requires : goal.check_state-requires
check_state-requires c = let g = layout_granted _ _ _ c.in_ok-layout.ensures in (g.laid, g.enough)

pub returns-in_err-check_state : goal.returns-in_err-check_state
returns-in_err-check_state c =
    record {
      said =
          ap told (handed_on _ _ c.from_residual-in_err-check_state.ensures.1)
          ∙ sym (input_by_16 _ _ _ c.in_ok-layout.ensures _ _ c.in_err-check_state.ensures _);
    }

pub inputs_of-requires : goal.inputs_of-requires
inputs_of-requires c = (layout_granted _ _ _ c.in_ok-layout.ensures).laid

pub returns-then-inputs_of-x : goal.returns-then-inputs_of-x
returns-then-inputs_of-x c =
    record {
      said =
          sym (input_left _ _ _ c.in_ok-layout.ensures _ c.in_ok-check_state.ensures _
          ∙ input_past_15 _ _ _ _ _ (rw c.inputs_of.ensures.0 at c.if-inputs_of-x.true));
    }

pub own_of-own-requires : goal.own_of-own-requires
own_of-own-requires c = (layout_granted _ _ _ c.in_ok-layout.ensures).laid

pub here_by-here-requires : goal.here_by-here-requires
here_by-here-requires c = ((layout_granted _ _ _ c.in_ok-layout.ensures).laid, c.own_of-own.ensures)

pub input_reaches-requires : goal.input_reaches-requires
input_reaches-requires c = ready_of (half_standing _ _ _ c.in_ok-layout.ensures _ c.in_ok-check_state.ensures) c.here_by-here.ensures

-- As it was read the input stands.
pub returns-then-input_reaches : goal.returns-then-input_reaches
returns-then-input_reaches c =
    record {
      said =
          sym (input_left _ _ _ c.in_ok-layout.ensures _ c.in_ok-check_state.ensures _
          ∙ input_as_read _ _ _ _ _ (rw c.inputs_of.ensures.0 at c.if-inputs_of-x.false) (sym (rw c.here_by-here.ensures.1 at c.input_reaches.ensures) ∙ c.if-input_reaches.true));
    }

pub input_by-requires : goal.input_by-requires
input_by-requires c = (half_standing _ _ _ c.in_ok-layout.ensures _ c.in_ok-check_state.ensures, c.own_of-own.ensures)

pub returns : goal.returns
returns c =
    record { said = c.input_by.ensures ∙ sym (input_left _ _ _ c.in_ok-layout.ensures _ c.in_ok-check_state.ensures _) }
