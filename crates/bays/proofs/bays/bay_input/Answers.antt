-- `bays::bays::bay_input` meets its contract: the answer of the input half for the bay's own state, and a refusal where there is no such bay.
use Rattle.std.proofs.Common.{◌<◌, length, sym, ap, ◌∙◌, arith}
use Rattle.streams.specs.Answer.{refused}
use Rattle.stepping.specs.declared.state.State.{State}
use Rattle.enforcer.specs.Entries.{input_of}
use Rattle.bays.specs.Bays.{bays_in}
use Rattle.bays.specs.There.{input_there, input_none}
use Rattle.bays.proofs.bays.bay_input.Goals as goal

pub returns-then-bays_in-bay : goal.returns-then-bays_in-bay
returns-then-bays_in-bay c =
    record { said = ap refused c.no_bay.ensures ∙ sym (input_none _ _ _ _ _ _ (omega (arith, c.bays_in.ensures, c.if-bays_in-bay.true))) }

pub returns : goal.returns
returns c =
    let a = c.args in
    let is : a.bay < bays_in (length a.states.now) = omega (arith, c.bays_in.ensures, c.if-bays_in-bay.false) in
    record {
      said =
          c.input_half.ensures.said
          ∙ ap (λ (s : State). input_of a.reading a.file.now a.marks.now s a.x) c.bay_state.ensures
          ∙ sym (input_there _ _ _ _ _ is _);
    }
