-- `bays::bays::bay_output` meets its contract: the answer of the output half for the bay's own state, which becomes the next one in the list; and a
-- refusal where there is no such bay.
use Rattle.std.proofs.Common.{◌<◌, ℕ, List, length, sym, ap, ◌∙◌, arith}
use Rattle.streams.specs.Answer.{refused, gives}
use Rattle.refusals.specs.Laws.{handed_on}
use Rattle.stepping.specs.declared.state.State.{State}
use Rattle.enforcer.specs.Entries.{output_of}
use Rattle.bays.specs.Bays.{bays_in}
use Rattle.bays.specs.Entries.{moved}
use Rattle.bays.specs.Parts.{fits, with_same}
use Rattle.bays.specs.There.{output_there, output_none}
use Rattle.bays.proofs.bays.bay_output.Goals as goal

pub returns-then-bays_in-bay : goal.returns-then-bays_in-bay
returns-then-bays_in-bay c =
    record {
      said =
          ap (λ (k : ℕ). record { answer = refused k; states = c.args.states.now }) c.no_bay.ensures
          ∙ sym (output_none _ _ _ _ _ _ _ (omega (arith, c.bays_in.ensures, c.if-bays_in-bay.true)));
    }

pub returns-in_err-released : goal.returns-in_err-released
returns-in_err-released c =
    let a = c.args in
    let is : a.bay < bays_in (length a.states.now) = omega (arith, c.bays_in.ensures, c.if-bays_in-bay.false) in
    let said = rw c.bay_state-given.ensures at c.in_err-released.ensures.said in
    record {
      said =
          rw (handed_on _ _ c.from_residual.ensures.1)
          (rw (output_there _ _ _ _ _ is a.x a.y, ← said, with_same a.states.now a.bay (fits _ _ is).0));
    }

pub returns : goal.returns
returns c =
    let a = c.args in
    let is : a.bay < bays_in (length a.states.now) = omega (arith, c.bays_in.ensures, c.if-bays_in-bay.false) in
    record {
      said =
          ap (λ (l : List ℕ). record { answer = gives c.in_ok-released.released; states = l }) c.put_bay.ensures
          ∙ ap (moved a.states.now a.bay) (c.in_ok-released.ensures.said ∙ ap (λ (z : State). output_of a.reading a.file.now a.marks.now z a.x a.y) c.bay_state-given.ensures)
          ∙ sym (output_there _ _ _ _ _ is _ _);
    }
