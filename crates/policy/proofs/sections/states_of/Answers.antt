use Rattle.std.proofs.Common.{◌≡◌, length, take, sym, ◌∙◌, arith}
use Rattle.std.proofs.Math.Seq.{length-take-le}
use Rattle.policy.specs.Numbered.{states_take}
use Rattle.policy.proofs.sections.states_of.Goals as goal

pub returns : goal.returns
returns c =
    let a = c.args in
    let clocks : length (take a.clocks a.ceilings) ≡ a.clocks = length-take-le a.clocks a.ceilings (omega arith) in
    rw clocks at c.state_count.ensures ∙ sym (states_take a.ceilings a.clocks a.locations)
