-- `bays::bays::bays_new` meets its contract.
use Rattle.std.proofs.Common.{ap, ◌∙◌, length, arith, lt-ltb, le-ltb}
use Rattle.bays.specs.Bays.{bays_in}
use Rattle.bays.specs.Entries.{new_refusal, new_states}
use Rattle.bays.proofs.bays.bays_new.Goals as goal

pub returns-then-bays_in-eq0 : goal.returns-then-bays_in-eq0
unfolding new_refusal new_states
returns-then-bays_in-eq0 c =
    let e = le-ltb 0 (bays_in (length c.args.states.now)) (omega (arith, c.bays_in.ensures, c.if-bays_in-eq0.true)) in
    record { said = rw e; states = rw e }

pub returns : goal.returns
unfolding new_refusal new_states
returns c =
    let e = lt-ltb 0 (bays_in (length c.args.states.now)) (omega (arith, c.bays_in.ensures, c.if-bays_in-eq0.false)) in
    record { said = rw e; states = rw e c.start_all.ensures }
