-- `enforcer::halves::check_state` meets its contract: a state in range has a number, and its mark decides.
use Rattle.std.proofs.Common.{sym, ◌∙◌, arith, eq-eqb}
use borrow.Author.Tests.{ne_eqb}
use Rattle.stepping.specs.Laid.{laid_limits, laid_well}
use Rattle.enforcer.specs.Entries.{state_refusal}
use Rattle.enforcer.specs.States.{good_numbered, state_granted}
use Rattle.enforcer.proofs.halves.check_state.Goals as goal

pub returns-then-not-state_good : goal.returns-then-not-state_good
unfolding state_refusal
returns-then-not-state_good c = rw (sym c.state_good.ensures ∙ c.if-not-state_good.true)

pub number-number-requires : goal.number-number-requires
number-number-requires c =
    let k = c.requires.0 in
    let n = good_numbered k c.args.marks.now c.args.state (sym c.state_good.ensures ∙ c.if-not-state_good.false) in
    omega (arith, laid_limits k, (laid_well k).states, n.number)

pub bounds-marks-number : goal.bounds-marks-number
bounds-marks-number c =
    let n = good_numbered c.requires.0 c.args.marks.now c.args.state (sym c.state_good.ensures ∙ c.if-not-state_good.false) in
    omega (arith, c.number-number.ensures, n.number, c.requires.1)

pub returns-then-marks-number-ne1 : goal.returns-then-marks-number-ne1
unfolding state_refusal
returns-then-marks-number-ne1 c =
    let good = sym c.state_good.ensures ∙ c.if-not-state_good.false in
    let n = good_numbered c.requires.0 c.args.marks.now c.args.state good in
    rw (good, ← n.mark, ← c.number-number.ensures, ne_eqb _ _ c.if-marks-number-ne1.true)

pub returns : goal.returns
returns c =
    let good = sym c.state_good.ensures ∙ c.if-not-state_good.false in
    let n = good_numbered c.requires.0 c.args.marks.now c.args.state good in
    sym ((state_granted _ _ _ _).1 (good, sym n.mark ∙ rw (← c.number-number.ensures) (eq-eqb _ _ c.if-marks-number-ne1.false)))
