use Rattle.std.proofs.Common.{refl, sym}
use Rattle.compiling.specs.Promise.{judged_good}
use Rattle.pointing.specs.RuleAt.{rule_none}
use Rattle.pointing.proofs.ruleat.line_of_rule.Goals as goal

pub returns-in-None : goal.returns-in-None
returns-in-None c = rw c.from.ensures (rule_none c.args.text.now c.args.i (judged_good _ c.in_ok-judge.ensures).1 (sym c.in-None.ensures) refl)
