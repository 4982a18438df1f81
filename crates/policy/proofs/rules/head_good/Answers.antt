use Rattle.std.proofs.Common.{arith}
use Rattle.std.proofs.lemmas.Bool.Decides.{nat_tests}
use Rattle.policy.specs.File.{rule_from}
use Rattle.policy.specs.Check.{head_good}
use Rattle.policy.proofs.RuleLaws.{one_shl}
use Rattle.policy.proofs.rules.head_good.Goals as goal

pub returns-then-target-shape : goal.returns-then-target-shape
unfolding head_good rule_from
returns-then-target-shape c = grind (arith, nat_tests, one_shl c.args.shape.clocks c.requires.0.clocks)

pub returns-else-target-shape : goal.returns-else-target-shape
unfolding head_good rule_from
returns-else-target-shape c = grind (arith, nat_tests, one_shl c.args.shape.clocks c.requires.0.clocks)

pub returns-else-from-shape : goal.returns-else-from-shape
unfolding head_good rule_from
returns-else-from-shape c = grind (arith, nat_tests, one_shl c.args.shape.clocks c.requires.0.clocks)
