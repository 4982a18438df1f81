use Rattle.std.proofs.Common.{arith}
use Rattle.std.proofs.lemmas.Bool.Decides.{nat_tests}
use Rattle.policy.specs.Check.{bound_good}
use Rattle.policy.proofs.rules.bound_good.Goals as goal

pub returns-then-high-ceiling : goal.returns-then-high-ceiling
unfolding bound_good
returns-then-high-ceiling c = grind (arith, nat_tests)

pub returns-else-high-ceiling : goal.returns-else-high-ceiling
unfolding bound_good
returns-else-high-ceiling c = grind (arith, nat_tests)

pub returns-else-low-ceiling : goal.returns-else-low-ceiling
unfolding bound_good
returns-else-low-ceiling c = grind (arith, nat_tests)
