use Rattle.std.proofs.lemmas.Bool.{lt-ltb, le-ltb}
use Rattle.policy.specs.Check.{mask_good}
use Rattle.policy.proofs.RuleLaws.{one_shl}
use Rattle.policy.proofs.rules.mask_good.Goals as goal

pub returns-then-from-signals : goal.returns-then-from-signals
unfolding mask_good
returns-then-from-signals c = simp (lt-ltb _ _ (rw (c.from.ensures, one_shl _ c.requires) at c.if-from-signals.true))

pub returns-else-from-signals : goal.returns-else-from-signals
unfolding mask_good
returns-else-from-signals c =
    let beyond = le-ltb _ _ (rw (c.from.ensures, one_shl _ c.requires) at c.if-from-signals.false) in
    simp (c.from.ensures, one_shl _ c.requires, beyond)
