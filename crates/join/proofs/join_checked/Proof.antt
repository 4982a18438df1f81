-- `join::join_checked` meets its contract: 12, 13 by the limits, or what `join_within` gives.
use mathlib.Core.Path.{sym, ◌∙◌}
use native.Mathlib.Omega.{arith}
use Rattle.join.proofs.SizeLaws.{sizes}
use Rattle.join.proofs.JoinLaws.{refused_12, refused_13}
use borrow.Author.Rules.{rules}
use Rattle.join.proofs.join_checked.Statement.{statement}
use Rattle.join.proofs.join_checked.Tie as tie

returns : tie.Need-returns-then-not-same_signals
returns c =
    refused_12 c.args.out.now c.requires.0 c.requires.1 (sym c.same_signals.ensures ∙ c.if-not-same_signals.true)

within-limits-requires : tie.Need-within_limits-requires
within-limits-requires c κs = omega (arith, sizes c.requires.0, sizes c.requires.1)

returns-2 : tie.Need-returns-then-not-within_limits
returns-2 c =
    refused_13 c.args.out.now c.requires.0 c.requires.1 (sym c.same_signals.ensures ∙ c.if-not-same_signals.false)
    (rw (sym c.within_limits.ensures ∙ c.if-not-within_limits.true))

join-within-requires : tie.Need-join_within-requires
join-within-requires c κs =
    record {
      first = c.requires.0;
      second = c.requires.1;
      signals = sym c.same_signals.ensures ∙ c.if-not-same_signals.false;
      within = sym c.within_limits.ensures ∙ c.if-not-within_limits.false;
    }

returns-3 : tie.Need-returns
returns-3 c = c.join_within.ensures

pub join_checked_spec : {M : Type 1} → statement M
join_checked_spec = tie.close (tie.spec (λ c κs. search rules) returns within-limits-requires returns-2 join-within-requires (λ c. search rules) returns-3)
