-- A's refusal, then B's, then what `join_checked` gives.
use Rattle.refusals.specs.Laws.{handed_on}
use Rattle.join.proofs.SizeLaws.{checks, checks_not}
use Rattle.join.proofs.JoinLaws.{refused_a, refused_b}
use Rattle.join.proofs.join.Goals as goal

pub returns-in_err-first : goal.returns-in_err-first
returns-in_err-first c =
    rw (handed_on _ _ c.from_residual.ensures.1) (refused_a c.args.out.now _ (checks_not _ _ c.in_err-first.ensures))

pub returns-in_err-second : goal.returns-in_err-second
returns-in_err-second c =
    rw (handed_on _ _ c.from_residual-in_err-second.ensures.1)
    (refused_b c.args.out.now _ (checks _ _ c.in_ok-first.ensures).passes (checks_not _ _ c.in_err-second.ensures))

pub join_checked-requires : goal.join_checked-requires
join_checked-requires c = (checks _ _ c.in_ok-first.ensures, checks _ _ c.in_ok-second.ensures)
