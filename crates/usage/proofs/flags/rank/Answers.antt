use Rattle.std.proofs.Common.{◌≡◌, ◌∙◌, sym, eqb, take, rules, arith}
use Rattle.std.specs.List.{count_by}
use Rattle.std.proofs.lemmas.List.Sums.{count_by-le-length}
use Rattle.std.proofs.Common.{length-take-le}
use Rattle.usage.proofs.FlagLaws.{rank_counts}
use Rattle.usage.proofs.flags.rank.Goals as goal

pub returns : goal.returns
returns c =
    let part = take c.args.n c.args.flags.now in
    let n : c.count.result ≡ count_by (λ b. eqb b 1) part = search rules in
    (n ∙ sym (rank_counts c.args.flags.now c.args.n), omega (arith, n, count_by-le-length (λ b. eqb b 1) part, length-take-le c.args.n c.args.flags.now c.requires.0))
