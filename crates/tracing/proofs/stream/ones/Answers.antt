-- Four bits at most, so none is lost.
use Rattle.std.proofs.Common.{◌^◌, ◌≤◌, arith}
use Rattle.std.proofs.Math.Nat.{pow-le-pow_right}
use Rattle.tracing.proofs.stream.ones.Goals as goal

pub returns : goal.returns
returns c =
    let p : 2 ^ c.args.n ≤ 2 ^ 4 = pow-le-pow_right {n = 2} (omega arith) {i = c.args.n} {j = 4} (omega arith) in
    (omega arith, omega arith)
