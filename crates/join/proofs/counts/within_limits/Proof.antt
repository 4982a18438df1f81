-- `join::counts::within_limits` meets its contract: each return rewrites with the tests that led there.
use Prim.Native.Nat.{◌*◌, ◌≤◌}
use native.Mathlib.Nat.{mul-le-mul}
use native.Mathlib.Omega.{arith}
use borrow.Author.Tests.{le-leb, lt-leb}
use Rattle.join.specs.JoinBytes.{limits}
use borrow.Author.Rules.{rules}
use Rattle.join.proofs.counts.within_limits.Statement.{statement}
use Rattle.join.proofs.counts.within_limits.Tie as tie

places : (c : tie.Start) → c.args.first.locations * c.args.second.locations ≤ 64 * 64
places c = mul-le-mul {n₂ = 64} {m₂ = 64} c.requires.0.0 c.requires.0.1

numbers : (c : tie.Start) → c.args.first.states * c.args.second.states ≤ 65536 * 65536
numbers c = mul-le-mul {n₂ = 65536} {m₂ = 65536} c.requires.1.0 c.requires.1.1

mul-if1 : tie.Need-overflow_mul-first
mul-if1 c = omega (arith, places c.before.before)

returns : tie.Need-returns-then-first-second-gt-LOCATIONS
unfolding limits
returns c = rw (lt-leb _ _ c.if-first-second-gt-LOCATIONS.true)

returns-2 : tie.Need-returns-then-first-second-gt-CLOCKS
unfolding limits
returns-2 c = rw (le-leb _ _ c.if-first-second-gt-LOCATIONS.false, lt-leb _ _ c.if-first-second-gt-CLOCKS.true)

mul-result : tie.Need-overflow_mul-result
mul-result c = omega (arith, numbers c.before.before.before.before.before.before.before.before)

returns-3 : tie.Need-returns
unfolding limits
returns-3 c =
    rw (le-leb _ _ c.if-first-second-gt-LOCATIONS.false, le-leb _ _ c.if-first-second-gt-CLOCKS.false)

pub within_limits_spec : {M : Type 1} → statement M
within_limits_spec = tie.close (tie.spec mul-if1 returns (λ c. search rules) returns-2 mul-result returns-3)
