use Rattle.std.proofs.Common.{◌≡◌, true, false, ◌+◌, ◌<◌, ◌≤◌, arith, ◌∙◌, get_or, length}
use Rattle.std.specs.Prelude.{◌&&◌, eqb, ltb, min}
use Rattle.std.proofs.Math.Nat.{mul-zero}
use Rattle.policy.specs.File.{byte_at}
use Rattle.policy.proofs.SignalLaws.{is_found, no_more, weight_turn, one_shl_byte, twice}
use Rattle.policy.proofs.signals.weight_at.Goals as goal

pub returns-then-eq : goal.returns-then-eq
returns-then-eq c =
    let a = c.args in
    let i = c.loop-i.i in
    let last : i < min (byte_at a.file.now a.at) 4 = rw (← c.byte_at.ensures.0, ← c.min-count.ensures) c.loop-i-test.true in
    let found : true ≡ (ltb (a.at + 1 + i) (length a.file.now) && eqb (get_or a.file.now (a.at + 1 + i) 0) a.tag) =
    c.if-eq.ensures ∙ is_found c.get.result _ a.file.now (a.at + 1 + i) c.get.ensures.lookup.3
    in
    rw (← c.loop-i.invariant, weight_turn a.tag a.file.now a.at i last, ← found)
    (one_shl_byte i (omega arith))

pub loop-i-preserved : goal.loop-i-preserved
loop-i-preserved c =
    let a = c.args in
    let i = c.loop-i.i in
    let last : i < min (byte_at a.file.now a.at) 4 = rw (← c.byte_at.ensures.0, ← c.min-count.ensures) c.loop-i-test.true in
    let found : false ≡ (ltb (a.at + 1 + i) (length a.file.now) && eqb (get_or a.file.now (a.at + 1 + i) 0) a.tag) =
    c.if-eq.ensures ∙ is_found c.get.result _ a.file.now (a.at + 1 + i) c.get.ensures.lookup.3
    in
    rw (← c.loop-i.invariant, weight_turn a.tag a.file.now a.at i last, ← found)
    (twice i _)

pub returns : goal.returns
returns c =
    let a = c.args in
    let i = c.loop-i.i in
    let past : min (byte_at a.file.now a.at) 4 ≤ i = rw (← c.byte_at.ensures.0, ← c.min-count.ensures) c.loop-i-test.false in
    rw (← c.loop-i.invariant, no_more a.tag a.file.now a.at i past, mul-zero)
