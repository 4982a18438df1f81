use Rattle.std.proofs.Common.{refl, length, arith}
use Rattle.stepping.specs.Laid.{laid_limits}
use Rattle.laying.specs.Laying.{left_start, left_same, left_turn}
use Rattle.cleaning.proofs.LayLaws.{rest_start, rest_first, rest_more, struck_start, struck_turn}
use Rattle.cleaning.proofs.list.lay_rules_struck.Goals as goal

pub loop-rule-init : goal.loop-rule-init
loop-rule-init c =
    let k = c.requires.0 in
    record {
      rest = rest_start k;
      next = omega arith;
      left = left_same (left_start _ _ _) (struck_start c.args.entered.now c.args.used.now k.laid k.rules);
    }

pub kind_of-kind-requires : goal.kind_of-kind-requires
kind_of-kind-requires c =
    let l = c.loop-rule in
    omega (arith, c.byte_within.ensures.0, (rest_first _ _ _ _ l.rule l.p l.invariant.rest c.loop-rule-test.true).1.source)

pub lay_unless-next-requires : goal.lay_unless-next-requires
lay_unless-next-requires c =
    let n = c.requires.0.rules in
    let few = laid_limits c.requires.0.laid in
    (omega (arith, few), omega (arith, few))

pub loop-rule-preserved : goal.loop-rule-preserved
loop-rule-preserved c =
    let a = c.args in
    let l = c.loop-rule in
    let w = c.lay_unless-next.ensures in
    record {
      rest = rest_more _ _ _ _ l.rule l.p l.invariant.rest c.loop-rule-test.true;
      next = omega (arith, w.1);
      left = left_turn l.invariant.left
          (struck_turn a.entered.now a.used.now a.layout.clocks a.file.now l.p (length a.used.now) l.rule refl c.loop-rule-test.true refl
          (rw c.byte_within.ensures.0 at c.kind_of-kind.ensures)) w.0;
    }
