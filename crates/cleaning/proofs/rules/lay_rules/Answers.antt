use Rattle.std.proofs.Common.{refl, length, arith}
use Rattle.stepping.specs.Laid.{laid_limits}
use Rattle.stepping.specs.RuleAhead.{laid_short}
use Rattle.laying.specs.Laying.{left_start, left_same, left_turn, left_end}
use Rattle.usage.specs.Code.{flags_of}
use Rattle.cleaning.proofs.LayLaws.{flags_few, rest_start, rest_first, rest_more, cleaned_start, cleaned_turn, cleaned_end}
use Rattle.cleaning.proofs.rules.lay_rules.Goals as goal

pub loop-flag-init : goal.loop-flag-init
loop-flag-init c =
    let k = c.requires.0 in
    record {
      rest = rest_start k;
      next = omega arith;
      left = left_same (left_start _ _ _) (cleaned_start (flags_of c.args.entered.now) c.args.used.now k.laid k.rules);
    }

pub lay_kept-next-requires-clause-clocks_in_bounds : goal.lay_kept-next-requires-clause-clocks_in_bounds
lay_kept-next-requires-clause-clocks_in_bounds c =
    let l = c.loop-flag in
    let k = c.requires.0 in
    let f = (rest_first _ _ _ _ l.flag-index l.p l.invariant.rest c.loop-flag-test.true).0 in
    let n = flags_few k in
    (f, omega (arith, laid_limits k.laid), omega (arith, laid_short k.laid), omega arith)

pub lay_kept-next-requires-clause-ends_at : goal.lay_kept-next-requires-clause-ends_at
lay_kept-next-requires-clause-ends_at c =
    let l = c.loop-flag in
    ((rest_first _ _ _ _ l.flag-index l.p l.invariant.rest c.loop-flag-test.true).1, (flags_few c.requires.0).0)

pub loop-flag-preserved : goal.loop-flag-preserved
loop-flag-preserved c =
    let a = c.args in
    let l = c.loop-flag in
    let w = c.lay_kept-next.ensures in
    record {
      rest = rest_more _ _ _ _ l.flag-index l.p l.invariant.rest c.loop-flag-test.true;
      next = omega (arith, w.1);
      left = left_turn l.invariant.left
          (cleaned_turn (flags_of a.entered.now) a.used.now a.layout.clocks a.file.now l.p (length a.used.now) l.flag-index refl c.loop-flag-test.true refl) w.0;
    }

pub returns : goal.returns
returns c =
    let a = c.args in
    let l = c.loop-flag in
    left_end l.invariant.left (cleaned_end (flags_of a.entered.now) a.used.now a.layout.clocks a.file.now l.p (length a.used.now) l.flag-index c.loop-flag-test.false)
