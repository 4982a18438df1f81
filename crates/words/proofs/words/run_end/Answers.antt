use Rattle.std.proofs.Common.{◌∙◌, arith, eq-eqb, eqb-true, sym}
use Rattle.std.proofs.lemmas.Bool.{false≢true}
use Rattle.words.specs.Lex.{kind_number, run_more, run_done, run_end}
use Rattle.words.proofs.words.run_end.Goals as goal

pub returns-then-not-is_of_kind : goal.returns-then-not-is_of_kind
returns-then-not-is_of_kind c =
    let i = c.loop-i.i in
    omega (arith, c.loop-i.invariant, run_done c.args.line.now (kind_number c.args.k) i (omega arith) (λ e. false≢true (c.if-not-is_of_kind.ensures ∙ eq-eqb _ _ e)))

pub loop-i-preserved : goal.loop-i-preserved
loop-i-preserved c =
    let i = c.loop-i.i in
    omega (arith, c.loop-i.invariant, run_more c.args.line.now (kind_number c.args.k) i (omega arith) (eqb-true _ _ (sym c.if-not-is_of_kind.ensures)))

pub returns : goal.returns
returns c =
    omega (arith, c.loop-i.invariant, run_end c.args.line.now (kind_number c.args.k) c.loop-i.i (omega arith))
