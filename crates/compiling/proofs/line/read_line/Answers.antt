use Rattle.std.proofs.Common.{◌∙◌, List}
use Rattle.refusals.specs.Laws.{handed_on}
use Rattle.policy.specs.Rules.{Rule}
use Rattle.wording.specs.Reader.{Draft}
use Rattle.compiling.specs.Line.{line_blank, line_behind, line_ruled}
use Rattle.declarations.specs.Table.{draft_of, fit_at}
use Rattle.compiling.proofs.line.read_line.Goals as goal
use Rattle.compiling.proofs.line.read_line.Goals.{Start}

-- What the lines before have said.
abbrev draft : Start → List Rule → Draft
draft s rules = draft_of s.args.text.now s.args.starts.now s.args.lengths.now s.args.left.now s.args.table rules

pub returns-then-first-clause-took : goal.returns-then-first-clause-took
returns-then-first-clause-took c =
    let d = draft (goal.at.returns-then-first-clause-took c).Start in
    record { line = λ rules long. line_blank c.word_in-first.ensures (d rules) c.if-first.true; fit = c.requires.2; rule = tt }

pub returns-in_err-declared-clause-took : goal.returns-in_err-declared-clause-took
returns-in_err-declared-clause-took c =
    let d = draft (goal.at.returns-in_err-declared-clause-took c).Start in
    let k = c.keyword-k in
    rw (handed_on _ _ c.from_residual.ensures.1)
    (λ rules long. c.in_err-declared.ensures.said rules ∙ line_behind c.word_in-first.ensures (d rules) c.if-first.false k.result k.ensures c.if-k-lt5.true)

pub returns-then-k-lt5-clause-took : goal.returns-then-k-lt5-clause-took
returns-then-k-lt5-clause-took c =
    let d = draft (goal.at.returns-then-k-lt5-clause-took c).Start in
    let k = c.keyword-k in
    record {
      line = λ rules long. c.in_ok-declared.ensures.said rules ∙ line_behind c.word_in-first.ensures (d rules) c.if-first.false k.result k.ensures c.if-k-lt5.true;
      fit = c.in_ok-declared.ensures.fit;
      rule = tt;
    }

pub returns-in_err-parsed-clause-took : goal.returns-in_err-parsed-clause-took
returns-in_err-parsed-clause-took c =
    let d = draft (goal.at.returns-in_err-parsed-clause-took c).Start in
    let k = c.keyword-k in
    rw (handed_on _ _ c.from_residual-in_err-parsed.ensures.1)
    (λ rules long. c.in_err-parsed.ensures.said c.args.left.now rules long ∙ line_ruled c.word_in-first.ensures (d rules) c.if-first.false k.result k.ensures c.if-k-lt5.false)

pub returns-clause-took : goal.returns-clause-took
returns-clause-took c =
    let d = draft (goal.at.returns-clause-took c).Start in
    let k = c.keyword-k in
    record {
      line = λ rules long. c.in_ok-parsed.ensures.said c.args.left.now rules long ∙ line_ruled c.word_in-first.ensures (d rules) c.if-first.false k.result k.ensures c.if-k-lt5.false;
      fit = fit_at c.requires.2 c.args.table.source;
      rule = c.in_ok-parsed.ensures.kept;
    }
