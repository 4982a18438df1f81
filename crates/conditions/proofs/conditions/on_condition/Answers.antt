-- By the word's first byte.
use Rattle.std.proofs.Common.{◌∙◌, arith}
use Rattle.conditions.specs.Steps.{begun_of}
use Rattle.conditions.specs.Conditions.{scope_of, condition_none, condition_off, condition_on}
use Rattle.conditions.proofs.conditions.on_condition.Goals as goal

pub returns-in-empty-clause-said : goal.returns-in-empty-clause-said
returns-in-empty-clause-said c =
    let a = c.args in
    λ n places. condition_none (scope_of a.text.now a.tags.now a.starts.now a.lengths.now a.clocks places) (begun_of n a.parsed) a.word.now (omega arith)

pub returns-in-33-clause-said : goal.returns-in-33-clause-said
returns-in-33-clause-said c =
    let a = c.args in
    λ n places. c.on_off.ensures.said n ∙ condition_off (scope_of a.text.now a.tags.now a.starts.now a.lengths.now a.clocks places) (begun_of n a.parsed) a.word.now (omega arith) (omega arith)

pub returns-in_default-clause-said : goal.returns-in_default-clause-said
returns-in_default-clause-said c =
    let a = c.args in
    λ n places. c.on_plain.ensures.said n places ∙ condition_on (scope_of a.text.now a.tags.now a.starts.now a.lengths.now a.clocks places) (begun_of n a.parsed) a.word.now (omega arith) (λ e. omega arith)
