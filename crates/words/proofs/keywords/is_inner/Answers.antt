use Rattle.std.proofs.Common.{◌∙◌, sym}
use Rattle.words.specs.Keywords.{inner_lower, inner_line, inner_other}
use Rattle.words.proofs.keywords.is_inner.Goals as goal
use Rattle.words.proofs.keywords.is_inner.Goals.{then-is_ascii_lowercase-via-then-is_ascii_lowercase, then-is_ascii_lowercase-via-else-is_ascii_lowercase+then-c-eq95}

pub returns-then-is_ascii_lowercase : goal.returns-then-is_ascii_lowercase
returns-then-is_ascii_lowercase c =
    elim c.then-is_ascii_lowercase.branch [
      | then-is_ascii_lowercase-via-then-is_ascii_lowercase w ↦ inner_lower c.args.c (sym c.is_ascii_lowercase.ensures.value ∙ w.if-is_ascii_lowercase.true)
      | then-is_ascii_lowercase-via-else-is_ascii_lowercase+then-c-eq95 w ↦ inner_line c.args.c w.if-c-eq95.true
    ]

pub returns : goal.returns
returns c = c.is_ascii_digit.ensures.value ∙ inner_other c.args.c (sym c.is_ascii_lowercase.ensures.value ∙ c.if-is_ascii_lowercase.false) c.if-c-eq95.false
