use Rattle.std.proofs.Common.{sym, ◌∙◌}
use Rattle.words.specs.Keywords.{name_size}
use Rattle.declarations.proofs.fresh.check_name.Goals as goal

pub returns-clause-short : goal.returns-clause-short
returns-clause-short c = let a = c.args in name_size a.text.now a.a a.b c.requires.0 c.requires.1 (sym c.is_name.ensures ∙ c.if-not-is_name.false)
