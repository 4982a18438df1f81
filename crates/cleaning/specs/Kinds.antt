-- The bytes of the list's kinds.
use Rattle.std.specs.Prelude.{ℕ}
use Rattle.cleaning.specs.declared.list.Kind.{Kind}
use Rattle.cleaning.specs.declared.list.Kind.TheVariants.{Location, RuleWithLocation, Rule}

-- 1: a location. 2: a rule whose location goes too. 3: another rule.
abbrev pub kind_byte : Kind → ℕ
kind_byte Location = 1
kind_byte RuleWithLocation = 2
kind_byte Rule = 3
