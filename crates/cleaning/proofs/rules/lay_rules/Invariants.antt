-- The rules from this one on whose flags are set, laid from here, give what all give.
use Rattle.std.proofs.Common.{◌+◌, ◌-◌, ◌*◌, ◌≤◌, length, drop}
use Rattle.policy.specs.File.{rules_from, rules_of}
use Rattle.laying.specs.Laying.{LeftToLay}
use Rattle.usage.specs.Code.{flags_of, cleaned_rules}
use Rattle.cleaning.proofs.LayLaws.{Rest}
use Rattle.cleaning.proofs.rules.lay_rules.Given as goal

abbrev pub invariant-loop-flag : goal.invariant-loop-flag
invariant-loop-flag l = record {
  rest : Rest l.file l.clocks (length l.used) (length l.entered) l.flag-index l.p;
  next : l.next ≤ l.at + 23 * l.flag-index;
  left : LeftToLay (cleaned_rules (flags_of l.entered) (flags_of l.used) (rules_of l.file))
      (cleaned_rules (flags_of l.entered) (drop l.flag-index (flags_of l.used)) (rules_from l.clocks l.file l.p (length l.used - l.flag-index)))
      l.fn.out l.at l.out l.next;
}
