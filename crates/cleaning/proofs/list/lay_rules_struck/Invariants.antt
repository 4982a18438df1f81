-- The entries from this rule on, laid from here, give what all give.
use Rattle.std.proofs.Common.{◌+◌, ◌-◌, ◌*◌, ◌≤◌, length, drop}
use Rattle.policy.specs.File.{rules_from, rules_of}
use Rattle.laying.specs.Laying.{LeftToLay}
use Rattle.usage.specs.Clean.{struck_bytes, rules_struck}
use Rattle.usage.specs.Code.{flags_of}
use Rattle.cleaning.proofs.LayLaws.{Rest}
use Rattle.cleaning.proofs.list.lay_rules_struck.Given as goal

abbrev pub invariant-loop-rule : goal.invariant-loop-rule
invariant-loop-rule l = record {
  rest : Rest l.file l.clocks (length l.used) (length l.entered) l.rule l.p;
  next : l.next ≤ l.at + 3 * l.rule;
  left : LeftToLay (struck_bytes (rules_struck (flags_of l.entered) 0 (flags_of l.used) (rules_of l.file)))
      (struck_bytes (rules_struck (flags_of l.entered) l.rule (drop l.rule (flags_of l.used)) (rules_from l.clocks l.file l.p (length l.used - l.rule))))
      l.fn.out l.at l.out l.next;
}
