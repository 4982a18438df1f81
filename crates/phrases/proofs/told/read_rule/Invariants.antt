-- The words that are left decide.
use Rattle.std.proofs.Common.{◌≡◌, ◌-◌, ◌≤◌, length}
use Rattle.wording.specs.Words.{words_of}
use Rattle.wording.specs.Names.{through}
use Rattle.wording.specs.Reader.{bare, rule_word}
use Rattle.conditions.specs.Steps.{Masked}
use Rattle.conditions.specs.Conditions.{scope_of}
use Rattle.phrases.specs.Told.{from_there}
use Rattle.phrases.proofs.told.read_rule.Given as goal

abbrev pub invariant-loop-at : goal.invariant-loop-at
invariant-loop-at l =
    let d = scope_of l.text l.tags l.starts l.lengths l.clocks l.places in
    record {
      within : l.at ≤ length l.line;
      masked : Masked l.parsed;
      rest : through (rule_word d) (bare l.clocks) (words_of l.line) ≡ from_there d l.clocks l.line l.at l.parsed;
    }

abbrev pub decreases-loop-at : goal.decreases-loop-at
decreases-loop-at l = length l.line - l.at
