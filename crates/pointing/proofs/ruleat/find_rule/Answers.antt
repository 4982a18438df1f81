use Rattle.std.proofs.Common.{◌≡◌, ◌+◌, ◌-◌, ◌<◌, ◌∙◌, ℕ, List, refl, sym, ap, arith, length, get_or}
use Rattle.compiling.specs.Lines.{next_drop, next_more}
use Rattle.pointing.specs.RuleAt.{rules_left, left_none, left_here, left_on}
use Rattle.pointing.specs.Said.{bit_is}
use Rattle.pointing.proofs.ruleat.find_rule.Goals as goal
use Rattle.pointing.proofs.ruleat.find_rule.Goals.{then-is_rule+else-left-eq0, else-is_rule}

pub loop-at-init : goal.loop-at-init
unfolding rules_left
loop-at-init c = record { within = omega arith; few = omega arith; same = refl }

pub returns-then-left-eq0 : goal.returns-then-left-eq0
returns-then-left-eq0 c =
    let l = c.loop-at in
    let end = c.line_end-end in
    let bit = bit_is (sym c.if-is_rule.true ∙ c.is_rule.ensures) in
    (sym (l.invariant.same ∙ left_here c.args.text.now l.passed (end.result + 1) end.ensures c.loop-at-test.true refl bit (omega arith)), omega arith)

pub loop-at-preserved : goal.loop-at-preserved
loop-at-preserved c =
    let text = c.args.text.now in
    let l = c.loop-at in
    let end = c.line_end-end in
    let next = c.next_line-at in
    let on : l.at < next.result = next_more l.at end.result (length text) next.result end.ensures.after c.loop-at-test.true end.ensures.within next.ensures.1 next.ensures.2 in
    let rest = next_drop text end.result next.result end.ensures.within next.ensures.1 next.ensures.2 in
    record {
      within = next.ensures.0;
      few = omega (arith, on, l.invariant.few);
      same = l.invariant.same ∙ elim c.if-is_rule.branch [
        | then-is_rule+else-left-eq0 w ↦
            let bit = bit_is (sym w.if-is_rule.true ∙ c.is_rule.ensures) in
            rw w.left-is (left_on text l.passed next.result end.ensures c.loop-at-test.true rest bit (omega arith))
        | else-is_rule w ↦
            let bit = bit_is (sym w.if-is_rule.false ∙ c.is_rule.ensures) in
            let none : l.left - 0 ≡ l.left = omega arith in
            rw w.left-is (left_on text l.passed next.result end.ensures c.loop-at-test.true rest bit (omega arith) ∙ ap (λ (k : ℕ). get_or (rules_left text (l.passed + 1) next.result) k 0) none)
      ];
    }

pub returns : goal.returns
returns c =
    let l = c.loop-at in
    l.invariant.same ∙ ap (λ (z : List ℕ). get_or z l.left 0) (left_none c.args.text.now l.passed l.at c.loop-at-test.false)
