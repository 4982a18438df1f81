use Rattle.std.proofs.Common.{◌≡◌, ◌-◌, ◌∙◌, ℕ, sym, ap, arith}
use Rattle.pointing.specs.NameAt.{names_end, name_here, names_left, names_on}
use Rattle.pointing.specs.Said.{bit_is, kind_number}
use Rattle.pointing.proofs.nameat.find_named.Goals as goal
use Rattle.pointing.proofs.nameat.find_named.Goals.{then-declares+else-left-eq0, else-declares}

pub returns-then-left-eq0 : goal.returns-then-left-eq0
returns-then-left-eq0 c =
    let kind = kind_number c.args.kind in
    let bit = bit_is (sym c.if-declares.true ∙ c.declares.ensures) in
    record {
      said = c.name_in.ensures.said
          ∙ name_here kind c.args.text.now c.line_end-end.ensures c.loop-at-test.true bit (omega arith)
          ∙ sym c.loop-at.invariant.same;
      there = c.name_in.ensures.there;
    }

pub loop-at-preserved : goal.loop-at-preserved
loop-at-preserved c =
    let kind = kind_number c.args.kind in
    let text = c.args.text.now in
    let l = c.loop-at in
    let next = c.next_line-at in
    record {
      within = next.ensures.0;
      same = l.invariant.same ∙ elim c.if-declares.branch [
        | then-declares+else-left-eq0 w ↦
            let bit = bit_is (sym w.if-declares.true ∙ c.declares.ensures) in
            rw w.left-is (names_on kind text c.line_end-end.ensures c.loop-at-test.true next.result next.ensures.1 next.ensures.2 bit (omega arith))
        | else-declares w ↦
            let bit = bit_is (sym w.if-declares.false ∙ c.declares.ensures) in
            let none : l.left - 0 ≡ l.left = omega arith in
            rw w.left-is (names_on kind text c.line_end-end.ensures c.loop-at-test.true next.result next.ensures.1 next.ensures.2 bit (omega arith) ∙ ap (λ (k : ℕ). names_left kind text next.result k) none)
      ];
    }

pub returns : goal.returns
returns c =
    record {
      said = rw c.from.ensures (names_end (kind_number c.args.kind) c.args.text.now c.loop-at.at c.loop-at.left c.loop-at-test.false ∙ sym c.loop-at.invariant.same);
      there = tt;
    }
