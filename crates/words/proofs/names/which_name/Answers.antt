use Rattle.std.proofs.Common.{◌≡◌, ◌+◌, ◌-◌, ◌∙◌, ap, sym, arith, ℕ, true, false, get_or}
use Rattle.policy.specs.File.{part}
use Rattle.wording.specs.Names.{same, find}
use Rattle.words.specs.Spans.{spans, found_here, find_on, found_nowhere}
use Rattle.words.proofs.names.which_name.Goals as goal

pub loop-i-init : goal.loop-i-init
loop-i-init c =
    let a = c.args in
    let e : a.count ≡ a.count - 0 = omega arith in
    let z : a.first ≡ a.first + 0 = omega arith in
    λ i. find 0 a.word.now (spans a.text.now a.starts.now a.lengths.now (z i) (e i))

pub returns-then-same_word-clause-found : goal.returns-then-same_word-clause-found
returns-then-same_word-clause-found c =
    let a = c.args in
    let i = c.loop-i.i in
    let s = get_or a.starts.now (a.first + i) 0 in
    let e : get_or a.lengths.now (a.first + i) 0 ≡ s + c.from.result - s = omega arith in
    let test : same (part a.text.now s (get_or a.lengths.now (a.first + i) 0)) a.word.now ≡ true =
    ap (λ (n : ℕ). same (part a.text.now s n) a.word.now) e ∙ sym c.same_word.ensures ∙ c.if-same_word.true in
    sym (c.loop-i.invariant ∙ found_here a.text.now a.starts.now a.lengths.now a.word.now a.first i a.count (omega arith) test)

pub loop-i-preserved : goal.loop-i-preserved
loop-i-preserved c =
    let a = c.args in
    let i = c.loop-i.i in
    let s = get_or a.starts.now (a.first + i) 0 in
    let e : get_or a.lengths.now (a.first + i) 0 ≡ s + c.from.result - s = omega arith in
    let test : same (part a.text.now s (get_or a.lengths.now (a.first + i) 0)) a.word.now ≡ false =
    ap (λ (n : ℕ). same (part a.text.now s n) a.word.now) e ∙ sym c.same_word.ensures ∙ c.if-same_word.false in
    c.loop-i.invariant ∙ find_on a.text.now a.starts.now a.lengths.now a.word.now a.first i a.count (omega arith) test

pub returns-clause-found : goal.returns-clause-found
returns-clause-found c =
    let a = c.args in
    sym (c.loop-i.invariant ∙ found_nowhere a.text.now a.starts.now a.lengths.now a.word.now a.first c.loop-i.i a.count (omega arith))
