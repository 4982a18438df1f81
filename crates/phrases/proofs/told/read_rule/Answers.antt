use Rattle.std.proofs.Common.{sym, ◌∙◌, arith, Err}
use Rattle.conditions.specs.Steps.{parse_handed}
use Rattle.conditions.specs.Conditions.{scope_of}
use Rattle.phrases.specs.Told.{from_first, from_end, from_none, from_word, from_on}
use Rattle.phrases.proofs.told.read_rule.Goals as goal

pub loop-at-init : goal.loop-at-init
loop-at-init c =
    let a = c.args in
    let d = scope_of a.text.now a.tags.now a.starts.now a.lengths.now a.clocks a.places in
    record {
      within = omega arith;
      masked = c.unsaid-parsed.ensures.1;
      rest = sym (from_first d a.clocks a.line.now c.unsaid-parsed.result (c.unsaid-parsed.ensures.0 a.clocks c.requires.1));
    }

pub returns-then-span-clause-said : goal.returns-then-span-clause-said
returns-then-span-clause-said c =
    let a = c.args in
    let l = c.loop-at in
    let s = c.next_word-span in
    let d = scope_of a.text.now a.tags.now a.starts.now a.lengths.now a.clocks a.places in
    from_none d a.clocks a.line.now l.at l.parsed s.result.start s.result.end s.ensures c.if-span.true ∙ sym l.invariant.rest

pub returns-in_err-parsed-clause-said : goal.returns-in_err-parsed-clause-said
returns-in_err-parsed-clause-said c =
    let a = c.args in
    let l = c.loop-at in
    let s = c.next_word-span in
    let d = scope_of a.text.now a.tags.now a.starts.now a.lengths.now a.clocks a.places in
    parse_handed a.clocks _ _ c.from_residual.ensures.1
    ∙ sym (l.invariant.rest ∙ from_word d a.clocks a.line.now l.at l.parsed s.result.start s.result.end s.ensures (Err c.in_err-parsed.field-0.0) c.if-span.false (c.in_err-parsed.ensures.said a.clocks))

pub loop-at-preserved : goal.loop-at-preserved
loop-at-preserved c =
    let a = c.args in
    let l = c.loop-at in
    let s = c.next_word-span in
    let d = scope_of a.text.now a.tags.now a.starts.now a.lengths.now a.clocks a.places in
    record {
      within = s.ensures.within;
      masked = c.in_ok-parsed.ensures.masked;
      rest = l.invariant.rest ∙ from_on d a.clocks a.line.now l.at l.parsed s.result.start s.result.end s.ensures c.in_ok-parsed.parsed c.if-span.false (c.in_ok-parsed.ensures.said a.clocks);
    }

pub returns-clause-said : goal.returns-clause-said
returns-clause-said c =
    let a = c.args in
    let l = c.loop-at in
    let d = scope_of a.text.now a.tags.now a.starts.now a.lengths.now a.clocks a.places in
    from_end d a.clocks a.line.now l.at l.parsed (omega arith) ∙ sym l.invariant.rest
