use Rattle.std.proofs.Common.{ℕ, ◌+◌, ◌*◌, min, ◌∙◌, ap, sym, subst, arith}
use Rattle.wording.specs.Names.{is_digit}
use Rattle.words.specs.Counted.{Counted, counted_none, counted_more, digit_range, not_digit, number_none, number_not, number_large, number_given}
use Rattle.words.proofs.numbers.read_number.Goals as goal

pub returns-then-word-eq0 : goal.returns-then-word-eq0
returns-then-word-eq0 c = number_none c.args.word.now (omega arith)

pub loop-c-init : goal.loop-c-init
loop-c-init c = record { small = omega arith; counted = counted_none _ }

pub returns-then-not-is_ascii_digit : goal.returns-then-not-is_ascii_digit
returns-then-not-is_ascii_digit c = number_not c.args.word.now c.loop-c.c-index (omega arith) (not_digit _ c.if-not-is_ascii_digit.ensures.value)

pub loop-c-preserved : goal.loop-c-preserved
unfolding is_digit
loop-c-preserved c =
    let w = c.args.word.now in
    let l = c.loop-c in
    let digit = digit_range _ (sym c.if-not-is_ascii_digit.ensures.value) in
    let more = counted_more w l.c-index l.value (omega arith) l.invariant.counted digit.0 digit.1 in
    let value = c.min-value.ensures ∙ ap (λ (n : ℕ). min (l.value * 10 + n) 65536) c.from.ensures in
    record { small = omega (arith, c.min-value.ensures); counted = subst (Counted w (l.c-index + 1)) (sym value) more }

pub returns-then-value-gt65535 : goal.returns-then-value-gt65535
returns-then-value-gt65535 c =
    number_large c.args.word.now c.loop-c.c-index c.loop-c.value (omega arith) (omega arith) c.loop-c.invariant.counted (omega arith)

pub returns : goal.returns
returns c =
    number_given c.args.word.now c.loop-c.c-index c.loop-c.value (omega arith) (omega arith) c.loop-c.invariant.counted (omega arith)
