-- Test by test.
use Rattle.std.proofs.Common.{sym, ◌∙◌, arith}
use Rattle.tracing.specs.Read.{time_hash, time_low, time_high, time_short, time_number, untimed_read, number_high, number_open, number_timed}
use Rattle.tracing.proofs.read.read_time.Goals as goal
use Rattle.tracing.proofs.read.read_time.Goals.{then-first-lt48-via-then-first-lt48, then-first-lt48-via-else-first-lt48+then-first-gt57}

pub returns-then-text-at-lt2 : goal.returns-then-text-at-lt2
returns-then-text-at-lt2 c = let t = c.args.text.now in untimed_read t c.args.at (time_short t c.args.at (omega arith))

pub returns-then-text-at-ne35 : goal.returns-then-text-at-ne35
returns-then-text-at-ne35 c = let t = c.args.text.now in untimed_read t c.args.at (time_hash t c.args.at c.if-text-at-ne35.true)

pub returns-then-first-lt48 : goal.returns-then-first-lt48
returns-then-first-lt48 c =
    let t = c.args.text.now in
    let at = c.args.at in
    elim c.then-first-lt48.branch [
      | then-first-lt48-via-then-first-lt48 w ↦ untimed_read t at (time_low t at (omega arith))
      | then-first-lt48-via-else-first-lt48+then-first-gt57 w ↦ untimed_read t at (time_high t at (omega arith))
    ]

pub returns-then-number-gt16384 : goal.returns-then-number-gt16384
returns-then-number-gt16384 c =
    let t = c.args.text.now in
    let at = c.args.at in
    let w = time_number t at c.if-text-at-ne35.false (omega arith) (omega arith) in
    untimed_read t at (number_high t at w c.read_digits-number.ensures (omega arith))

pub returns-then-byte_at-ne10 : goal.returns-then-byte_at-ne10
returns-then-byte_at-ne10 c =
    let t = c.args.text.now in
    let at = c.args.at in
    let w = time_number t at c.if-text-at-ne35.false (omega arith) (omega arith) in
    untimed_read t at (number_open t at w c.read_digits-number.ensures (λ e. c.if-byte_at-ne10.true (c.byte_at.ensures ∙ e)))

pub returns : goal.returns
returns c =
    let t = c.args.text.now in
    let at = c.args.at in
    let w = time_number t at c.if-text-at-ne35.false (omega arith) (omega arith) in
    number_timed t at w c.read_digits-number.ensures (omega arith) (sym c.byte_at.ensures ∙ c.if-byte_at-ne10.false)
