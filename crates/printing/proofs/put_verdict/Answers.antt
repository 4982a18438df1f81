-- The three labels, each with its number, then the line feed.
use Rattle.std.proofs.Common.{arith, length, ℕ, ◌<◌, ◌^◌, ◌≤◌}
use Rattle.texts.specs.WroteLaws.{wrote_then}
use Rattle.texts.specs.Text.{decimal}
use Rattle.printing.specs.Text.{verdict_line}
use Rattle.texts.specs.Decimal.{decimal_short}
use Rattle.printing.proofs.put_verdict.Goals as goal

-- How many digits the numbers have at most.
short : (verdict states live : ℕ) → verdict < 256 → states < 2 ^ 64 → live < 2 ^ 64 →
    (length (decimal verdict) ≤ 3) × (length (decimal states) ≤ 20) × (length (decimal live) ≤ 20)
short verdict states live v s l = (decimal_short verdict 2 (omega arith), decimal_short states 19 (omega arith), decimal_short live 19 (omega arith))

pub put_labelled-verdict_end-requires : goal.put_labelled-verdict_end-requires
put_labelled-verdict_end-requires c = omega (arith, short c.args.verdict c.args.states c.args.live (omega arith) (omega arith) (omega arith))

pub put_labelled-states_end-requires : goal.put_labelled-states_end-requires
put_labelled-states_end-requires c =
    omega (arith, short c.args.verdict c.args.states c.args.live (omega arith) (omega arith) (omega arith))

pub put_labelled-live_end-requires : goal.put_labelled-live_end-requires
put_labelled-live_end-requires c =
    omega (arith, short c.args.verdict c.args.states c.args.live (omega arith) (omega arith) (omega arith))

pub put_bytes-requires : goal.put_bytes-requires
put_bytes-requires c =
    omega (arith, short c.args.verdict c.args.states c.args.live (omega arith) (omega arith) (omega arith))

pub returns : goal.returns
unfolding verdict_line
returns c =
    let room = c.requires in
    let two = wrote_then (omega arith) c.put_labelled-verdict_end.ensures c.put_labelled-states_end.ensures in
    let three = wrote_then (omega arith) two c.put_labelled-live_end.ensures in
    let all = wrote_then (omega arith) three c.put_bytes.ensures in
    (all, omega (arith, short c.args.verdict c.args.states c.args.live (omega arith) (omega arith) (omega arith), all.next))
