-- `listing::lines::put_list` meets its contract. The invariant: what is still to come completes the lines, and a byte of the list took at most 22.
use mathlib.Core.Path.{◌≡◌, refl}
use mathlib.Core.List.{List}
use Prim.Native.Nat.{ℕ, ◌+◌, ◌*◌, ◌-◌, ◌≤◌}
use native.Mathlib.Omega.{arith}
use lib.ListN.{length, drop, get_or}
use borrow.Author.Rules.{rules}
use Rattle.texts.specs.Wrote.{Wrote}
use Rattle.texts.specs.WroteLaws.{wrote_none, wrote_then}
use Rattle.listing.specs.Listed.{entry_line, bytes_lines}
use Rattle.listing.specs.Ways.{line_short, lines_step, lines_end}
use Rattle.listing.proofs.lines.put_list.Statement.{statement}
use Rattle.listing.proofs.lines.put_list.Tie as tie

abbrev invariant-loop : tie.invariant-loop-i
invariant-loop text₀ at list next₀ i₀ text next i =
    (i ≤ length list) × (length text ≡ length text₀) × (next ≤ at + 22 * i)
    × ((r : ℕ) (after : List ℕ) → Wrote text next (bytes_lines (drop i list)) r after → Wrote text₀ at (bytes_lines list) r after)

abbrev decreases-loop : tie.decreases-loop-i
decreases-loop text₀ at list next₀ i₀ text next i = length list - i

loop-holds : tie.Need-loop-i-init invariant-loop decreases-loop
loop-holds c = (search rules, refl, search rules, λ r after w. w)

loop-again : tie.Need-loop-i-preserved invariant-loop decreases-loop
loop-again c =
    let p = c.put_entry-next in
    let n = c.pair_at in
    let i = c.loop-i.i in
    let list = c.args.list.now in
    let line : Wrote c.loop-i.text c.loop-i.next (entry_line (get_or list i 0) n.result) p.result p.new.text = p.ensures in
    let short = line_short (get_or list i 0) n.result (omega (arith, n.ensures.1)) in (
      omega (arith, c.loop-i-test.true),
      omega (arith, p.auto.text, c.loop-i.invariant.1),
      omega (arith, short, line.next, c.loop-i.invariant.2),
      λ r after w. c.loop-i.invariant.3 r after (rw (lines_step list i c.loop-i-test.true, ← n.ensures.0) (wrote_then (omega (arith, c.requires, c.loop-i.invariant)) line w)),
    )

returns : tie.Need-returns invariant-loop decreases-loop
returns c =
    let list = c.args.list.now in
    (c.loop-i.invariant.3 _ _ (rw (lines_end list c.loop-i.i c.loop-i-test.false) (wrote_none _ _)), omega (arith, c.loop-i.invariant))

pub put_list_spec : {M : Type 1} → statement M
put_list_spec = tie.close (tie.spec invariant-loop decreases-loop loop-holds (λ c. search rules) (λ c. search rules) (λ c. search rules) (λ c κs. search rules) (λ c κs. search rules) (λ c. search rules) (λ c. search rules) loop-again (λ c. search rules) returns)
