-- The lines of the events that are left follow those that are written.
use Rattle.std.proofs.Common.{◌≡◌, ◌+◌, ◌∷◌, ◌++◌, [], List, ℕ, inl, inr, refl, ap, arith, length}
use Rattle.printing.specs.Text.{event_line, tick_lines}
use Rattle.printing.specs.Lines.{line_short}
use Rattle.texts.specs.Under.{under_start, under_on, under_all}
use Rattle.printing.proofs.put_ticks.Goals as goal

-- One line more.
lines_turn :
    {tick this later e r : ℕ} {events released all rest : List ℕ} → this ≡ tick → later ≡ tick + 1 →
    (all ≡ e ∷ events) × (rest ≡ r ∷ released) → tick_lines tick all rest ≡ event_line this e r ++ tick_lines later events released
unfolding tick_lines
lines_turn h l k = rw (h, l, k.0, k.1)

-- Of no events there are no lines.
lines_none : (tick : ℕ) (events released : List ℕ) → length events ≡ 0 → tick_lines tick events released ≡ []
unfolding tick_lines
lines_none tick [] released h = refl
lines_none tick (e ∷ events) released h = absurd (omega arith)

pub loop-i-init : goal.loop-i-init
loop-i-init c =
    let e = c.enumerate-i-items.ensures in
    let z = c.zip.ensures in
    rw (c.into_iter-i-iterator.ensures.into_iter_gives, e.count, e.source, z.first, z.second.0, c.iter.ensures.rest)
    (record { under = under_start _ _ _; passed = omega arith; enough = omega arith; short = omega arith })

pub loop-i-preserved : goal.loop-i-preserved
loop-i-preserved c =
    let turn = c.in-Some.ensures.steps in
    let i = c.loop-i.invariant in
    let line = line_short (c.in-Some.i + 1) c.in-Some.event.now c.in-Some.now.now (omega arith) (omega arith) (omega arith) in
    let this : c.in-Some.i + 1 ≡ c.loop-i.i-iterator.count + 1 = omega arith in
    let later : c.next.new.self.count + 1 ≡ c.loop-i.i-iterator.count + 1 + 1 = omega arith in
    record {
      under = under_on (omega arith) i.under (lines_turn this later turn.0) c.put_tick-next.ensures c.put_tick-next.auto.text;
      passed = omega (arith, ap length turn.0.0);
      enough = omega (arith, ap length turn.0.0, ap length turn.0.1);
      short = omega (arith, c.put_tick-next.ensures.next);
    }

pub returns : goal.returns
returns c =
    let left = c.in-None.ensures.steps in
    under_all c.loop-i.invariant.under (lines_none _ _ _ (elim left.0 [ inl x ↦ x.1.0 | inr x ↦ omega (arith, x.1.0) ]))
