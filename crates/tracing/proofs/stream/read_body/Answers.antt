-- The values at time 0, then the later lines.
use Rattle.std.proofs.Common.{◌≡◌, List, [], ℕ, sym, subst, drop, set, arith}
use Rattle.drawing.specs.Events.{EventFits, every_signal, read_event, event_bound}
use Rattle.tracing.specs.Found.{LaterFound, body_none, body_on}
use Rattle.tracing.proofs.stream.read_body.Goals as goal

pub returns-then-lines-every : goal.returns-then-lines-every
returns-then-lines-every c =
    let a = c.args in
    body_none a.inputs.now a.outputs.now c.requires.signals_good (drop a.at a.text.now) [] [] (λ q. c.if-lines-every.true (omega (arith, q)))

pub read_later-requires-clause-signals_good : goal.read_later-requires-clause-signals_good
read_later-requires-clause-signals_good c =
    let a = c.args in
    let x = a.inputs.now in
    let y = a.outputs.now in
    let g = c.requires.signals_good in
    (g, subst (EventFits x y) (sym c.read_event-lines.ensures.values) (event_bound x y g (drop a.at a.text.now)).1)

pub returns : goal.returns
returns c =
    let x = c.args.inputs.now in
    let y = c.args.outputs.now in
    let w = drop c.args.at c.args.text.now in
    let g = c.requires.signals_good in
    let v = c.read_event-lines.ensures in
    let l = c.read_later in
    let r = c.read_event-lines.result in
    let z = c.args.events.now in
    let after = l.new.events in
    let q : (read_event x y w).shown ≡ every_signal x y = omega (arith, c.ones-2.ensures.0) in
    let one = subst (λ (t : List ℕ). LaterFound x y (drop r.next c.args.text.now) r.values t l.result after) c.put.ensures l.ensures in
    let two = subst (λ (n : ℕ). LaterFound x y (drop r.next c.args.text.now) n (set z 0 n) l.result after) v.values one in
    body_on x y g w z after l.result q (subst (λ (t : List ℕ). LaterFound x y t (read_event x y w).values (set z 0 (read_event x y w).values) l.result after) v.rest two)
