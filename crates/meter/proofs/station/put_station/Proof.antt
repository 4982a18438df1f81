-- `meter::station::put_station` meets its contract: the state's five numbers, and then the register.
use Rattle.std.proofs.Common.{◌≡◌, ℕ, List, ◌++◌, length, drop, set, sym, ap, ◌∙◌, ap₂, arith, length-append, length-drop, length-set, length-take-le, rules}
use Rattle.meter.specs.Meter.{with_station}
use Rattle.meter.proofs.Laws.{sixth}
use Rattle.meter.proofs.station.put_station.Statement.{statement}
use Rattle.meter.proofs.station.put_station.Tie as tie

slice-relend-prefix-put-state : tie.Need-slice_bounds-put_state-end
slice-relend-prefix-put-state c = let h = c.requires in simp length-set (omega arith)

slice-aggregate-put-state : tie.Need-slice_bounds-put_state-end-2
slice-aggregate-put-state c =
    let a = c.args in
    sym (length-take-le 5 (set a.station.now 5 a.register) (slice-relend-prefix-put-state c.before))

put-state-requires : tie.Need-put_state-requires
put-state-requires c κs =
    let a = c.args in
    length-take-le 5 (set a.station.now 5 a.register) (slice-relend-prefix-put-state c.before)

stored : (c : tie.After-put_state) →
    let a = c.args in
    c.put_state.new.state ++ drop 5 (set a.station.now 5 a.register) ≡ with_station a.station.now a.next a.register
stored c =
    ap₂ {C = List ℕ} ◌++◌ c.put_state.ensures (sixth c.args.station.now c.args.register c.requires)

same_length : tie.Need-shape_of-station
same_length c =
    let l : length c.args.next.clocks ≡ 4 = search rules in
    ap (length {A = ℕ}) (stored c.before.before) ∙ simp (length-append, length-drop) (omega (arith, c.requires))

returns : tie.Need-returns
returns c = stored c.before.before

pub put_station_spec : {M : Type 1} → statement M
put_station_spec = tie.close (tie.spec (λ c. search rules) slice-relend-prefix-put-state slice-aggregate-put-state put-state-requires same_length returns)
