-- A state that may be asked about, and so the state after its tick.
use Rattle.std.specs.Prelude.{◌≡◌, true, List, ℕ, ◌<◌}
use Rattle.std.proofs.Common.{sym, ap, subst, ◌∙◌, arith}
use Rattle.policy.specs.Rules.{Place}
use Rattle.policy.specs.File.{policy_of}
use Rattle.policy.specs.Number.{number_of}
use Rattle.policy.specs.Sound.{Inside}
use Rattle.policy.specs.Checked.{well_sound}
use Rattle.policy.specs.declared.Layout.{Layout}
use Rattle.stepping.specs.State.{is_marked, place}
use Rattle.stepping.specs.Ticks.{TickedBy, ticked, ticked_fits}
use Rattle.stepping.specs.Code.{event_xy}
use Rattle.stepping.specs.Ready.{Standing}
use Rattle.stepping.specs.Laid.{laid_well, laid_inputs, laid_outputs, place_back}
use Rattle.stepping.specs.declared.state.State.{State}
use Rattle.prepare.specs.Enforces.{ticked_ready}
use Rattle.prepare.specs.Enforcing.{AsPrepared, MarkedPlace}
use Rattle.explaining.specs.Halves.{Moves}

-- In range and live, by the marks of prepare.
pub record Asked (f : List ℕ) (l : Layout) (marks : List ℕ) (s : State) : Type 0 where
  pub standing : Standing f l marks s
  pub prepared : AsPrepared (policy_of l.reading f) marks
  pub live : is_marked marks (number_of (policy_of l.reading f) (place l.clocks s)) ≡ true

module _ {f : List ℕ} {l : Layout} {marks : List ℕ} {s : State} (k : Asked f l marks s) {x y x' y' : ℕ} {next : State}
    (m : Moves (policy_of l.reading f) marks (place l.clocks s) x y x' y' next) where
  parts : TickedBy (policy_of l.reading f) marks (place l.clocks s) (event_xy x y) m.done
  parts = ticked (policy_of l.reading f) marks (place l.clocks s) (event_xy x y) m.done m.is

  after : MarkedPlace (policy_of l.reading f) marks m.done.place
  after =
      ticked_ready (policy_of l.reading f) marks (place l.clocks s) (event_xy x y) m.done
      (well_sound (policy_of l.reading f) (laid_well k.standing.laid)) k.standing.inside parts

  -- The next state is the place after the tick.
  pub moved_place : place l.clocks next ≡ m.done.place
  moved_place = ap (place l.clocks) m.state ∙ place_back k.standing.laid after.inside

  -- The state after it may be asked about.
  pub moved_asked : Asked f l marks next
  moved_asked =
      record {
        standing = record { laid = k.standing.laid; enough = k.standing.enough; inside = subst (Inside (policy_of l.reading f)) (sym moved_place) after.inside };
        prepared = k.prepared;
        live = ap (λ (t : Place). is_marked marks (number_of (policy_of l.reading f) t)) moved_place ∙ after.marked;
      }

  -- The halves that are released are below 16.
  pub released_small : (x' < 16) × (y' < 16)
  released_small =
      let z = ticked_fits (policy_of l.reading f) marks (place l.clocks s) parts in
      (omega (arith, z, laid_inputs k.standing.laid, m.is_x), omega (arith, z, laid_outputs k.standing.laid, m.is_y))
