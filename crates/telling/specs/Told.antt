-- What is told of a stream of ticks, and that one text alone tells it.
use Rattle.std.specs.Prelude.{◌≡◌, refl, List, [], ◌∷◌, ◌++◌, ℕ, ◌+◌, ◌*◌, ◌/◌, ◌%◌, ◌≤◌, ◌<◌, length, get_or, drop}
use Rattle.std.proofs.Common.{sym, subst, ◌∙◌, append-nil, append_assoc, add-one, arith, drop_of_length-le, drop-cons}
use Rattle.std.proofs.Math.Option.{some, some-injective}
use Rattle.policy.specs.Rules.{Policy, Place}
use Rattle.policy.specs.File.{policy_of}
use Rattle.policy.specs.declared.Layout.{Layout}
use Rattle.stepping.specs.Tick.{ReleasedTick}
use Rattle.stepping.specs.Tick as Spec
use Rattle.enforcer.specs.Entries.{event_of}
use Rattle.stepping.specs.State.{place}
use Rattle.stepping.specs.declared.state.State.{State}
use Rattle.printing.specs.Text.{event_line}
use Rattle.texts.specs.Wrote.{Wrote}
use Rattle.texts.specs.WroteLaws.{wrote_none, wrote_then}
use Rattle.explaining.specs.Reasons.{Explained, explained_one}
use Rattle.explaining.specs.EachHalf.{Reasons}
use Rattle.sentences.specs.Text.{reason_lines, tick_text, tick_room}
use Rattle.explaining.specs.Halves.{Moves}
use Rattle.telling.specs.Asked.{Asked, moved_place, moved_asked}
use Rattle.telling.specs.declared.tell.NextTick.{NextTick}

-- The lines of a stream from the place s, its first tick with the number `from`: of each tick what is released and why, then those of the rest from the place
-- after it.
pub data Told (p : Policy) (marks : List ℕ) : (from : ℕ) (s : Place) (events : List ℕ) → List ℕ → Type 0 where
  nothing : {from : ℕ} {s : Place} → Told p marks from s [] []
  one : {from e : ℕ} {s : Place} {events rest : List ℕ} {t : ReleasedTick} {q : Reasons} →
      Spec.tick p marks s (event_of e) ≡ some t → Explained p marks s (e % 16) (e / 16) q.input q.output →
      Told p marks (from + 1) t.place events rest → Told p marks from s (e ∷ events) (tick_text p from e t q ++ rest)

-- One text alone tells the events from a place.
pub told_one : {p : Policy} {marks : List ℕ} {from : ℕ} {s : Place} {events a b : List ℕ} → Told p marks from s events a → Told p marks from s events b → a ≡ b
told_one nothing nothing = refl
told_one {p} {marks} {from} {s} (one {e = e} {events = events} {rest = rest} {t = t} {q = q} h g m) (one {t = u} {q = v} k l n) =
    let a = some-injective t u (sym h ∙ k) in
    let b = explained_one g l in
    let c : q ≡ v = λ d. record { input = b.0 d; output = b.1 d } in
    let r = told_one (subst (λ (z : ReleasedTick). Told p marks (from + 1) z.place events rest) a m) n in
    λ d. tick_text p from e (a d) (c d) ++ r d

-- What a tick's function leaves: the text of the tick, and the tick that is told next.
pub record ToldTick (f : List ℕ) (l : Layout) (marks : List ℕ) (this : NextTick) (event : ℕ) (before : List ℕ) (next : NextTick) (after : List ℕ) : Type 0 where
  pub tick : ReleasedTick
  pub reasons : Reasons
  pub ticks : Spec.tick (policy_of l.reading f) marks (place l.clocks this.state) (event_of event) ≡ some tick
  pub explained : Explained (policy_of l.reading f) marks (place l.clocks this.state) (event % 16) (event / 16) reasons.input reasons.output
  pub moved : place l.clocks next.state ≡ tick.place
  pub again : Asked f l marks next.state
  pub wrote : Wrote before this.at (tick_text (policy_of l.reading f) this.number event tick reasons) next.at after
  pub few : next.at ≤ this.at + tick_room
  pub number : next.number ≡ this.number + 1

-- Once the tick's line and the lines of its reasons are written, the tick is told.
pub told_tick : {f : List ℕ} {l : Layout} {marks : List ℕ} {this : NextTick} {event x y : ℕ} {s : State} {at : ℕ} {q : Reasons} {before after : List ℕ} →
    Asked f l marks this.state →
    (m : Moves (policy_of l.reading f) marks (place l.clocks this.state) (event % 16) (event / 16) x y s) →
    Explained (policy_of l.reading f) marks (place l.clocks this.state) (event % 16) (event / 16) q.input q.output →
    Wrote before this.at (event_line this.number event (x + y * 16) ++ reason_lines (policy_of l.reading f) q) at after → at ≤ this.at + tick_room →
    ToldTick f l marks this event before (record { number = this.number + 1; state = s; at = at }) after
told_tick {q = q} h m g w n =
    record {
      tick = m.done;
      reasons = q;
      ticks = m.is;
      explained = g;
      moved = moved_place h m;
      again = moved_asked h m;
      wrote = rw (m.is_x, m.is_y) at w;
      few = n;
      number = refl;
    }

-- The text of all events stands at `at`.
pub record ToldFrom (p : Policy) (marks : List ℕ) (s : Place) (events before : List ℕ) (at r : ℕ) (after : List ℕ) : Type 0 where
  pub bytes : List ℕ
  pub told : Told p marks 1 s events bytes
  pub wrote : Wrote before at bytes r after

-- The first i events are told, and the state is the one after them: what is told of the rest completes it.
pub record Telling (f : List ℕ) (l : Layout) (marks events before : List ℕ) (at : ℕ) (s₀ : State) (i : ℕ) (text : List ℕ) (this : NextTick) : Type 0 where
  pub most : i ≤ length events
  pub long : length text ≡ length before
  pub number : this.number ≡ i + 1
  pub room : this.at ≤ at + tick_room * i
  pub asked : Asked f l marks this.state
  pub written : List ℕ
  pub wrote : Wrote before at written this.at text
  pub rest : (bytes : List ℕ) → Told (policy_of l.reading f) marks (i + 1) (place l.clocks this.state) (drop i events) bytes →
      Told (policy_of l.reading f) marks 1 (place l.clocks s₀) events (written ++ bytes)

-- Before the first event nothing is told.
pub telling_starts : {f : List ℕ} {l : Layout} {marks : List ℕ} (events before : List ℕ) (at : ℕ) {s : State} → Asked f l marks s →
    Telling f l marks events before at s 0 before (record { number = 1; state = s; at = at })
telling_starts events before at k =
    record { most = omega arith; long = refl; number = refl; room = omega arith; asked = k; written = []; wrote = wrote_none before at; rest = λ bytes t. t }

module _ {f : List ℕ} {l : Layout} {marks events before : List ℕ} {at : ℕ} {s₀ : State} {i : ℕ} {text : List ℕ} {this : NextTick}
    (g : Telling f l marks events before at s₀ i text this) where
  -- After the last event all are told.
  pub telling_ends : length events ≤ i → ToldFrom (policy_of l.reading f) marks (place l.clocks s₀) events before at this.at text
  telling_ends h =
      record {
        bytes = g.written ++ [];
        told = g.rest [] (subst (λ (es : List ℕ). Told (policy_of l.reading f) marks (i + 1) (place l.clocks this.state) es []) (sym (drop_of_length-le events h)) nothing);
        wrote = rw append-nil g.wrote;
      }

  -- One event more is told.
  pub telling_turn : {next : NextTick} {after : List ℕ} → i < length events → at ≤ length before → length after ≡ length text →
      ToldTick f l marks this (get_or events i 0) text next after → Telling f l marks events before at s₀ (i + 1) after next
  telling_turn {next} {after} h b n t =
      record {
        most = omega arith;
        long = n ∙ g.long;
        number = omega (arith, g.number, t.number);
        room = omega (arith, g.room, t.few);
        asked = t.again;
        written = g.written ++ said;
        wrote = wrote_then b g.wrote (rw g.number at t.wrote);
        rest = more;
      }
    where
      said : List ℕ
      said = tick_text (policy_of l.reading f) (i + 1) (get_or events i 0) t.tick t.reasons

      more : (bytes : List ℕ) → Told (policy_of l.reading f) marks (i + 1 + 1) (place l.clocks next.state) (drop (i + 1) events) bytes →
          Told (policy_of l.reading f) marks 1 (place l.clocks s₀) events ((g.written ++ said) ++ bytes)
      more bytes u =
          let P = policy_of l.reading f in
          let e : drop i events ≡ get_or events i 0 ∷ drop (i + 1) events = rw add-one (drop-cons events i 0 h) in
          let v = one {q = t.reasons} t.ticks t.explained (subst (λ (z : Place). Told P marks (i + 1 + 1) z (drop (i + 1) events) bytes) t.moved u) in
          rw (append_assoc g.written said bytes)
          (g.rest _ (subst (λ (es : List ℕ). Told P marks (i + 1) (place l.clocks this.state) es (said ++ bytes)) (sym e) v))
