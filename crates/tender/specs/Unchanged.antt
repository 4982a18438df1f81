-- "With all bytes 0 nothing changes": where no location must be left, live, hopeless and what is released are what 01 says, in words that know no rest.
use Rattle.std.specs.Prelude.{◌≡◌, List, [], ◌∷◌, ◌++◌, ◌↔◌, ℕ, ◌≤◌, ◌<◌, ◌^◌, length, get_or}
use Rattle.std.proofs.Math.Logic.Iff
use borrow.Author.Tests.{eq-eqb}
use Rattle.streams.specs.Answer.{refused}
use Rattle.streams.specs.Stream.{Event, Stream, Language, GoesOn, Hopeless}
use Rattle.streams.specs.Order.{Nearest, nearest_same}
use Rattle.streams.specs.Corrections.{corrections}
use Rattle.streams.specs.Enforced.{then}
use Rattle.streams.specs.Enforced as Enforced
use Rattle.streams.specs.Lengths.{goes_on_lengths, ends_lengths}
use Rattle.policy.specs.Rules.{Policy, Place, start, rests, Runs, Rests, from, Permits, Live, Dead}
use Rattle.policy.specs.Number.{states}
use Rattle.policy.specs.File.{policy_of}
use Rattle.policy.specs.Check.{refusal_under}
use Rattle.policy.specs.Sound.{WellFormed}
use Rattle.policy.specs.Stays.{closed}
use Rattle.resting.specs.Table.{marks_by}
use Rattle.resting.specs.Always.{goes_on}
use Rattle.resting.proofs.Always.{same_marks}
use Rattle.trimming.specs.Table.{machine_of, marks_of}
use Rattle.trimming.specs.Live.{within}
use Rattle.prepare.specs.Entry.{prepare_of}
use Rattle.prepare.specs.Enforcing.{EnforcedBy}
use Rattle.tender.specs.Demand2Shown.{hopeless_exactly}

-- A state is "live if permitted streams of every length leave it"; so is the one that the stream w leads to.
abbrev pub EveryLength : (Stream → Type 0) → Stream → Type 0
EveryLength permits w = (n : ℕ) → (v : Stream) × (length v ≡ n) × permits (w ++ v)

-- After w "some length has no permitted stream".
abbrev pub SomeLengthNone : (Stream → Type 0) → Stream → Type 0
SomeLengthNone permits w = (n : ℕ) × ((v : Stream) → length v ≡ n → permits (w ++ v) → ⊥)

-- Demand 2's release by those words: `Enforced`, with `EveryLength` in place of `GoesOn`.
module _ (permits : Stream → Type 0) (inputs outputs : ℕ) where
  -- An output that may stand: after it there are permitted streams of every length.
  abbrev pub MayOut01 : Stream → ℕ → ℕ → Type 0
  MayOut01 w x y = (y < 2 ^ outputs) × EveryLength permits (then w x y)

  -- An input that may stand: with it some output may.
  abbrev pub MayIn01 : Stream → ℕ → Type 0
  MayIn01 w x = (x < 2 ^ inputs) × ((y : ℕ) × MayOut01 w x y)

  -- After the released stream w: the input is fixed first, then the output, each the nearest that may stand.
  pub record TickByLengths (w : Stream) (read released : Event) : Type 0 where
    pub input : Nearest corrections (MayIn01 w) read.x released.x
    pub output : Nearest corrections (MayOut01 w released.x) read.y released.y

  -- One event is released for each one read, after w was released.
  pub data EnforcedByLengths : Stream → List Event → List Event → Type 0 where
    done : {w : Stream} → EnforcedByLengths w [] []
    tick : {w : Stream} {e r : Event} {es rs : List Event} →
        TickByLengths w e r → EnforcedByLengths (w ++ (r ∷ [])) es rs → EnforcedByLengths w (e ∷ es) (r ∷ rs)

-- Of any language in which to go on for ever is to have streams of every length.
module _ (L : Language) (same : (w : Stream) → GoesOn L w ↔ EveryLength L.permits w) (n m : ℕ) where
  out_there : (w : Stream) (x y : ℕ) → Enforced.MayOut L n m w x y → MayOut01 L.permits n m w x y
  out_there w x y p = (p.0, (same (then w x y)).0 p.1)

  out_back : (w : Stream) (x y : ℕ) → MayOut01 L.permits n m w x y → Enforced.MayOut L n m w x y
  out_back w x y p = (p.0, (same (then w x y)).1 p.1)

  in_there : (w : Stream) (x : ℕ) → Enforced.MayIn L n m w x → MayIn01 L.permits n m w x
  in_there w x p = (p.0, (p.1.0, out_there w x p.1.0 p.1.1))

  in_back : (w : Stream) (x : ℕ) → MayIn01 L.permits n m w x → Enforced.MayIn L n m w x
  in_back w x p = (p.0, (p.1.0, out_back w x p.1.0 p.1.1))

  there : {w : Stream} {es rs : List Event} → Enforced.Enforced corrections L n m w es rs → EnforcedByLengths L.permits n m w es rs
  there Enforced.done = done
  there (Enforced.tick {w = w} {r = r} t s) =
      tick
      (record {
        input = nearest_same corrections (in_there w) (in_back w) t.input;
        output = nearest_same corrections (out_there w r.x) (out_back w r.x) t.output;
      })
      (there s)

  back : {w : Stream} {es rs : List Event} → EnforcedByLengths L.permits n m w es rs → Enforced.Enforced corrections L n m w es rs
  back done = Enforced.done
  back (tick {w = w} {r = r} t s) =
      Enforced.tick
      (record {
        input = nearest_same corrections (in_back w) (in_there w) t.input;
        output = nearest_same corrections (out_back w r.x) (out_there w r.x) t.output;
      })
      (back s)

-- "all bytes 0". Past the last byte stands 0 too.
abbrev pub AllZero : Policy → Type 0
AllZero p = (location : ℕ) → get_or p.left location 0 ≡ 0

module _ (p : Policy) (zero : AllZero p) where
  always : (s : Place) (w : Stream) → Runs p s w → Rests p s w
  unfolding Runs Rests rests
  always s w r = (r.1.0, r.1.1, eq-eqb _ 0 (zero r.1.0.location))

  -- "A state is live if permitted streams of every length leave it."
  pub live_unchanged : (s : Place) → Live p s ↔ EveryLength (Runs p s) []
  live_unchanged s = goes_on_lengths (from p s) (closed p s) (always s) []

  -- A state is dead exactly if some length has no permitted stream from it.
  pub dead_unchanged : (s : Place) → Dead p s ↔ SomeLengthNone (Runs p s) []
  dead_unchanged s = ends_lengths (from p s) (closed p s) (always s) []

  -- "hopeless exactly if, from its start, some length has no permitted stream"
  pub hopeless_unchanged : Hopeless (Permits p) ↔ SomeLengthNone (Permits p).permits []
  hopeless_unchanged = dead_unchanged (start p)

  -- The stream w can "go on for ever".
  pub goes_on_unchanged : (w : Stream) → GoesOn (Permits p) w ↔ EveryLength (Permits p).permits w
  goes_on_unchanged = goes_on_lengths (Permits p) (closed p (start p)) (always (start p))

  -- What is released, whatever was before.
  pub released_unchanged : {w : Stream} {es rs : List Event} →
      EnforcedBy p w es rs ↔ EnforcedByLengths (Permits p).permits (length p.inputs) (length p.outputs) w es rs
  released_unchanged = (there (Permits p) goes_on_unchanged _ _, back (Permits p) goes_on_unchanged _ _)

  -- The marks are those of 01's table: struck, round by round, are the states with no event to a marked one.
  pub marks_unchanged : WellFormed p → marks_of p ≡ marks_by (goes_on (machine_of p)) (states p)
  unfolding rests
  marks_unchanged ok = same_marks (machine_of p) (λ n. eq-eqb _ 0 (zero _)) (within p ok)

-- A file all of whose location bytes are 0 is refused by 11 exactly if some length has no permitted stream.
pub refused_unchanged :
    (reading : ℕ) (file marks : List ℕ) → refusal_under reading file ≡ 0 → states (policy_of reading file) ≤ length marks →
    AllZero (policy_of reading file) →
    (prepare_of reading file marks ≡ refused 11) ↔ SomeLengthNone (Permits (policy_of reading file)).permits []
refused_unchanged reading file marks passed long zero =
    Iff.trans (hopeless_exactly reading file marks passed long) (hopeless_unchanged (policy_of reading file) zero)
