-- What is to be released for an event stream, and the place that a stream leads to.
use Rattle.std.specs.Prelude.{◌≡◌, true, false, List, ◌++◌, ℕ, ◌<◌, length}
use Rattle.std.proofs.Math.Option.{some}
use Rattle.streams.specs.Stream.{Event, Stream}
use Rattle.streams.specs.Corrections.{corrections}
use Rattle.streams.specs.Enforced.{Enforced}
use Rattle.policy.specs.Rules.{Policy, Place, start, unlimited, steps, Fits, Permits}
use Rattle.policy.specs.Stop.{stop}
use Rattle.policy.specs.Number.{states, number_of}
use Rattle.policy.specs.Sound.{Inside}
use Rattle.stepping.specs.State.{is_marked}
use Rattle.stepping.specs.Tick.{Progress}
use Rattle.trimming.specs.Table.{marks_of}

-- How many inputs there are.
abbrev pub ins : Policy → ℕ
ins p = length p.inputs

-- How many outputs there are.
abbrev pub outs : Policy → ℕ
outs p = length p.outputs

-- What is released for es after w, by the permitted streams of p.
abbrev pub EnforcedBy : Policy → Stream → List Event → List Event → Type 0
EnforcedBy p = Enforced corrections (Permits p) (ins p) (outs p)

-- Marks that say of each state what the marks of prepare say. Past them anything may stand.
abbrev pub AsPrepared : Policy → List ℕ → Type 0
AsPrepared p marks = (n : ℕ) → n < states p → is_marked marks n ≡ is_marked (marks_of p) n

-- The permitted stream w leads, over clocks without limit, to a place that the stopped clocks show as s.
pub record Leads (p : Policy) (w : Stream) (s : Place) : Type 0 where
  pub fits : Fits p w
  pub place : Place
  pub leads : steps unlimited p (start p) w ≡ some place
  pub shows : stop p place ≡ s

-- A place of the policy that is marked: what the halves and the run do not refuse by 16.
pub record MarkedPlace (p : Policy) (marks : List ℕ) (s : Place) : Type 0 where
  pub inside : Inside p s
  pub marked : is_marked marks (number_of p s) ≡ true

-- A run over the events es, after w was released: it never stops for want of an input that may stand, "one event is released for each one read", and
-- the place after them is the one that the released stream leads to.
pub record Enforces (p : Policy) (w : Stream) (es : List Event) (r : Progress) : Type 0 where
  pub moving : r.stuck ≡ false
  pub enforced : EnforcedBy p w es r.released
  pub leads : Leads p (w ++ r.released) r.place
