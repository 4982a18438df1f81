-- Demand 3 for policies: the join is commutative, associative and idempotent, it has a unit, and what it releases passes its parts.
use Rattle.std.specs.Prelude.{refl, List, [], ◌↔◌, ℕ, ◌*◌, ◌≤◌}
use Rattle.std.proofs.Math.Path.{sym}
use Rattle.std.proofs.Common.{◌∙◌, mul_comm, mul-one}
use Rattle.std.proofs.Math.Nat.{mul_assoc, mul-le-mul_right}
use native.Mathlib.Omega.{arith}
use Rattle.streams.specs.Stream.{Event, Stream, Language, GoesOn, Hopeless}
use Rattle.streams.specs.Order.{Order}
use Rattle.streams.specs.Enforced.{Enforced}
use Rattle.streams.specs.Laws.{narrows_refl, narrows_trans, alongside_first, alongside_second, alongside_into, goes_on, ends, enforced_same}
use Rattle.streams.specs.Languages.{◌narrows◌}
use Rattle.policy.specs.Rules.{Policy, Runs, Permits}
use Rattle.policy.specs.Sound.{Sound}
use Rattle.pairing.specs.Join.{join}
use Rattle.pairing.specs.Joins.{Joins}
use Rattle.pairing.proofs.JoinsSound.{join_sound}
use Rattle.join.specs.Steps.{fits_same, within_both, both_within}
use Rattle.join.specs.Free.{free}
use Rattle.join.specs.FreeLaws.{free_sound, free_permits, free_rests}

-- Demand 3, "hopeless together, or the same released stream for every event stream": nobody can tell the two policies apart by streams.
pub record Equal (p q : Policy) : Type 1 where
  pub permits : (w : Stream) → (Permits p).permits w ↔ (Permits q).permits w
  pub rests : (w : Stream) → (Permits p).rests w ↔ (Permits q).rests w
  pub goes : (w : Stream) → GoesOn (Permits p) w ↔ GoesOn (Permits q) w
  pub hopeless : Hopeless (Permits p) ↔ Hopeless (Permits q)
  pub releases : (o : Order) (n m : ℕ) (w : Stream) (es rs : List Event) →
      Enforced o (Permits p) n m w es rs ↔ Enforced o (Permits q) n m w es rs

-- Two policies are equal if each permits what the other permits and rests where it rests.
pub equal : (p q : Policy) → Permits p narrows Permits q → Permits q narrows Permits p → Equal p q
equal p q f g =
    record {
      permits = λ w. (f.permits w, g.permits w);
      rests = λ w. (f.rests w, g.rests w);
      goes = λ w. (goes_on (Permits p) (Permits q) f w, goes_on (Permits q) (Permits p) g w);
      hopeless = (ends (Permits q) (Permits p) g [], ends (Permits p) (Permits q) f []);
      releases = λ o n m w es rs.
          (enforced_same o n m (Permits p) (Permits q) f g, enforced_same o n m (Permits q) (Permits p) g f);
    }

module _ (a b : Policy) (g : Sound a) (h : Sound b) (j : Joins a b) where
  -- What can be joined can be joined in the other order.
  pub joins_swap : Joins b a
  joins_swap = record { reading = sym j.reading; inputs = sym j.inputs; outputs = sym j.outputs; locations = rw (mul_comm b.locations a.locations) j.locations }

  to_first : Permits (join a b) narrows Permits a
  to_first = narrows_trans (within_both a b g h j) (alongside_first (Permits a) (Permits b))

  to_second : Permits (join a b) narrows Permits b
  to_second = narrows_trans (within_both a b g h j) (alongside_second (Permits a) (Permits b))

  -- What both permit, the join permits.
  into : {L : Language} → L narrows Permits a → L narrows Permits b → L narrows Permits (join a b)
  into f k = narrows_trans (alongside_into f k) (both_within a b g h j)

-- Demand 3, order: A with B is equal to B with A.
pub commutes : (a b : Policy) → Sound a → Sound b → Joins a b → Equal (join a b) (join b a)
commutes a b g h j =
    let i = joins_swap a b g h j in
    equal (join a b) (join b a) (into b a h g i (to_second a b g h j) (to_first a b g h j)) (into a b g h j (to_second b a h g i) (to_first b a h g i))

module _ (a b c : Policy) (g : Sound a) (h : Sound b) (k : Sound c) (j : Joins a b) (i : Joins (join a b) c) where
  -- Where the left grouping is made, the parts of the right one can be.
  pub joins_right : Joins b c
  unfolding join
  joins_right =
      record {
        reading = sym j.reading ∙ i.reading;
        inputs = sym j.inputs ∙ i.inputs;
        outputs = sym j.outputs ∙ i.outputs;
        locations =
            omega (
              arith,
              i.locations,
              mul-le-mul_right (b.locations * c.locations) g.start,
              mul_assoc a.locations b.locations c.locations,
            );
      }

  -- Where the left grouping is made, the right one can be.
  pub joins_whole : Joins a (join b c)
  unfolding join
  joins_whole = record { reading = j.reading; inputs = j.inputs; outputs = j.outputs; locations = rw (← mul_assoc a.locations b.locations c.locations) i.locations }

  -- Demand 3, grouping: (A with B) with C is equal to A with (B with C).
  pub associates : Equal (join (join a b) c) (join a (join b c))
  associates =
      let ab = join_sound a b g h in
      let bc = join_sound b c h k in
      let l = to_first (join a b) c ab k i in
      let r = to_second a (join b c) g bc joins_whole in
      equal (join (join a b) c) (join a (join b c))
      (into a (join b c) g bc joins_whole (narrows_trans l (to_first a b g h j))
      (into b c h k joins_right (narrows_trans l (to_second a b g h j)) (to_second (join a b) c ab k i)))
      (into (join a b) c ab k i (into a b g h j (to_first a (join b c) g bc joins_whole) (narrows_trans r (to_first b c h k joins_right)))
      (narrows_trans r (to_second b c h k joins_right)))

-- Demand 3, repetition: A with A is equal to A.
pub idempotent : (a : Policy) → Sound a → Joins a a → Equal (join a a) a
idempotent a g j = equal (join a a) a (to_first a a g g j) (into a a g g j (narrows_refl (Permits a)) (narrows_refl (Permits a)))

-- The policy that permits all, over the signals of a and read as a is.
abbrev pub free_for : Policy → Policy
free_for a = free a.reading a.inputs a.outputs

-- A policy of at most 64 locations can be joined with it.
pub joins_free : (a : Policy) → a.locations ≤ 64 → Joins a (free_for a)
joins_free a l = record { reading = refl; inputs = refl; outputs = refl; locations = rw (mul-one a.locations) l }

-- It permits whatever a permits.
pub all_free : (a : Policy) → Permits a narrows Permits (free_for a)
unfolding Runs
all_free a =
    record {
      permits = λ w p. free_permits a.reading a.inputs a.outputs w (fits_same a (free_for a) refl refl p.0);
      rests = λ w p. free_rests a.reading a.inputs a.outputs w;
    }

-- Demand 3: "A with the policy that permits all".
pub unit : (a : Policy) → Sound a → a.locations ≤ 64 → Equal (join a (free_for a)) a
unit a g l =
    let u = free_for a in
    let h = free_sound a.reading a.inputs a.outputs in
    let j = joins_free a l in
    equal (join a u) a (to_first a u g h j) (into a u g h j (narrows_refl (Permits a)) (all_free a))
