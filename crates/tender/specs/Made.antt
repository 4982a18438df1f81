-- The laws of demand 3 are not empty: joins are made.
-- In order: what nothing refuses is made; A with the policy that permits all, for every A that passes the check; three policies, grouped either way.
use Rattle.std.specs.Prelude.{◌≡◌, Bool, cond, eqb, take, replicate}
use Rattle.std.proofs.Math.Path.{refl, subst}
use Rattle.std.proofs.Common.{sym, ap, mul-one, add-one, arith, le-leb}
use Rattle.std.proofs.Math.Bool.{true, false}
use mathlib.Core.List.{List, [], ◌∷◌}
use Prim.Native.Nat.{ℕ, zero, suc, ◌*◌, ◌/◌, ◌%◌, ◌≤◌, zero-le}
use Rattle.std.proofs.Math.Nat.{le_refl}
use Rattle.std.proofs.Math.Dec.{ltb}
use Rattle.std.proofs.Math.ListN.{length, length-append}
use Rattle.streams.specs.Answer.{Answer, gives}
use Rattle.policy.specs.Rules.{Rule, Policy}
use Rattle.policy.specs.Rules as Rules
use Rattle.policy.specs.Number.{states, states_of}
use Rattle.policy.specs.File.{policy_of}
use Rattle.policy.specs.Check.{reading_refusal, refusal_of}
use Rattle.policy.specs.Sound.{WellFormed}
use Rattle.policy.specs.Frame.{frame, longest}
use Rattle.policy.specs.Checked.{checked_file}
use Rattle.policy.specs.WrittenPasses.{written_passes}
use Rattle.index.specs.Index.{count, lower, number}
use Rattle.index.specs.Names.{count_le, lower_next}
use Rattle.pairing.specs.Join.{of, agree, both, pair, each, cell, rows, join}
use Rattle.join.specs.Free.{always, free, free_file}
use Rattle.join.specs.FreeLaws.{free_well, free_read}
use Rattle.join.specs.Entry.{same_signals, join_fits, said, joined_file, join_refusal, join_of, joined_out}
use Rattle.pairing.specs.Joins.{join_clocks}
use Rattle.join.specs.Limits.{states_join}
use Rattle.join.specs.Again.{same_tags_is}
use Rattle.join.specs.Written.{Unrefused, joined_passes, joined_written}
use Rattle.join.specs.Promise.{JoinPromise, join_one}
use Rattle.tender.specs.Samples.{K}
use Rattle.tender.specs.Demand3.{JoinMade, Alike, permits_all}
use Rattle.tender.specs.Demand3Shown.{grouping}
use Rattle.tender.specs.Apart.{always_off}
use Rattle.join.specs.Computing.{the_join}
use Rattle.prepare.specs.Computing.{the_file, the_check, the_bytes}

none_refused : (a b out : List ℕ) → Unrefused a b out → join_refusal a b out ≡ 0
unfolding join_refusal
none_refused a b out u = rw (u.first, u.second, u.signals, u.fits, le-leb _ _ u.room)

given_of : (a b out : List ℕ) → Unrefused a b out → join_of a b out ≡ gives (length (joined_file a b out))
unfolding join_of
given_of a b out u = rw (none_refused a b out u)

-- Where nothing is refused the join is made, and its file is the joined one.
pub made_of : (a b out : List ℕ) → Unrefused a b out → JoinMade a b (joined_file a b out)
made_of a b out u =
    record {
      slice = out;
      size = length (joined_file a b out);
      given = given_of a b out u;
      written = sym (joined_written a b out (none_refused a b out u));
    }

-- A rule of A gives at most one rule with each rule of B.
module _ (k n at : ℕ) where
  each_few : (r : Rule) (ss : List Rule) → length (each k n at r ss) ≤ length ss
  unfolding each pair
  each_few r [] = zero-le
  each_few r (s ∷ ss) = rw length-append (omega (arith, go (agree r s), each_few r ss))
    where
      go : (t : Bool) → length (cond t (both k n at r s ∷ []) []) ≤ 1
      go true = le_refl 1
      go false = zero-le

  cell_few : (rs ss : List Rule) → length ss ≤ 1 → length (cell k n at rs ss) ≤ length rs
  unfolding cell
  cell_few [] ss h = zero-le
  cell_few (r ∷ rs) ss h = rw length-append (omega (arith, each_few r ss, cell_few rs ss h))

-- The rules of a location are as many as the index says.
of_number : (m : ℕ) (rs : List Rule) → length (of m rs) ≡ number m rs
unfolding of count
of_number m [] = refl
of_number m (r ∷ rs) = go (eqb r.source m) (of_number m rs)
  where
    go : (t : Bool) → length (of m rs) ≡ number m rs → length (cond t (r ∷ of m rs) (of m rs)) ≡ cond t (suc (number m rs)) (number m rs)
    go true h = ap suc h
    go false h = h

of_few : (m : ℕ) (rs : List Rule) → length (of m rs) ≤ length rs
of_few m rs = rw (of_number m rs) (count_le _ rs)

-- Joined with a policy of one location and at most one rule, A has no more rules than before.
rows_few : (k : ℕ) (rs ss : List Rule) (m : ℕ) → length ss ≤ 1 → length (rows k 1 rs ss m) ≤ lower m rs
unfolding rows
rows_few k rs ss zero h = zero-le
rows_few k rs ss (suc m) h =
    let e : m / 1 ≡ m = omega arith in
    let one : length (of (m % 1) ss) ≤ 1 = omega (arith, of_few (m % 1) ss) in
    rw (e, length-append) (omega (arith, rows_few k rs ss m h, cell_few k 1 m (of m rs) (of (m % 1) ss) one, of_number m rs, rw add-one at (lower_next m rs)))

fits_of : (q : Policy) → q.locations ≤ 64 → length q.ceilings ≤ 4 → length q.rules ≤ 256 → states q ≤ 65536 → join_fits q ≡ true
unfolding join_fits
fits_of q l c r s = rw (le-leb _ _ l, le-leb _ _ c, le-leb _ _ r, le-leb _ _ s)

-- So A's own limits are enough: that policy has one location, no clocks and one rule.
module _ (p : Policy) (w : WellFormed p) where
  abbrev unit : Policy
  unit = free p.reading p.inputs p.outputs

  locations_fit : (join p unit).locations ≤ 64
  unfolding join
  locations_fit = rw (mul-one p.locations) w.locations

  clocks_fit : length (join p unit).ceilings ≤ 4
  clocks_fit = rw (join_clocks p unit) (omega (arith, w.clocks))

  rules_fit : length (join p unit).rules ≤ 256
  unfolding join
  rules_fit =
      let m = p.locations * 1 in
      omega (arith, rows_few (length p.ceilings) p.rules (always ∷ []) m (le_refl 1), count_le (λ r. ltb r.source m) p.rules, w.rule_count)

  one_state : states unit ≡ 1
  unfolding states_of
  one_state = refl

  states_fit : states (join p unit) ≤ 65536
  states_fit = rw (states_join p unit, one_state, mul-one (states p)) w.states

  free_fits : join_fits (join p unit) ≡ true
  free_fits = fits_of (join p unit) locations_fit clocks_fit rules_fit states_fit

-- "A with the policy that permits all": for every A that passes the check that join is made, in every slice that holds the joined file.
module _ (a : List ℕ) (passed : refusal_of a ≡ 0) where
  is_free : said (permits_all a) ≡ free 1 (said a).inputs (said a).outputs
  unfolding policy_of
  is_free = free_read 1 (said a) (checked_file 1 a passed)

  unit_unrefused :
      (out : List ℕ) → length (joined_file a (permits_all a) out) ≤ length out → Unrefused a (permits_all a) out
  unfolding free_file same_signals policy_of
  unit_unrefused out room =
      let p = said a in
      record {
        first = passed;
        second = written_passes (free 1 p.inputs p.outputs) (free_well 1 p (checked_file 1 a passed));
        signals =
            subst (λ (q : Policy). same_signals p q ≡ true) (sym is_free)
            (rw ((same_tags_is p.inputs p.inputs).1 refl, (same_tags_is p.outputs p.outputs).1 refl));
        fits = subst (λ (q : Policy). join_fits (join p q) ≡ true) (sym is_free) (free_fits p (checked_file 1 a passed));
        room = room;
      }

  -- A with the policy that permits all is made, in every slice that holds the joined file.
  pub unit_made : (out : List ℕ) → length (joined_file a (permits_all a) out) ≤ length out → JoinMade a (permits_all a) (joined_file a (permits_all a) out)
  unit_made out room = made_of a (permits_all a) out (unit_unrefused out room)

  -- "The longest is 5,974 bytes": a slice of that length holds it.
  unit_room : (out : List ℕ) → length (joined_file a (permits_all a) out) ≤ 5974
  unfolding joined_file
  unit_room out =
      let f = joined_file a (permits_all a) out in
      let none = none_refused a (permits_all a) f (unit_unrefused f (le_refl (length f))) in
      longest f (frame f (joined_passes a (permits_all a) f none))

  -- So into a slice of 5,974 bytes or more join's code gives a length.
  pub unit_given : {before after : List ℕ} {r : Answer ℕ} → JoinPromise a (permits_all a) before r after → 5974 ≤ length before →
      (n : ℕ) × (r ≡ gives n)
  unit_given {before} h long =
      let n = length (joined_file a (permits_all a) before) in
      let e = given_of a (permits_all a) before (unit_unrefused before (omega (arith, unit_room before))) in
      (n, (join_one {s = gives n} h (record { answers = sym e; writes = refl })).0)

-- The join of a and b, in a slice of so many bytes.
abbrev joined_in : (size : ℕ) (a b : List ℕ) → List ℕ
joined_in size a b = take size (joined_out a b (replicate size 0))

-- K with the credit always off.
abbrev pub left : List ℕ
left = joined_in 54 K always_off

-- The credit always off, with K.
abbrev pub right : List ℕ
right = joined_in 54 always_off K

-- Three policies joined "either way": K, the credit always off, and K again. All four joins are made.
pub three_made :
    JoinMade K always_off left × JoinMade left K (joined_in 132 left K) × JoinMade always_off K right × JoinMade K right (joined_in 132 K right)
unfolding the_file the_check the_bytes the_join Rules.rests
three_made = (
  record { slice = replicate 54 0; size = 54; given = refl; written = refl },
  record { slice = replicate 132 0; size = 132; given = refl; written = refl },
  record { slice = replicate 54 0; size = 54; given = refl; written = refl },
  record { slice = replicate 132 0; size = 132; given = refl; written = refl },
)

-- So "grouped either way with C" speaks of them, for each reading.
pub three_alike : (reading : ℕ) → reading_refusal reading ≡ 0 → Alike reading (joined_in 132 left K) (joined_in 132 K right)
three_alike reading named = grouping reading named three_made.0 three_made.1 three_made.2 three_made.3
