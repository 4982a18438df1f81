use Rattle.std.proofs.Common.{◌≡◌, ◌+◌, ◌*◌, refl, sym, ◌∙◌, arith, get_or}
use Rattle.std.proofs.Math.Bool.{and-eq-true_iff}
use Rattle.std.proofs.Common.{eqb-true}
use Rattle.index.specs.Index.{entries, entry_of}
use Rattle.index.specs.Names.{lower_none, lower_few, entry_few, entry_next}
use Rattle.index.proofs.Laws.{entry_same, other_length, other_entry, all_same}
use Rattle.index.proofs.is_index.Goals as goal
use Rattle.index.proofs.is_index.Goals.{Else-not-is_entry}

pub returns-then-index-ne-NUMBERS : goal.returns-then-index-ne-NUMBERS
returns-then-index-ne-NUMBERS c = sym (other_length c.args.file.now c.args.index.now c.if-index-ne-NUMBERS.true)

pub loop-location-init : goal.loop-location-init
unfolding entries
loop-location-init c = record { lower = sym (lower_none _); same = refl }

pub returns-then-not-is_entry : goal.returns-then-not-is_entry
returns-then-not-is_entry c =
    let other = rw (c.from.ensures, c.from-in-loop-location.ensures) at c.if-not-is_entry.ensures in
    sym (other_entry _ _ c.loop-location.location c.loop-location-test.true (sym other))

-- The numbers are the location's entry.
same : (c : Else-not-is_entry) →
    (get_or c.args.index.now (2 * c.loop-location.location) 0 ≡ (entry_of c.args.file.now c.loop-location.location).first)
    × (get_or c.args.index.now (2 * c.loop-location.location + 1) 0 ≡ (entry_of c.args.file.now c.loop-location.location).number)
same c =
    let k = (and-eq-true_iff _ _).0 (sym c.if-not-is_entry.ensures) in
    (sym c.from.ensures ∙ eqb-true _ _ k.0, sym c.from-in-loop-location.ensures ∙ eqb-true _ _ k.1)

pub overflow_add-first : goal.overflow_add-first
overflow_add-first c =
    let p = c.requires.passes in
    omega (
      arith,
      (same (goal.at.overflow_add-first c).Else-not-is_entry).1,
      entry_few _ p c.loop-location.location,
      lower_few _ p c.loop-location.location,
      c.loop-location.invariant.lower,
    )

pub loop-location-preserved : goal.loop-location-preserved
loop-location-preserved c =
    let s = same (goal.at.loop-location-preserved c).Else-not-is_entry in
    record {
      lower = rw (c.from-in-loop-location.ensures, s.1, c.loop-location.invariant.lower) (sym (entry_next _ c.requires.passes c.loop-location.location));
      same = entry_same _ _ c.loop-location.location (omega arith) c.loop-location.invariant.same s.0 s.1;
    }

pub returns : goal.returns
returns c = sym (all_same _ _ (omega arith) c.loop-location.location (omega arith) c.loop-location.invariant.same)
