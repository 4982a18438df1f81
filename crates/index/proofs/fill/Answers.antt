use Rattle.std.proofs.Common.{◌≡◌, ◌≤◌, refl, sym, arith}
use Rattle.index.specs.Index.{entries, index_of}
use Rattle.index.specs.Names.{lower_none, lower_few, entry_few, entry_next}
use Rattle.index.proofs.Laws.{entry_laid}
use Rattle.index.proofs.fill.Goals as goal
use Rattle.index.proofs.fill.Goals.{After-entry_at-entry}

-- The numbers of an entry are small.
few : (c : After-entry_at-entry) → (c.entry_at-entry.result.first ≤ 256) × (c.entry_at-entry.result.number ≤ 256)
few c = rw c.entry_at-entry.ensures (entry_few _ c.requires.0.passes _)

pub loop-location-init : goal.loop-location-init
unfolding entries
loop-location-init c = record { lower = sym (lower_none _); written = refl }

pub overflow_cast-index : goal.overflow_cast-index
overflow_cast-index c = omega (arith, few (goal.at.overflow_cast-index c).After-entry_at-entry)

pub overflow_cast-index-in-loop-location : goal.overflow_cast-index-in-loop-location
overflow_cast-index-in-loop-location c = omega (arith, few (goal.at.overflow_cast-index-in-loop-location c).After-entry_at-entry)

pub overflow_add-first : goal.overflow_add-first
overflow_add-first c =
    omega (arith, few (goal.at.overflow_add-first c).After-entry_at-entry, lower_few _ c.requires.0.passes c.loop-location.location, c.loop-location.invariant.lower)

pub loop-location-preserved : goal.loop-location-preserved
loop-location-preserved c =
    let e = c.entry_at-entry.ensures in
    record {
      lower = rw (e, c.loop-location.invariant.lower) (sym (entry_next _ c.requires.0.passes c.loop-location.location));
      written = rw (c.loop-location.invariant.written, e) (entry_laid _ _ c.loop-location.location (omega arith));
    }

pub returns : goal.returns
unfolding index_of
returns c = let e : c.loop-location.location ≡ 64 = omega arith in rw e at c.loop-location.invariant.written
