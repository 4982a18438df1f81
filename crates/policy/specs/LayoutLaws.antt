-- What the answer of the check says, by its refusal; and the shape of a file.
use Rattle.std.specs.Prelude.{List, ◌≡◌, refl, ℕ, zero, suc, ◌<◌, ◌≤◌, Result, Ok, Err}
use Rattle.std.proofs.Math.Path.{ap}
use Rattle.std.proofs.Common.{sym, ◌∙◌, arith}
use Rattle.streams.specs.Answer.{answer, gives}
use Rattle.refusals.specs.Refused.{number_of, told}
use Rattle.refusals.specs.Laws.{number_above, number_one, refused_answer}
use Rattle.refusals.specs.declared.Refusal.{Refusal}
use Rattle.policy.specs.File
use Rattle.policy.specs.Number.{four}
use Rattle.policy.specs.Check.{refusal_of, refusal_under}
use Rattle.policy.specs.declared.Layout.{Layout}
use Rattle.policy.specs.Layout.{Checked}
use Rattle.policy.specs.declared.rules.Shape.{Shape}
use Rattle.policy.specs.Layout.{checked_from, checked_of, checked_said, checked_under, layout_of, no_layout}

from_none : (n : ℕ) (l : Layout) → n ≡ 0 → checked_from n l ≡ record { refusal = n; layout = l }
from_none zero l e = refl
from_none (suc n) l e = absurd (omega arith)

from_some : (n : ℕ) (l : Layout) → (n ≡ 0 → ⊥) → checked_from n l ≡ record { refusal = n; layout = no_layout }
from_some zero l h = absurd (h refl)
from_some (suc n) l h = refl

from_number : (n : ℕ) (l : Layout) → (checked_from n l).refusal ≡ n
from_number zero l = refl
from_number (suc n) l = refl

-- The refusal is the file's. Without one the layout is the file's too, and with one there is none.
module _ (f : List ℕ) where
  -- A file that passes gets its layout, under reading 1.
  pub checked_passed : refusal_of f ≡ 0 → checked_of f ≡ record { refusal = refusal_of f; layout = layout_of 1 f }
  unfolding checked_of
  checked_passed = from_none (refusal_of f) (layout_of 1 f)

  -- A file that is refused gets its refusal, and no layout.
  pub checked_refused : (refusal_of f ≡ 0 → ⊥) → checked_of f ≡ record { refusal = refusal_of f; layout = no_layout }
  unfolding checked_of
  checked_refused = from_some (refusal_of f) (layout_of 1 f)

  -- Either way the refusal is the file's, and without one the layout is too.
  pub checked_says : ((checked_of f).refusal ≡ refusal_of f) × (refusal_of f ≡ 0 → (checked_of f).layout ≡ layout_of 1 f)
  unfolding checked_of
  checked_says = (from_number (refusal_of f) (layout_of 1 f), λ e. ap (λ (c : Checked). c.layout) (checked_passed e))

-- The same under a reading.
module _ (reading : ℕ) (f : List ℕ) where
  -- A file that passes under the reading gets its layout under it.
  pub under_passed : refusal_under reading f ≡ 0 → checked_under reading f ≡ record { refusal = 0; layout = layout_of reading f }
  unfolding checked_under
  under_passed e = from_none _ _ e ∙ ap (λ (n : ℕ). record { refusal = n; layout = layout_of reading f }) e

  -- A file that is refused under the reading gets its refusal, and no layout.
  pub under_refused : (refusal_under reading f ≡ 0 → ⊥) → checked_under reading f ≡ record { refusal = refusal_under reading f; layout = no_layout }
  unfolding checked_under
  under_refused = from_some _ _

  -- Either way the refusal is the one under the reading, and without one the layout is too.
  pub under_says : ((checked_under reading f).refusal ≡ refusal_under reading f) × (refusal_under reading f ≡ 0 → (checked_under reading f).layout ≡ layout_of reading f)
  unfolding checked_under
  under_says = (from_number _ _, λ e. ap (λ (c : Checked). c.layout) (under_passed e))

-- What a layout or a refusal that says the check's answer tells of the file, under a reading.
module _ (reading : ℕ) (f : List ℕ) where
  -- A layout is the file's, and there is no refusal.
  pub said_layout : (l : Layout) → checked_said (Ok l) ≡ checked_under reading f → (refusal_under reading f ≡ 0) × (l ≡ layout_of reading f)
  said_layout l e =
      let says = under_says reading f in
      let none = sym says.0 ∙ sym (ap (λ (c : Checked). c.refusal) e) in
      (none, ap (λ (c : Checked). c.layout) e ∙ says.1 none)

  -- A refusal is the file's.
  pub said_refusal : (r : Refusal) → checked_said (Err r) ≡ checked_under reading f → refusal_under reading f ≡ number_of r
  said_refusal r e = sym (under_says reading f).0 ∙ sym (ap (λ (c : Checked). c.refusal) e)

  module _ {r : Result Layout Refusal} (said : checked_said r ≡ checked_under reading f) where
    -- Where a layout is given, the check has no refusal, and that layout.
    pub said_ok : (l : Layout) → r ≡ Ok l → ((checked_under reading f).refusal ≡ 0) × ((checked_under reading f).layout ≡ l)
    said_ok l e =
        let k = sym (sym (ap checked_said e) ∙ said) in
        (ap (λ (c : Checked). c.refusal) k, ap (λ (c : Checked). c.layout) k)

    -- Where a refusal is given, it is the check's, and its number is above 0.
    pub said_err : (d : Refusal) → r ≡ Err d → ((checked_under reading f).refusal ≡ number_of d) × (0 < number_of d)
    said_err d e = (ap (λ (c : Checked). c.refusal) (sym (sym (ap checked_said e) ∙ said)), number_above d)

  -- Either is the answer of an entry that gives the layout.
  pub said_told : (r : Result Layout Refusal) → checked_said r ≡ checked_under reading f → told r ≡ answer (refusal_under reading f) (layout_of reading f)
  said_told (Ok l) said = let k = said_layout l said in rw k.0 (ap gives k.1)
  said_told (Err d) said = rw (said_refusal d said) (sym (refused_answer d (layout_of reading f)))

-- One result alone says what the check says.
pub said_one : (r s : Result Layout Refusal) → checked_said r ≡ checked_said s → r ≡ s
said_one (Ok l) (Ok m) e = ap Ok (ap (λ (c : Checked). c.layout) e)
said_one (Err r) (Err s) e = ap Err (number_one r s (ap (λ (c : Checked). c.refusal) e))
said_one (Ok l) (Err s) e =
    let none : 0 ≡ number_of s = ap (λ (c : Checked). c.refusal) e in
    let above = number_above s in
    absurd (omega arith)
said_one (Err r) (Ok m) e =
    let none : number_of r ≡ 0 = ap (λ (c : Checked). c.refusal) e in
    let above = number_above r in
    absurd (omega arith)

-- How much the sections before the rules may hold.
pub record Shaped (s : Shape) : Type 0 where
  pub inputs : s.inputs ≤ 4
  pub outputs : s.outputs ≤ 4
  pub clocks : s.clocks ≤ 4

-- What they hold in the file f.
pub record ShapeOf (f : List ℕ) (s : Shape) : Type 0 where
  pub shaped : Shaped s
  pub inputs : s.inputs ≡ File.input_count f
  pub outputs : s.outputs ≡ File.output_count f
  pub clocks : s.clocks ≡ File.clock_count f
  pub locations : s.locations ≡ File.location_count f
  pub ceilings : s.ceilings ≡ four (File.ceilings_of f)
