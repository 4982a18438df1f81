-- "With all bytes 0 nothing changes."
use Rattle.std.specs.Prelude.{◌≡◌, true, List, ℕ, ◌<◌, get_or}
use Rattle.std.proofs.Common.{sym, ◌∙◌, eqb-true, eq-eqb}
use Rattle.resting.specs.Machine.{Machine, StaysInside}
use Rattle.resting.specs.Table.{marks_by}
use Rattle.resting.specs.Marks.{bit_true, under_antisym}
use Rattle.resting.specs.Trim.{Monotone, marks_at, greatest, length_rounds, bits_rounds}
use Rattle.resting.specs.Walk.{once}
use Rattle.resting.specs.Keeps.{is_marked, keeps, marks_of}
use Rattle.resting.specs.Leads.{marked_more, some-event}
use Rattle.resting.proofs.Leads.{keeps_leads, keeps_mono}
use Rattle.resting.proofs.Clear.{live_on}
use Rattle.resting.specs.Always.{goes_on}

module _ (a : Machine) where
  goes_on_mono : Monotone (goes_on a)
  goes_on_mono A B b under s h =
      let o = (some-event a (is_marked A) s).0 h in
      (some-event a (is_marked B) s).1 (o.0, o.1, marked_more A B b under o.0 o.2)

  module _ (always : (s : ℕ) → a.rest s ≡ true) where
    -- The marks are those of 01's table.
    pub same_marks : StaysInside a → marks_of a ≡ marks_by (goes_on a) a.states
    same_marks within =
        under_antisym (marks_of a) old (length_rounds (keeps a) n n ∙ sym (length_rounds (goes_on a) n n))
        (greatest (goes_on a) n goes_on_mono (marks_of a) (length_rounds (keeps a) n n) (bits_rounds (keeps a) n n) on n)
        (greatest (keeps a) n (keeps_mono a within) old (length_rounds (goes_on a) n n) (bits_rounds (goes_on a) n n) kept n)
      where
        n : ℕ
        n = a.states

        old : List ℕ
        old = marks_by (goes_on a) a.states

        on : (s : ℕ) → s < n → get_or (marks_of a) s 0 ≡ 1 → goes_on a (marks_of a) s ≡ true
        on s l m = let o = live_on a within l m in (some-event a (is_marked (marks_of a)) s).1 (o.0, o.1, eq-eqb _ 1 o.2)

        kept : (s : ℕ) → s < n → get_or old s 0 ≡ 1 → keeps a old s ≡ true
        kept s l m =
            let o = (some-event a (is_marked old) s).0 (bit_true _ (sym (marks_at (goes_on a) n goes_on_mono s l) ∙ m)) in
            (keeps_leads a within old l).1 (once o.1 (always o.0, eqb-true _ 1 o.2))
