-- The whole promise of clean under one name, and that one answer alone meets it.
use Rattle.std.specs.Prelude.{◌≡◌, List, ℕ, ◌≤◌, length}
use Rattle.std.proofs.Common.{sym, ◌∙◌}
use Rattle.streams.specs.Answer.{Answer, answer, UpTo}
use Rattle.streams.specs.AnswerLaws.{unless_le, else_le, answer_up_to}
use Rattle.policy.specs.CheckLaws.{under_le}
use Rattle.cleaning.specs.Entry as Entry
use Rattle.cleaning.specs.declared.Lengths.{Lengths}

-- `out` and `list` are what the two slices hold before, `out_after` and `list_after` what they hold then.
pub record CleanPromise (reading : ℕ) (file out list : List ℕ) (r : Answer Lengths) (out_after list_after : List ℕ) : Type 0 where
  pub said : r ≡ Entry.clean_of reading file out list
  pub cleaned : out_after ≡ Entry.cleaned_out reading file out list
  pub struck : list_after ≡ Entry.struck_out reading file out list

-- The two slices by what is to be written: both, or 14 and neither.
pub record WritesPromise (bytes entries out list : List ℕ) (r : Answer Lengths) (out_after list_after : List ℕ) : Type 0 where
  pub said : r ≡ answer (Entry.short_refusal bytes entries out list) (record { cleaned = length bytes; struck = length entries })
  pub cleaned : out_after ≡ Entry.written_in (Entry.short_refusal bytes entries out list) bytes out
  pub struck : list_after ≡ Entry.written_in (Entry.short_refusal bytes entries out list) entries list

-- The promise is met by one answer only, and by one content of each slice.
pub clean_one : {reading : ℕ} {file out list out_after out_also list_after list_also : List ℕ} {r q : Answer Lengths} →
    CleanPromise reading file out list r out_after list_after → CleanPromise reading file out list q out_also list_also →
    (r ≡ q) × (out_after ≡ out_also) × (list_after ≡ list_also)
clean_one h g = (h.said ∙ sym g.said, h.cleaned ∙ sym g.cleaned, h.struck ∙ sym g.struck)

-- No refusal is above 22.
refusal_le : (reading : ℕ) (file out list : List ℕ) → Entry.clean_refusal reading file out list ≤ 22
unfolding Entry.clean_refusal Entry.short_refusal
refusal_le reading file out list = let h = under_le reading file in search (else_le, unless_le)

-- A refusal is one of the numbers 1 to 22.
pub clean_up_to : (reading : ℕ) (file out list : List ℕ) → UpTo 22 (Entry.clean_of reading file out list)
unfolding Entry.clean_of
clean_up_to reading file out list = answer_up_to (Entry.clean_refusal reading file out list) _ (refusal_le reading file out list)
