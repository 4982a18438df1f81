-- The call for cleaning: what it returns and leaves in the two slices lent, that one answer alone meets it, and that it comes back from its word.
use Rattle.std.specs.Prelude.{◌≡◌, refl, List, ℕ, zero, suc, ◌+◌, ◌*◌, ◌/◌, ◌%◌, ◌<◌}
use Rattle.std.proofs.Common.{sym, ◌∙◌, arith}
use Rattle.streams.specs.Answer.{Answer, refused, gives, answer, UpTo}
use Rattle.cleaning.specs.Entry.{clean_of, cleaned_out, struck_out}
use Rattle.cleaning.specs.declared.Lengths.{Lengths}
use Rattle.cleaning.specs.Promise.{clean_up_to}
use Rattle.cleaning.specs.Short.{Few, lengths_few}

-- The length of the policy from bit 8 on, and that of the list from bit 32 on.
abbrev pub lengths_word : Answer Lengths → ℕ
lengths_word (refused n) = n
lengths_word (gives l) = l.cleaned * 256 + l.struck * 4294967296

-- The word that cleaning returns.
unfoldable pub clean_word : ℕ → (file out list : List ℕ) → ℕ
clean_word reading file out list = lengths_word (clean_of reading file out list)

-- `out_after` and `list_after` are what the slices for the policy and for the list hold then.
pub record CleanCall (reading : ℕ) (file out list : List ℕ) (r : ℕ) (out_after list_after : List ℕ) : Type 0 where
  pub said : r ≡ clean_word reading file out list
  pub cleaned : out_after ≡ cleaned_out reading file out list
  pub struck : list_after ≡ struck_out reading file out list

-- One answer alone meets `CleanCall`, and one later content of each slice.
pub clean_one : {reading : ℕ} {file out list out_after out_also list_after list_also : List ℕ} {r q : ℕ} →
    CleanCall reading file out list r out_after list_after → CleanCall reading file out list q out_also list_also →
    (r ≡ q) × (out_after ≡ out_also) × (list_after ≡ list_also)
clean_one h g = (h.said ∙ sym g.said, h.cleaned ∙ sym g.cleaned, h.struck ∙ sym g.struck)

-- The answer that a word holds, as the header's macros read it.
abbrev pub lengths_in : ℕ → Answer Lengths
lengths_in w = answer (w % 256) (record { cleaned = w / 256 % 16777216; struck = w / 4294967296 })

lengths_back : (a : Answer Lengths) (k : ℕ) → k < 256 → UpTo k a → ((l : Lengths) → a ≡ gives l → Few l) → lengths_in (lengths_word a) ≡ a
lengths_back (refused zero) k l h f = absurd (omega arith)
lengths_back (refused (suc n)) k l h f = let e : suc n % 256 ≡ suc n = omega arith in rw e
lengths_back (gives s) k l h f =
    let g = f s refl in
    let w = s.cleaned * 256 + s.struck * 4294967296 in
    let z : w % 256 ≡ 0 = omega arith in
    let u : w / 256 ≡ s.cleaned + s.struck * 16777216 = omega arith in
    let a : (s.cleaned + s.struck * 16777216) % 16777216 ≡ s.cleaned = omega (arith, g.cleaned) in
    let b : w / 4294967296 ≡ s.struck = omega (arith, g.cleaned) in rw (z, u, a, b)

-- The answer of cleaning comes back from its word.
pub clean_fields : (reading : ℕ) (file out list : List ℕ) → lengths_in (clean_word reading file out list) ≡ clean_of reading file out list
unfolding clean_word
clean_fields reading file out list = lengths_back (clean_of reading file out list) 22 (omega arith) (clean_up_to reading file out list) (lengths_few reading file out list)
