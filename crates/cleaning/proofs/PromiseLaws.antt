-- What the proofs of the entry cite: each answer, and what the slices hold then.
use mathlib.Core.Path.{◌≡◌, refl, ◌∙◌}
use mathlib.Core.List.{List, ◌++◌}
use Prim.Native.Nat.{ℕ, zero, suc, ◌+◌, ◌≤◌, ◌<◌}
use native.Mathlib.Omega.{arith}
use lib.ListN.{length, drop}
use lib.Seq.{sets-eq}
use borrow.Author.Tests.{le-leb, lt-leb}
use Rattle.streams.specs.Answer.{Answer, refused, gives}
use Rattle.refusals.specs.Refused.{number_of}
use Rattle.refusals.specs.Laws.{number_above, refused_first, refused_answer}
use Rattle.refusals.specs.declared.Refusal.{Refusal}
use Rattle.policy.specs.File.{policy_of}
use Rattle.policy.specs.Check.{refusal_under}
use Rattle.policy.specs.declared.Layout.{Layout}
use Rattle.laying.specs.Lay.{LaidAt}
use Rattle.usage.specs.Flags.{entered_flags, used_flags}
use Rattle.cleaning.specs.Entry.{short_refusal, cleaned_of, struck_of, cleaned_file, struck_list, clean_refusal, clean_of, cleaned_out, struck_out, written_in}
use Rattle.cleaning.specs.Promise.{CleanPromise, WritesPromise}
use Rattle.usage.specs.Code.{flags_of, cleaned_by, struck_by}
use Rattle.cleaning.specs.declared.Lengths.{Lengths}

-- Bytes laid from the start of a slice that has room for them.
pub laid_front : {xs l m : List ℕ} {i : ℕ} → length xs ≤ length l → LaidAt xs l 0 m i → m ≡ xs ++ drop (length xs) l
laid_front {xs} {l} h g = let z : 0 + length xs ≡ length xs = omega arith in g.lies ∙ sets-eq xs l 0 (omega arith) ∙ rw z

module _ (bytes entries out list : List ℕ) where
  refuses : short_refusal bytes entries out list ≡ 14 → WritesPromise bytes entries out list (refused 14) out list
  refuses e = record { said = rw e; cleaned = rw e; struck = rw e }

  pub writes_first : length out < length bytes → WritesPromise bytes entries out list (refused 14) out list
  unfolding short_refusal
  writes_first h = refuses (rw (lt-leb (length bytes) (length out) h))

  pub writes_second : length bytes ≤ length out → length list < length entries → WritesPromise bytes entries out list (refused 14) out list
  unfolding short_refusal
  writes_second h g = refuses (rw (le-leb (length bytes) (length out) h, lt-leb (length entries) (length list) g))

  pub writes_both : length bytes ≤ length out → length entries ≤ length list → {a b : ℕ} → a ≡ length bytes → b ≡ length entries →
      {o m : List ℕ} {i j : ℕ} → LaidAt bytes out 0 o i → LaidAt entries list 0 m j → WritesPromise bytes entries out list (gives (record { cleaned = a; struck = b })) o m
  unfolding short_refusal
  writes_both h g a b x y =
      let e : short_refusal bytes entries out list ≡ 0 = rw (le-leb (length bytes) (length out) h, le-leb (length entries) (length list) g) in
      record { said = rw (e, a, b); cleaned = rw e (laid_front h x); struck = rw e (laid_front g y) }

unwritten : (bytes out : List ℕ) (n : ℕ) → 0 < n → out ≡ written_in n bytes out
unwritten bytes out zero h = absurd (omega arith)
unwritten bytes out (suc n) h = refl

module _ (reading : ℕ) (file out list : List ℕ) where
  -- 22 or 1 to 9 is the answer, and nothing is written.
  pub clean_refused : (r : Refusal) → refusal_under reading file ≡ number_of r → CleanPromise reading file out list (refused (number_of r)) out list
  unfolding clean_of cleaned_out struck_out clean_refusal
  clean_refused r e = record {
    said = rw (e, refused_first, refused_answer);
    cleaned = rw (e, refused_first) (unwritten _ out (number_of r) (number_above r));
    struck = rw (e, refused_first) (unwritten _ list (number_of r) (number_above r));
  }

  -- Past those, 14 is left to ask.
  pub clean_past : refusal_under reading file ≡ 0 → {r : Answer Lengths} {o m : List ℕ} → WritesPromise (cleaned_file reading file) (struck_list reading file) out list r o m →
      CleanPromise reading file out list r o m
  unfolding clean_of cleaned_out struck_out clean_refusal
  clean_past z w = record { said = rw z w.said; cleaned = rw z w.cleaned; struck = rw z w.struck }

-- What is written by the flags of the definitions.
module _ (f : List ℕ) (l : Layout) (entered used : List ℕ) {reading : ℕ} (r : l.reading ≡ reading)
    (e : flags_of entered ≡ entered_flags (policy_of reading f)) (u : flags_of used ≡ used_flags (policy_of reading f)) where
  pub cleaned_is : cleaned_by f l entered used ≡ cleaned_file reading f
  unfolding cleaned_by cleaned_file cleaned_of
  cleaned_is = rw (r, e, u)

  pub struck_is : struck_by f l entered used ≡ struck_list reading f
  unfolding struck_by struck_list struck_of
  struck_is = rw (r, e, u)
