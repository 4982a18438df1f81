-- The whole promise of the writer, and that one answer alone meets it.
use Rattle.std.specs.Prelude.{◌≡◌, refl, Result, Ok, Err, List, ◌++◌, length, take, drop}
use Rattle.std.proofs.Common.{ap, sym, ◌∙◌, arith}
use Prim.Native.Nat.{ℕ, zero, suc, ◌+◌, ◌≤◌, ◌<◌}
use borrow.Author.Tests.{le-leb, lt-leb}
use Rattle.refusals.specs.Refused.{number_of}
use Rattle.refusals.specs.declared.Refusal.{Refusal}
use Rattle.policy.specs.Check.{refusal_of}
use Rattle.policy.specs.Layout.{CheckPromise, checked_of, checked_said, layout_of}
use Rattle.policy.specs.LayoutLaws.{checked_says}
use Rattle.policy.specs.Layout.{Checked}
use Rattle.policy.specs.declared.Layout.{Layout}
use Rattle.texts.specs.Wrote.{Wrote}
use Rattle.texts.specs.WroteLaws.{wrote_front}
use Rattle.wording.specs.Writer.{text_of_file}
use Rattle.showing.specs.Entry.{written_over, length_unless, write_refusal}

-- In 01's numbers: a refusal, or 0 and the length written.
pub record Written : Type 0 where
  pub refusal : ℕ
  pub length : ℕ

-- What a length or a refusal says, as an answer of the writer.
abbrev pub written_said : Result ℕ Refusal → Written
written_said (Ok n) = record { refusal = 0; length = n }
written_said (Err r) = record { refusal = number_of r; length = 0 }

-- What the writer answers, and what its slice holds `before` and `after`.
pub record WriteTextPromise (file before : List ℕ) (r : Written) (after : List ℕ) : Type 0 where
  pub refuses : r.refusal ≡ write_refusal file before
  pub long : r.length ≡ length_unless (write_refusal file before) (length (text_of_file file))
  pub writes : after ≡ written_over (text_of_file file) before (write_refusal file before)

-- One answer and one later slice alone meet the promise.
pub write_one : {file before after other : List ℕ} {r s : Written} → WriteTextPromise file before r after → WriteTextPromise file before s other → (r ≡ s) × (after ≡ other)
write_one {r = r} {s = s} w v =
    let refusal : r.refusal ≡ s.refusal = w.refuses ∙ sym v.refuses in
    let length : r.length ≡ s.length = w.long ∙ sym v.long in
    (λ i. record { refusal = refusal i; length = length i }, w.writes ∙ sym v.writes)

-- What the check says.
pub check_says : {f : List ℕ} {r : Checked} → CheckPromise f r → (r.refusal ≡ refusal_of f) × (refusal_of f ≡ 0 → r.layout ≡ layout_of 1 f)
check_says {f} {r} k =
    let said = checked_says f in
    (ap (λ (c : Checked). c.refusal) k.said ∙ said.0, λ h. ap (λ (c : Checked). c.layout) k.said ∙ said.1 h)

-- A layout that the check gives is the file's, which passes.
pub passed_says : (f : List ℕ) {l : Layout} → checked_said (Ok l) ≡ checked_of f → (refusal_of f ≡ 0) × (l ≡ layout_of 1 f)
passed_says f e =
    let says = checked_says f in
    let none = sym says.0 ∙ sym (ap (λ (c : Checked). c.refusal) e) in
    (none, ap (λ (c : Checked). c.layout) e ∙ says.1 none)

-- A refusal that it gives is the file's.
pub refused_says : (f : List ℕ) (d : Refusal) → checked_said (Err d) ≡ checked_of f → number_of d ≡ refusal_of f
refused_says f d e = ap (λ (c : Checked). c.refusal) e ∙ (checked_says f).0

-- The ways out.
module _ (f before : List ℕ) where
  refused_by : (n : ℕ) → write_refusal f before ≡ n → (n ≡ 0 → ⊥) → WriteTextPromise f before (record { refusal = n; length = 0 }) before
  refused_by zero e h = absurd (h refl)
  refused_by (suc n) e h = record { refuses = sym e; long = rw e; writes = rw e }

  none_first : (n : ℕ) → refusal_of f ≡ n → (n ≡ 0 → ⊥) → write_refusal f before ≡ n
  unfolding write_refusal
  none_first zero e h = absurd (h refl)
  none_first (suc n) e h = rw e

  -- A file that does not pass is refused by its number, and nothing is written.
  pub write_refused : {n : ℕ} → n ≡ refusal_of f → (n ≡ 0 → ⊥) → WriteTextPromise f before (record { refusal = n; length = 0 }) before
  write_refused {n} e h = refused_by n (none_first n (sym e) h) h

  short : refusal_of f ≡ 0 → length before < length (text_of_file f) → write_refusal f before ≡ 14
  unfolding write_refusal
  short e h = rw (e, lt-leb (length (text_of_file f)) (length before) h)

  fits : refusal_of f ≡ 0 → length (text_of_file f) ≤ length before → write_refusal f before ≡ 0
  unfolding write_refusal
  fits e h = rw (e, le-leb (length (text_of_file f)) (length before) h)

  -- A slice that is too short is refused by 14, and nothing is written.
  pub write_short : refusal_of f ≡ 0 → length before < length (text_of_file f) → WriteTextPromise f before (record { refusal = 14; length = 0 }) before
  write_short e h = refused_by 14 (short e h) (λ z. omega arith)

  -- Where the text fits, it is written whole.
  pub write_whole : refusal_of f ≡ 0 → length (text_of_file f) ≤ length before → {r : ℕ} {after : List ℕ} → Wrote before 0 (text_of_file f) r after →
      WriteTextPromise f before (record { refusal = 0; length = r }) after
  write_whole e h {r} {after} w =
      let none = fits e h in
      let z : 0 + length (text_of_file f) ≡ length (text_of_file f) = omega arith in
      record {
        refuses = sym none;
        long = rw none (w.next ∙ z);
        writes = rw none (w.text ∙ ap (λ (n : ℕ). text_of_file f ++ drop n before) z);
      }

-- What was written into the scratch from its start on.
pub front_is : {before after bytes : List ℕ} {r : ℕ} → Wrote before 0 bytes r after → take r after ≡ bytes
front_is w = wrote_front (omega arith) w
