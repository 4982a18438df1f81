-- Laws of the lines, and what is printed and written by each way through clean.
use Rattle.std.proofs.Math.Path.{◌≡◌, refl, sym, ap}
use Rattle.std.proofs.Common.{◌∙◌, zero-add, arith, length-append, length-drop, take_at, drop-cons}
use Rattle.std.specs.Prelude.{Bool, true, false, cond, ◌&&◌, eqb, get_or}
use mathlib.Core.List.{List, [], ◌∷◌, ◌++◌}
use Prim.Native.Nat.{ℕ, zero, suc, ◌+◌, ◌*◌, ◌/◌, ◌%◌, ◌^◌, ◌≤◌, ◌<◌}
use Rattle.std.proofs.Math.Dec.{leb}
use Rattle.std.proofs.Math.ListN.{length, take, drop}
use borrow.Author.Tests.{le-leb}
use Rattle.streams.specs.Answer.{refused, gives, answer, ◌or_else◌, unless}
use Rattle.streams.specs.AnswerLaws.{given_only}
use Rattle.policy.specs.File.{pair_at, policy_of}
use Rattle.policy.specs.Check.{refusal_under}
use Rattle.policy.specs.CheckLaws.{under_none}
use Rattle.policy.specs.Frame.{frame, longest}
use Rattle.texts.specs.Text.{ascii, decimal}
use Rattle.texts.specs.Decimal.{decimal_short}
use Rattle.texts.specs.Wrote.{Wrote}
use Rattle.usage.specs.Clean.{Struck, struck_bytes}
use Rattle.cleaning.specs.Entry.{struck_of, cleaned_file, struck_list, short_refusal, clean_refusal, clean_of, cleaned_out, struck_out, written_in}
use Rattle.cleaning.specs.Promise.{CleanPromise}
use Rattle.cleaning.specs.Sizes.{room}
use Rattle.cleaning.specs.declared.Lengths.{Lengths}
use Rattle.printing.specs.Text.{refused_line, unless_refused}
use Rattle.listing.specs.Listed.{entry_line, lines, bytes_lines, left_line, none_refused, written, printed}

-- The list's bytes say the lines of its entries.
pub lines_bytes : (xs : List Struck) → bytes_lines (struck_bytes xs) ≡ lines xs
unfolding bytes_lines lines
lines_bytes [] = refl
lines_bytes (x ∷ xs) = let e : x.number / 256 * 256 + x.number % 256 ≡ x.number = omega arith in rw (e, lines_bytes xs)

-- A line is short.
pub line_short : (kind n : ℕ) → n < 10 ^ 5 → length (entry_line kind n) ≤ 66
unfolding entry_line
line_short kind n h = go (eqb kind 1) (eqb kind 2)
  where
    about : (before after : List ℕ) → length before + length after ≤ 61 → length (before ++ decimal n ++ after) ≤ 66
    about before after l = simp length-append (omega (arith, decimal_short n 4 h))

    go :
        (a b : Bool) →
        length
        (cond a (ascii "location " ++ decimal n ++ ascii ": no permitted stream from the start leads to it\n")
        (cond b (ascii "rule " ++ decimal n ++ ascii ": of such a location\n")
        (ascii "rule " ++ decimal n ++ ascii ": decides no event in any state such a stream leads to\n")))
        ≤ 66
    go true b = about (ascii "location ") (ascii ": no permitted stream from the start leads to it\n") (omega arith)
    go false true = about (ascii "rule ") (ascii ": of such a location\n") (omega arith)
    go false false = about (ascii "rule ") (ascii ": decides no event in any state such a stream leads to\n") (omega arith)

-- The lines from byte i on: one entry, and those after it; or none.
pub lines_step : (list : List ℕ) (i : ℕ) → i + 2 < length list →
    bytes_lines (drop i list) ≡ entry_line (get_or list i 0) (pair_at list (i + 1)) ++ bytes_lines (drop (i + 3) list)
unfolding bytes_lines
lines_step list i h =
    let two : i + 1 + 1 ≡ suc (suc i) = omega arith in
    let one : i + 1 ≡ suc i = omega arith in
    let three : i + 3 ≡ suc (suc (suc i)) = omega arith in
    rw (
      two,
      one,
      three,
      drop-cons list i 0 (omega arith),
      drop-cons list (suc i) 0 (omega arith),
      drop-cons list (suc (suc i)) 0 (omega arith),
    )

few_none : (bytes : List ℕ) → length bytes ≤ 2 → bytes_lines bytes ≡ []
unfolding bytes_lines
few_none [] h = refl
few_none (a ∷ []) h = refl
few_none (a ∷ b ∷ []) h = refl
few_none (a ∷ b ∷ c ∷ bytes) h = absurd (omega arith)

-- Past the last whole entry there is no line.
pub lines_end : (list : List ℕ) (i : ℕ) → length list ≤ i + 2 → bytes_lines (drop i list) ≡ []
lines_end list i h = few_none (drop i list) (rw length-drop (omega arith))

module _ (reading : ℕ) (file out list : List ℕ) (room_out : length out ≡ 5974) (room_list : length list ≡ 960) where
  -- Both slices are long enough for every policy.
  roomy : clean_refusal reading file out list ≡ refusal_under reading file
  unfolding clean_refusal short_refusal
  roomy = go (refusal_under reading file) refl
    where
      go : (n : ℕ) → refusal_under reading file ≡ n →
          (n or_else unless (leb (length (cleaned_file reading file)) (length out) && leb (length (struck_list reading file)) (length list)) 14) ≡ n
      go (suc n) e = refl
      go zero e =
          let passed = ((under_none reading file).0 e).1 in
          let m = room reading file passed in
          rw (le-leb (length (cleaned_file reading file)) (length out) (omega (arith, m.policy, longest file (frame file passed))), le-leb (length (struck_list reading file)) (length list) (omega (arith, m.list)))

  -- Clean refuses.
  pub refused_way : {n : ℕ} {out_after list_after : List ℕ} → CleanPromise reading file out list (refused n) out_after list_after →
      (printed reading file ≡ refused_line n) × (written reading file ≡ []) × (out_after ≡ out)
  unfolding printed written clean_of cleaned_out
  refused_way {n} {out_after} h = rw (← roomy) (go (clean_refusal reading file out list) _ h.said h.cleaned)
    where
      go : (k : ℕ) (l : Lengths) → refused n ≡ answer k l →
          out_after ≡ written_in k (cleaned_file reading file) out →
          (unless_refused k (lines (struck_of (policy_of reading file)) ++ left_line (length (cleaned_file reading file))) ≡ refused_line n)
          × (none_refused k (cleaned_file reading file) ≡ []) × (out_after ≡ out)
      go zero l e o = let z : ◌≡◌ {A = ℕ} 0 1 = cc in absurd (omega arith)
      go (suc k) l e o = let h : n ≡ suc k = cc in (rw h, refl, o)

  -- It gives lengths: the policy is written, and the list's lines stand in its first bytes.
  pub record GoesOut (l : Lengths) (out_after list_after : List ℕ) : Type 0 where
    pub left : Wrote out 0 (written reading file) l.cleaned out_after
    pub within : l.struck ≤ length list_after
    pub few : l.struck ≤ 957
    pub says : printed reading file ≡ bytes_lines (take l.struck list_after) ++ left_line l.cleaned

  -- Clean gives lengths: this is what is written and printed.
  pub given_way : {l : Lengths} {out_after list_after : List ℕ} → CleanPromise reading file out list (gives l) out_after list_after → GoesOut l out_after list_after
  unfolding printed written clean_of cleaned_out struck_out struck_list
  given_way {l} {out_after} {list_after} h =
      let k = given_only (clean_refusal reading file out list) _ l (sym h.said) in
      let z : refusal_under reading file ≡ 0 = sym roomy ∙ k.0 in
      let m = room reading file ((under_none reading file).0 z).1 in
      let a : length (cleaned_file reading file) ≡ l.cleaned = ap (λ (x : Lengths). x.cleaned) k.1 in
      let b : length (struck_list reading file) ≡ l.struck = ap (λ (x : Lengths). x.struck) k.1 in
      let o : out_after ≡ cleaned_file reading file ++ drop (length (cleaned_file reading file)) out = h.cleaned ∙ rw k.0 in
      let s : list_after ≡ struck_list reading file ++ drop (length (struck_list reading file)) list = h.struck ∙ rw k.0 in
      let t : take l.struck list_after ≡ struck_list reading file = rw s (take_at _ _ _ b) in record {
        left = rw z (record { text = o ∙ rw zero-add; next = sym a ∙ sym (zero-add _) });
        within = rw (s, length-append) (omega arith);
        few = omega (arith, m.list);
        says = rw (z, t, ← a) (ap (λ (bytes : List ℕ). bytes ++ left_line (length (cleaned_file reading file))) (sym (lines_bytes (struck_of (policy_of reading file)))));
      }
