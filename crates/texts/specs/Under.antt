-- A text that is being written, part by part.
use Rattle.std.specs.Prelude.{◌≡◌, refl, List, [], ◌++◌, ℕ, ◌+◌, ◌≤◌, length}
use Rattle.std.proofs.Common.{sym, ap, subst, ◌∙◌, append_assoc, append-nil, arith, length-append}
use Rattle.texts.specs.Wrote.{Wrote}
use Rattle.texts.specs.WroteLaws.{wrote_none, wrote_then}

-- Of all that is to stand from `at` on, what comes before `rest` stands there, and `next` is the position after it.
pub record LinesUnder (before : List ℕ) (at : ℕ) (all : List ℕ) (next : ℕ) (now : List ℕ) (rest : List ℕ) : Type 0 where
  pub done : List ℕ
  pub wrote : Wrote before at done next now
  pub whole : all ≡ done ++ rest
  pub same : length now ≡ length before

-- Nothing is written yet.
pub under_start : (before : List ℕ) (at : ℕ) (all : List ℕ) → LinesUnder before at all at before all
under_start before at all = record { done = []; wrote = wrote_none before at; whole = refl; same = refl }

-- A part more is written.
pub under_on : {before : List ℕ} {at : ℕ} {all : List ℕ} {next : ℕ} {now rest piece more : List ℕ} {r : ℕ} {after : List ℕ} → at ≤ length before →
    LinesUnder before at all next now rest → rest ≡ piece ++ more → Wrote now next piece r after → length after ≡ length now →
    LinesUnder before at all r after more
under_on {piece = piece} {more = more} h u e w l =
    record {
      done = u.done ++ piece;
      wrote = wrote_then h u.wrote w;
      whole = u.whole ∙ ap (λ (z : List ℕ). u.done ++ z) e ∙ sym (append_assoc u.done piece more);
      same = l ∙ u.same;
    }

module _ {before : List ℕ} {at : ℕ} {all : List ℕ} (room : at + length all ≤ length before) {next : ℕ} {now rest : List ℕ}
    (u : LinesUnder before at all next now rest) where
  -- There is room for the next part.
  pub under_room : (piece more : List ℕ) → rest ≡ piece ++ more → next + length piece ≤ length now
  under_room piece more e =
      omega (arith, u.wrote.next, u.same, ap length u.whole, length-append u.done rest, ap length e, length-append piece more)

  -- It is written.
  pub under_more : {piece more : List ℕ} {r : ℕ} {after : List ℕ} → rest ≡ piece ++ more → Wrote now next piece r after → length after ≡ length now →
      LinesUnder before at all r after more
  under_more e w l = under_on (omega arith) u e w l

-- Nothing is left.
pub under_all : {before : List ℕ} {at : ℕ} {all : List ℕ} {next : ℕ} {now rest : List ℕ} → LinesUnder before at all next now rest → rest ≡ [] →
    Wrote before at all next now
under_all {before} {at} {all} {next} {now} u e =
    subst (λ (z : List ℕ). Wrote before at z next now) (sym (u.whole ∙ ap (λ (z : List ℕ). u.done ++ z) e ∙ append-nil u.done)) u.wrote
