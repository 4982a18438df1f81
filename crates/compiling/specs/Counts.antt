-- The bytes of a file before its rules, by what the code has of the lines.
use Rattle.std.specs.Prelude.{◌≡◌, List, [], ◌∷◌, ◌++◌, length, get_or, take, drop}
use Rattle.std.proofs.Common.{ap, subst, ◌∙◌, append_assoc, length-take-le}
use Prim.Native.Nat.{ℕ, suc, ◌+◌, ◌-◌, ◌/◌, ◌%◌, ◌≤◌, ◌<◌}
use native.Mathlib.Omega.{arith}
use Rattle.std.proofs.Math.Seq.{drop-cons}
use Rattle.policy.specs.Rules.{Rule}
use Rattle.policy.specs.Bytes.{pair_bytes, pairs_bytes, counts_bytes}
use Rattle.texts.specs.Wrote.{Wrote}
use Rattle.texts.specs.WroteLaws.{wrote_then}
use Rattle.wording.specs.Reader.{policy_from}
use Rattle.declarations.specs.Table.{draft_of, Fit}
use Rattle.declarations.specs.Fresh.{spans_long}
use Rattle.declarations.specs.SignalLine.{inputs_long, outputs_long}
use Rattle.declarations.specs.declared.table.Table.{Table}

-- The file's bytes before the rules, by the code's table: inputs, outputs, clocks, locations, and the number of rules.
abbrev pub counts_of : List ℕ → Table → ℕ → List ℕ
counts_of left t count =
    (t.inputs ∷ take t.inputs t.tags) ++ (((t.signals - t.inputs) ∷ take (t.signals - t.inputs) (drop t.inputs t.tags))
    ++ ((t.clocks ∷ pairs_bytes (take t.clocks t.ceilings)) ++ ((t.places ∷ take t.places left) ++ pair_bytes count)))

-- The table has one ceiling for each clock.
pub ceilings_long : {t : Table} → Fit t → length (take t.clocks t.ceilings) ≡ t.clocks
ceilings_long {t = t} f = length-take-le t.clocks t.ceilings (omega (arith, f.clocks, f.ceilings_long))

-- These are the bytes before the rules of the policy that the lines have said.
pub counts_are : (text starts lengths left : List ℕ) {t : Table} (f : Fit t) (rules : List Rule) (count : ℕ) → length rules ≡ count →
    counts_bytes (policy_from 1 (draft_of text starts lengths left t rules)) ≡ counts_of left t count
unfolding counts_bytes policy_from
counts_are text starts lengths left {t = t} f rules count e =
    let a = inputs_long f in
    let b = outputs_long f in
    let c = ceilings_long f in
    let d = spans_long text starts lengths 12 t.places in
    (λ i.
    (a i ∷ take t.inputs t.tags) ++ ((b i ∷ take (t.signals - t.inputs) (drop t.inputs t.tags))
    ++ ((c i ∷ pairs_bytes (take t.clocks t.ceilings)) ++ ((d i ∷ take t.places left) ++ pair_bytes (e i)))))

-- Two bytes for each clock.
module _ (cs : List ℕ) (n : ℕ) where
  -- What is left to write from clock i on: two bytes for each ceiling up to the n-th.
  abbrev pub pairs_from : ℕ → List ℕ
  pairs_from i = pairs_bytes (take (n - i) (drop i cs))

  -- From clock 0 on, these are the bytes of all n ceilings.
  pub pairs_start : pairs_from 0 ≡ pairs_bytes (take n cs)
  pairs_start = let z : n - 0 ≡ n = omega arith in ap (λ (k : ℕ). pairs_bytes (take k cs)) z

  -- The ceiling of clock i, the high byte first, and then what is left from the next clock on.
  pub pairs_turn : (i : ℕ) → i < n → n ≤ length cs → {p q : ℕ} → p ≡ get_or cs i 0 / 256 → q ≡ get_or cs i 0 % 256 → pairs_from i ≡ (p ∷ q ∷ []) ++ pairs_from (i + 1)
  unfolding pairs_bytes
  pairs_turn i h b p q =
      let e : n - i ≡ suc (n - (i + 1)) = omega arith in
      let s : suc i ≡ i + 1 = omega arith in
      rw (p, q, e, drop-cons cs i 0 (omega arith), s)

  -- After the last clock no byte is left.
  pub pairs_end : (i : ℕ) → n ≤ i → pairs_from i ≡ []
  unfolding pairs_bytes
  pairs_end i h = let e : n - i ≡ 0 = omega arith in rw e

-- The five parts, one after another; the last is a number of two bytes.
pub wrote_counts : {b₀ b₁ b₂ b₃ b₄ b₅ xs bs cs ds : List ℕ} {r₁ r₂ r₃ r₄ r₅ high low : ℕ} (n : ℕ) → Wrote b₀ 0 xs r₁ b₁ → Wrote b₁ r₁ bs r₂ b₂ → Wrote b₂ r₂ cs r₃ b₃ → Wrote b₃ r₃ ds r₄ b₄ →
    Wrote b₄ r₄ (high ∷ low ∷ []) r₅ b₅ → high ≡ n / 256 → low ≡ n % 256 → Wrote b₀ 0 (xs ++ (bs ++ (cs ++ (ds ++ pair_bytes n)))) r₅ b₅
wrote_counts {b₀ = b₀} {b₅ = b₅} {xs = xs} {bs = bs} {cs = cs} {ds = ds} {r₅ = r₅} {high = high} {low = low} n a b c d e h l =
    let last : high ∷ low ∷ [] ≡ pair_bytes n = (λ i. h i ∷ l i ∷ []) in
    let zero_fits : 0 ≤ length b₀ = omega arith in
    let all = wrote_then zero_fits (wrote_then zero_fits (wrote_then zero_fits (wrote_then zero_fits a b) c) d) e in
    subst (λ (z : List ℕ). Wrote b₀ 0 z r₅ b₅) (ap (λ (z : List ℕ). (((xs ++ bs) ++ cs) ++ ds) ++ z) last ∙ regroup xs bs cs ds (pair_bytes n)) all
  where
    regroup : (xs bs cs ds es : List ℕ) → (((xs ++ bs) ++ cs) ++ ds) ++ es ≡ xs ++ (bs ++ (cs ++ (ds ++ es)))
    regroup xs bs cs ds es = simp append_assoc
