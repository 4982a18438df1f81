-- The file of a policy is bytes.
use Rattle.std.specs.Prelude.{◌≡◌, true, List, [], ◌∷◌, ◌++◌, ◌⊎◌, ℕ, zero, suc, ◌^◌, ◌≤◌, ◌<◌, length, get_or}
use Rattle.std.proofs.Math.Bool.{and-eq-true_iff}
use Rattle.std.proofs.Common.{⊎_elim, leb-true}
use Rattle.std.proofs.Math.Nat.{pow-le-pow_right}
use native.Mathlib.Omega.{arith}
use Rattle.std.specs.Int.Bits.{and_le_r}
use Rattle.policy.specs.Rules.{Bound, Rule, Policy}
use Rattle.policy.specs.Check.{all_pass, tags_good, ceiling_good, location_good}
use Rattle.policy.specs.Bytes.{pairs_bytes, bounds_bytes, rule_bytes, rules_bytes, bytes_of}
use Rattle.policy.specs.Stopped.{AllLawful, lawful_none, lawful_more}
use Rattle.policy.specs.Sound.{WellFormed, Each, each_none, each_more, each_weak}
use Rattle.policy.specs.Checked.{Ruled, well_ruled}
use Rattle.policy.specs.ReadBack.{at_inputs, from_clocks, from_locations, from_outputs, from_rules}

-- Each element is a byte.
abbrev pub AllBytes : List ℕ → Type 0
AllBytes [] = Unit {0}
AllBytes (b ∷ bs) = (b < 256) × AllBytes bs

bytes_append : (xs ys : List ℕ) → AllBytes xs → AllBytes ys → AllBytes (xs ++ ys)
bytes_append [] ys a b = b
bytes_append (x ∷ xs) ys a b = (a.0, bytes_append xs ys a.1 b)

-- Past the end stands 0.
bytes_at : (bs : List ℕ) → AllBytes bs → (i : ℕ) → get_or bs i 0 < 256
bytes_at [] a i = omega arith
bytes_at (b ∷ bs) a zero = a.0
bytes_at (b ∷ bs) a (suc i) = bytes_at bs a.1 i

tags_bytes : (before ts : List ℕ) → tags_good before ts ≡ true → AllBytes ts
unfolding tags_good
tags_bytes before [] e = tt
tags_bytes before (t ∷ ts) e =
    let good = simp and-eq-true_iff at e in
    (omega (arith, leb-true), tags_bytes (before ++ (t ∷ [])) ts good.1.1)

ceilings_bytes : (cs : List ℕ) → all_pass ceiling_good cs ≡ true → AllBytes (pairs_bytes cs)
unfolding all_pass pairs_bytes
ceilings_bytes [] e = tt
ceilings_bytes (c ∷ cs) e =
    let good = simp and-eq-true_iff at e in
    (omega (arith, leb-true), (omega arith, ceilings_bytes cs good.1))

left_bytes : (bs : List ℕ) → all_pass location_good bs ≡ true → AllBytes bs
unfolding all_pass
left_bytes [] e = tt
left_bytes (b ∷ bs) e =
    let good = simp and-eq-true_iff at e in
    (omega (arith, leb-true), left_bytes bs good.1)

-- A target, or a high: below a limit, or the one number that has a meaning of its own.
below_or_at : {n limit own : ℕ} → limit ≤ own → (n < limit) ⊎ (n ≡ own) → n ≤ own
below_or_at h = ⊎_elim (λ l. omega arith) (λ e. omega arith)

bounds-bytes : {cs : List ℕ} {bs : List Bound} → all_pass ceiling_good cs ≡ true → AllLawful cs bs → AllBytes (bounds_bytes bs)
unfolding all_pass bounds_bytes
bounds-bytes e lawful_none = tt
bounds-bytes e (lawful_more {c = c} {b = b} l ls) =
    let ceiling = simp and-eq-true_iff at e in
    let limit : c ≤ 1001 = omega (arith, leb-true) in
    let high : b.high ≤ 65535 = below_or_at (omega arith) l.high in
    (omega arith, (omega arith, (omega arith, (omega arith, bounds-bytes ceiling.1 ls))))

rules-bytes : {rs : List Rule} → Each (λ r. AllBytes (rule_bytes r)) rs → AllBytes (rules_bytes rs)
unfolding rules_bytes
rules-bytes each_none = tt
rules-bytes (each_more {r = r} {rs = rs} b bs) = bytes_append (rule_bytes r) (rules_bytes rs) b (rules-bytes bs)

-- A mask of at most four signals or clocks.
mask_small : (n : ℕ) → n ≤ 4 → 2 ^ n ≤ 16
mask_small n h = pow-le-pow_right (omega arith) h

module _ (p : Policy) (w : WellFormed p) where
  rule-bytes : (r : Rule) → Ruled (length p.inputs) (length p.outputs) p.ceilings p.locations r → AllBytes (rule_bytes r)
  unfolding rule_bytes
  rule-bytes r q =
      let in_value : r.in_value ≤ r.in_care = omega (arith, and_le_r r.in_value r.in_care) in
      let out_value : r.out_value ≤ r.out_care = omega (arith, and_le_r r.out_value r.out_care) in
      let target = below_or_at (omega arith) q.formed.target in
      let inputs = mask_small _ w.inputs in
      let outputs = mask_small _ w.outputs in
      let clocks = mask_small _ w.clocks in
      (omega arith, (omega arith, (omega arith, (omega arith, (omega arith, (omega arith, (omega arith, bounds-bytes w.ceilings q.lawful)))))))

  -- The file of a well-formed policy consists of bytes.
  pub all_bytes : AllBytes (bytes_of p)
  all_bytes =
      let rules = rules-bytes (each_weak rule-bytes (well_ruled p w)) in
      let locations = bytes_append p.left (from_rules p) (left_bytes p.left w.left) (omega arith, (omega arith, rules)) in
      let clocks = bytes_append (pairs_bytes p.ceilings) (from_locations p) (ceilings_bytes p.ceilings w.ceilings) (omega arith, locations) in
      let outputs = bytes_append p.outputs (from_clocks p) (tags_bytes p.inputs p.outputs w.output_tags) (omega arith, clocks) in
      let inputs = bytes_append p.inputs (from_outputs p) (tags_bytes [] p.inputs w.input_tags) (omega arith, outputs) in
      rw (at_inputs p) (omega arith, inputs)

  -- Each element of it is below 256; past the end stands 0.
  pub bytes_are_bytes : (i : ℕ) → get_or (bytes_of p) i 0 < 256
  bytes_are_bytes = bytes_at (bytes_of p) all_bytes
