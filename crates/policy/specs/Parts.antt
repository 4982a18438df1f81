-- Rules read within a part of the file, and some of the rules.
use Rattle.std.specs.Prelude.{◌≡◌, List, [], ◌∷◌, take, drop}
use Rattle.std.proofs.Math.Path.{refl}
use Rattle.std.proofs.Common.{ap, ap₂, ◌∙◌, arith, get_or-drop, get_or-take}
use Prim.Native.Nat.{ℕ, zero, suc, ◌+◌, ◌-◌, ◌*◌, ◌≤◌, ◌<◌}
use Rattle.policy.specs.Rules.{Rule}
use Rattle.policy.specs.File.{byte_at, pair_at, part, bounds_from, rule_size, rule_from, rules_from}

-- What is read within a part of the file is what stands there in the file: at i in the part, at j in the file.
module _ (f : List ℕ) (at len : ℕ) where
  -- A byte within the part is that byte of the file.
  pub byte_part : (i j : ℕ) → at + i ≡ j → i < len → byte_at (part f at len) i ≡ byte_at f j
  byte_part i j e h = get_or-take len (drop at f) i 0 h ∙ get_or-drop at f i 0 ∙ ap (byte_at f) e

  -- A two-byte number within the part is that number of the file.
  pub pair_part : (i j : ℕ) → at + i ≡ j → i + 2 ≤ len → pair_at (part f at len) i ≡ pair_at f j
  pair_part i j e h = ap₂ (λ (a b : ℕ). a * 256 + b) (byte_part i j e (omega arith)) (byte_part (i + 1) (j + 1) (omega arith) (omega arith))

  -- Bounds within the part are those bounds of the file.
  pub bounds_part : (i j n : ℕ) → at + i ≡ j → i + 4 * n ≤ len → bounds_from (part f at len) i n ≡ bounds_from f j n
  unfolding bounds_from
  bounds_part i j zero e h = refl
  bounds_part i j (suc n) e h =
      let low = pair_part i j e (omega arith) in
      let high = pair_part (i + 2) (j + 2) (omega arith) (omega arith) in
      let rest = bounds_part (i + 4) (j + 4) n (omega arith) (omega arith) in
      λ d. record { low = low d; high = high d } ∷ rest d

  -- A rule within the part is that rule of the file.
  pub rule_part : (clocks i j : ℕ) → at + i ≡ j → i + rule_size clocks ≤ len → rule_from clocks (part f at len) i ≡ rule_from clocks f j
  unfolding rule_from
  rule_part clocks i j e h =
      let byte : (n : ℕ) → n < 7 → byte_at (part f at len) (i + n) ≡ byte_at f (j + n) = λ n l. byte_part (i + n) (j + n) (omega arith) (omega arith) in
      λ d.
      record {
        source = byte_part i j e (omega arith) d;
        in_care = byte 1 (omega arith) d;
        in_value = byte 2 (omega arith) d;
        out_care = byte 3 (omega arith) d;
        out_value = byte 4 (omega arith) d;
        reset = byte 5 (omega arith) d;
        target = byte 6 (omega arith) d;
        bounds = bounds_part (i + 7) (j + 7) clocks (omega arith) (omega arith) d;
      }

  -- Rules within the part, from any place in it, are those rules of the file.
  pub rules_within : (clocks i j n : ℕ) → at + i ≡ j → i + n * rule_size clocks ≤ len → rules_from clocks (part f at len) i n ≡ rules_from clocks f j n
  unfolding rules_from
  rules_within clocks i j zero e h = refl
  rules_within clocks i j (suc n) e h =
      let first = rule_part clocks i j e (omega arith) in
      let rest = rules_within clocks (i + rule_size clocks) (j + rule_size clocks) n (omega arith) (omega arith) in
      λ d. first d ∷ rest d

-- The part of the file that holds n rules reads as those n rules.
pub rules_part : (f : List ℕ) (clocks at n : ℕ) → rules_from clocks (part f at (n * rule_size clocks)) 0 n ≡ rules_from clocks f at n
rules_part f clocks at n = rules_within f at (n * rule_size clocks) clocks 0 at n (omega arith) (omega arith)

-- The first j of n rules are the j rules from the same position on.
pub rules_take : (clocks : ℕ) (f : List ℕ) (at j n : ℕ) → j ≤ n → take j (rules_from clocks f at n) ≡ rules_from clocks f at j
unfolding rules_from
rules_take clocks f at zero n h = refl
rules_take clocks f at (suc j) zero h = absurd (omega arith)
rules_take clocks f at (suc j) (suc n) h = ap (λ (z : List Rule). rule_from clocks f at ∷ z) (rules_take clocks f (at + rule_size clocks) j n (omega arith))

-- The rules after the first j stand where those end.
pub rules_drop : (clocks : ℕ) (f : List ℕ) (at j n : ℕ) → j ≤ n → drop j (rules_from clocks f at n) ≡ rules_from clocks f (at + j * rule_size clocks) (n - j)
unfolding rules_from
rules_drop clocks f at zero n h =
    let e : n ≡ n - 0 = omega arith in
    let a : at ≡ at + 0 * rule_size clocks = omega arith in
    ap₂ (rules_from clocks f) a e
rules_drop clocks f at (suc j) zero h = absurd (omega arith)
rules_drop clocks f at (suc j) (suc n) h =
    let e : n - j ≡ suc n - suc j = omega arith in
    let a : at + rule_size clocks + j * rule_size clocks ≡ at + suc j * rule_size clocks = omega arith in
    rules_drop clocks f (at + rule_size clocks) j n (omega arith) ∙ ap₂ (rules_from clocks f) a e

-- The rules from the number i on: the first, and those after it.
pub next_rule : (clocks : ℕ) (f : List ℕ) (at n i : ℕ) → i < n →
    rules_from clocks f at (n - i) ≡ rule_from clocks f at ∷ rules_from clocks f (at + rule_size clocks) (n - (i + 1))
unfolding rules_from
next_rule clocks f at n i h = let e : n - i ≡ suc (n - (i + 1)) = omega arith in rw e

-- From the number n on there is no rule.
pub no_rule : (clocks : ℕ) (f : List ℕ) (at n i : ℕ) → n ≤ i → rules_from clocks f at (n - i) ≡ []
unfolding rules_from
no_rule clocks f at n i h = let e : n - i ≡ 0 = omega arith in rw e
