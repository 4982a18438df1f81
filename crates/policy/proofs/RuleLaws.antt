-- What the proofs of the rules' functions cite: a shift of 1, and a turn of each loop. Assumes nothing.
use mathlib.Core.Path.{◌≡◌, sym, ◌∙◌}
use mathlib.Core.Bool.{Bool, true, ◌&&◌}
use mathlib.Core.List.{List}
use Prim.Native.Nat.{ℕ, suc, ◌+◌, ◌-◌, ◌*◌, ◌%◌, ◌^◌, ◌≤◌, ◌<◌}
use native.Mathlib.Nat.{one-mul, add-sub_cancel_left}
use native.Mathlib.Numerals.{add-one}
use native.Mathlib.Omega.{arith}
use lib.Dec.{lit<}
use lib.ListN.{length, get_or, take, drop, drop_of_length-le}
use lib.Pow.{shl_exact}
use lib.Seq.{take_at, drop-cons}
use Rattle.streams.specs.Answer.{◌or_else◌}
use Rattle.policy.specs.Rules.{Bound}
use Rattle.policy.specs.File.{byte_at, pair_at, bounds_from, rule_size, rule_from, rules_from}
use Rattle.policy.specs.File.{input_count, output_count, clocks_at, clock_count, location_count, rules_at, rules_start, ceilings_of, rules_of}
use Rattle.policy.specs.LayoutLaws.{ShapeOf}
use Rattle.policy.specs.declared.rules.Shape.{Shape}
use Rattle.policy.specs.Check.{bound_good, bounds_good, rule_refusal, rules_refusal}
use Rattle.policy.specs.Frame.{pairs_length}

-- `1 << k`, which the machine has as a product cut to 64 bits
pub one_shl : (k : ℕ) → k ≤ 4 → (1 * 2 ^ k) % 2 ^ 64 ≡ 2 ^ k
one_shl k l = shl_exact {a = 1} 1 k 64 (lit< tt) (omega arith) ∙ one-mul (2 ^ k)

-- ---- the bounds of a rule: those from clock i on, and the one at clock i
abbrev pub bounds_left : List ℕ → List ℕ → ℕ → Bool
bounds_left f cs i = bounds_good (drop i cs) (bounds_from f (4 * i) (length cs - i))

abbrev pub bound_at : List ℕ → ℕ → Bound
bound_at f i = record { low = pair_at f (4 * i); high = pair_at f (4 * i + 2) }

pub bounds_turn : (f cs : List ℕ) (i : ℕ) → i < length cs → bounds_left f cs i ≡ bound_good (get_or cs i 0) (bound_at f i) && bounds_left f cs (i + 1)
unfolding bounds_good bounds_from
bounds_turn f cs i h =
    let q : length cs - i ≡ suc (length cs - suc i) = omega arith in
    let s : 4 * i + 4 ≡ 4 * suc i = omega arith in rw (add-one i, drop-cons cs i 0 h, q, s)

pub bounds_end : (f cs : List ℕ) (i : ℕ) → length cs ≤ i → bounds_left f cs i ≡ true
unfolding bounds_good bounds_from
bounds_end f cs i h =
    let q : length cs - i ≡ 0 = omega arith in rw (drop_of_length-le cs h, q)

-- ---- the rules of a section
pub rules_turn : (ins outs : ℕ) (cs : List ℕ) (locs before k : ℕ) (f : List ℕ) (n i : ℕ) → i < n
    → rules_refusal ins outs cs locs before (rules_from k f (i * rule_size k) (n - i))
    ≡ (rule_refusal ins outs cs locs before (rule_from k f (i * rule_size k))
    or_else rules_refusal ins outs cs locs (byte_at f (i * rule_size k)) (rules_from k f ((i + 1) * rule_size k) (n - (i + 1))))
unfolding rules_refusal rules_from rule_from
rules_turn ins outs cs locs before k f n i h =
    let q : n - i ≡ suc (n - (i + 1)) = omega arith in
    let s : (i + 1) * rule_size k ≡ i * rule_size k + rule_size k = omega arith in rw (q, s)

-- ---- what the code hands on, by what the sections before the rules hold
pub ceilings_read : (f : List ℕ) (s : Shape) → ShapeOf f s → take s.clocks s.ceilings ≡ ceilings_of f
ceilings_read f s h =
    let l = pairs_length f (clocks_at f + 1) (clock_count f) ∙ sym h.clocks in
    rw h.ceilings (take_at (ceilings_of f) _ s.clocks l)

pub rules_read : (f : List ℕ) (s : Shape) (at n : ℕ) → at ≡ rules_at f → n ≡ pair_at f at → ShapeOf f s
    → rules_refusal s.inputs s.outputs (take s.clocks s.ceilings) s.locations 0
    (rules_from s.clocks (take (at + 2 + n * rule_size s.clocks - (at + 2)) (drop (at + 2) f)) 0 n)
    ≡ rules_refusal (input_count f) (output_count f) (ceilings_of f) (location_count f) 0 (rules_of f)
unfolding rules_start
rules_read f s at n p q h = cc (ceilings_read f s h, add-sub_cancel_left (at + 2) (n * rule_size s.clocks))
