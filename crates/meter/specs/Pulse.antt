-- "Input tag P is set, before the input half, exactly when pulses is not 0": in the x that the input half is asked for P is on exactly then, and every
-- other bit is as it was read.
use Rattle.std.specs.Prelude.{◌≡◌, ℕ, zero, suc, ◌-◌, ◌^◌, ◌<◌, Bool, true, false, cond, not, ◌&&◌, List, ◌==◌, bit_and, bit_or, refl}
use Rattle.std.proofs.Common.{sym, ap, subst, ◌∙◌, arith, eqb-true}
use Rattle.std.proofs.Math.Bool.{and-eq-true_iff}
use Rattle.std.proofs.lemmas.Bool.{false≢true, eqb-false, not-true}
use Rattle.streams.specs.AnswerLaws.{none_refused, none_unless}
use Rattle.policy.specs.File.{policy_of}
use Rattle.policy.specs.Check.{refusal_under, among}
use Rattle.policy.specs.CheckLaws.{under_none}
use Rattle.policy.specs.Checked.{checked_file}
use Rattle.policy.specs.Signals.{weight_none, weight_bit}
use Rattle.meter.specs.Meter.{with_pulse, is_on}
use Rattle.meter.specs.Entries.{tag_p, tag_d, meter_refusal, weight_p}

-- In z the signal is on exactly if there are pulses, and all other bits are those of x.
pub record PulseSet (weight pulses x z : ℕ) : Type 0 where
  pub own : is_on weight z ≡ not (pulses == 0)
  pub others : bit_and z (255 - weight) ≡ bit_and x (255 - weight)

-- One test for a bit and a value. It is computed over the four bits and every byte; at each of them it is the rule.
abbrev bit_good : ℕ → ℕ → Bool
bit_good w x =
    is_on w (bit_or x w) && (not (is_on w (bit_and x (255 - w)))
    && (bit_and (bit_or x w) (255 - w) == bit_and x (255 - w) && bit_and (bit_and x (255 - w)) (255 - w) == bit_and x (255 - w)))

-- A test passes at every number below n.
abbrev every_below : (ℕ → Bool) → ℕ → Bool
every_below test zero = true
every_below test (suc n) = test n && every_below test n

every_at : (test : ℕ → Bool) (n : ℕ) → every_below test n ≡ true → (i : ℕ) → i < n → test i ≡ true
every_at test zero e i h = absurd (omega arith)
every_at test (suc n) e i h = go ((and-eq-true_iff (test n) (every_below test n)).0 e) (λ k. every_at test n k i) (i == n) refl
  where
    go : (test n ≡ true) × (every_below test n ≡ true) → (every_below test n ≡ true → i < n → test i ≡ true) → (t : Bool) → (i == n) ≡ t → test i ≡ true
    go k f true q = ap test (eqb-true i n q) ∙ k.0
    go k f false q = let l = eqb-false i n q in f k.1 (omega arith)

tested : every_below (λ i. every_below (bit_good (2 ^ i)) 256) 4 ≡ true
tested = refl

-- Each of the four input bits is so set or cleared, in every byte x.
pub pulse_set : (i : ℕ) → i < 4 → (pulses x : ℕ) → x < 256 → PulseSet (2 ^ i) pulses x (with_pulse (2 ^ i) pulses x)
unfolding with_pulse
pulse_set i h n x l = let k = go (n == 0) in record { own = k.0; others = k.1 }
  where
    w : ℕ
    w = 2 ^ i

    k : bit_good w x ≡ true
    k = every_at (bit_good w) 256 (every_at (λ j. every_below (bit_good (2 ^ j)) 256) 4 tested i h) x l

    a : (is_on w (bit_or x w) ≡ true) × (is_on w (bit_and x (255 - w)) ≡ false) × (bit_and (bit_or x w) (255 - w) ≡ bit_and x (255 - w)) × (bit_and (bit_and x (255 - w)) (255 - w) ≡ bit_and x (255 - w))
    a =
        let p = (and-eq-true_iff (is_on w (bit_or x w)) _).0 k in
        let q = (and-eq-true_iff (not (is_on w (bit_and x (255 - w)))) _).0 p.1 in
        let r = (and-eq-true_iff (bit_and (bit_or x w) (255 - w) == bit_and x (255 - w)) _).0 q.1 in
        (p.0, not-true _ q.0, eqb-true _ _ r.0, eqb-true _ _ r.1)

    go : (t : Bool) →
        let z = cond t (bit_and x (255 - w)) (bit_or x w) in (is_on w z ≡ not t) × (bit_and z (255 - w) ≡ bit_and x (255 - w))
    go true = (a.1, a.3)
    go false = (a.0, a.2)

-- So it is in every policy that is not refused before 10.
pub P-set : (reading : ℕ) (file : List ℕ) → meter_refusal reading file ≡ 0 → (pulses x : ℕ) → x < 256 →
    PulseSet (weight_p reading file) pulses x (with_pulse (weight_p reading file) pulses x)
unfolding meter_refusal
P-set reading file e n x l =
    let p = policy_of reading file in
    let k = (none_refused (refusal_under reading file) _).0 e in
    let both = (and-eq-true_iff (among tag_p p.inputs) (among tag_d p.outputs)).0 ((none_unless _ 25).0 k.1) in
    let ok = checked_file reading file ((under_none reading file).0 k.0).1 in
    let i = weight_bit tag_p p.inputs (λ z. false≢true (sym (weight_none tag_p p.inputs z) ∙ both.0)) in
    subst (λ (w : ℕ). PulseSet w n x (with_pulse w n x)) (sym i.2) (pulse_set i.0 (omega (arith, i.1, ok.inputs)) n x l)
