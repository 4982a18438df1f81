-- How the lines of an event are read: inputs, then outputs.
-- In order: what is shown of values; what two events differ in; checked signals and events that fit them; `read_event`, that what it reads stands there,
-- and that what stands there is read; the same at time 0.
use Rattle.std.specs.Prelude.{◌≡◌, refl, Bool, true, false, cond, ℕ, zero, suc, ◌+◌, ◌-◌, ◌*◌, ◌/◌, ◌%◌, ◌^◌, ◌≤◌, ◌<◌, eqb}
use Rattle.std.proofs.Common.{sym, ap, ◌∙◌, mod-eq_of_lt, eqb-true}
use mathlib.Core.List.{List, [], ◌∷◌, ◌++◌, append_assoc}
use native.Mathlib.Omega.{arith}
use Rattle.std.proofs.Math.Nat.{pow-le-pow_right}
use Rattle.std.proofs.Math.Arith.{bin_ind}
use Rattle.std.specs.Int.Bits.{differ, bit_and, bit_xor, and_step, and_mod, and_shr, xor_step, xor_zero_l, xor_zero_r}
use Rattle.std.proofs.lemmas.Nat.{and_mask, xor_mod, xor_shr, xor_lt}
use Rattle.std.proofs.Math.ListN.{length}
use Rattle.policy.specs.Check.{among}
use Rattle.drawing.specs.Wave.{value_lines, event_lines}
use Rattle.drawing.specs.Values.{LinesThere, read_lines, lines_sound, lines_bound, lines_complete, Apart, Distinct, NoneOf, second_apart}

-- Of the values only those shown make a difference.
values_shown : (tags : List ℕ) (shown values : ℕ) → value_lines tags shown (bit_and values shown) ≡ value_lines tags shown values
unfolding value_lines
values_shown [] shown values = refl
values_shown (tag ∷ tags) shown values =
    let h : bit_and values shown / 2 ≡ bit_and (values / 2) (shown / 2) = omega (arith, and_step values shown) in
    rw h (go (eqb (shown % 2) 1) refl (values_shown tags (shown / 2) (values / 2)))
  where
    go : (t : Bool) → eqb (shown % 2) 1 ≡ t → value_lines tags (shown / 2) (bit_and (values / 2) (shown / 2)) ≡ value_lines tags (shown / 2) (values / 2) →
        cond t ((48 + bit_and values shown % 2) ∷ tag ∷ 10 ∷ []) [] ++ value_lines tags (shown / 2) (bit_and (values / 2) (shown / 2))
        ≡ cond t ((48 + values % 2) ∷ tag ∷ 10 ∷ []) [] ++ value_lines tags (shown / 2) (values / 2)
    go false e more = more
    go true e more =
        let one : shown % 2 ≡ 1 = eqb-true _ _ e in
        let b : bit_and values shown % 2 ≡ values % 2 = omega (arith, and_step values shown) in
        rw (b, more)

-- Ones past the signals make no difference.
all_shown : (tags : List ℕ) (k values : ℕ) → length tags ≤ k → value_lines tags (2 ^ k - 1) values ≡ value_lines tags (2 ^ length tags - 1) values
unfolding value_lines
all_shown [] k values h = refl
all_shown (tag ∷ tags) zero values h = absurd (omega arith)
all_shown (tag ∷ tags) (suc k) values h =
    let p = pow-le-pow_right {n = 2} (omega arith) {i = 0} {j = k} (omega arith) in
    let q = pow-le-pow_right {n = 2} (omega arith) {i = 0} {j = length tags} (omega arith) in
    let a : (2 ^ suc k - 1) % 2 ≡ 1 = omega arith in
    let b : (2 ^ suc (length tags) - 1) % 2 ≡ 1 = omega arith in
    let c : (2 ^ suc k - 1) / 2 ≡ 2 ^ k - 1 = omega arith in
    let d : (2 ^ suc (length tags) - 1) / 2 ≡ 2 ^ length tags - 1 = omega arith in
    rw (a, b, c, d, all_shown tags k (values / 2) (omega arith))

-- What two numbers differ in, taken from one of them, gives the other.
differ_bit : (x y : ℕ) → x < 2 → y < 2 → (differ x y < 2) × (differ x (differ x y) ≡ y)
differ_bit zero y h l = (l, refl)
differ_bit (suc zero) zero h l = (omega arith, refl)
differ_bit (suc zero) (suc zero) h l = (omega arith, refl)
differ_bit (suc zero) (suc (suc y)) h l = absurd (omega arith)
differ_bit (suc (suc x)) y h l = absurd (omega arith)

-- What two numbers differ in, changed in the one, gives the other.
pub xor_back : (a b : ℕ) → bit_xor a (bit_xor a b) ≡ b
xor_back = bin_ind (λ (a : ℕ). (b : ℕ) → bit_xor a (bit_xor a b) ≡ b) (λ b. xor_zero_l b) step
  where
    step : (a : ℕ) → ((b : ℕ) → bit_xor (a / 2) (bit_xor (a / 2) b) ≡ b) → (b : ℕ) → bit_xor a (bit_xor a b) ≡ b
    step a half b =
        let d = differ_bit (a % 2) (b % 2) (omega arith) (omega arith) in
        let h : bit_xor a b / 2 ≡ bit_xor (a / 2) (b / 2) = omega (arith, xor_step a b) in
        let l : bit_xor a b % 2 ≡ differ (a % 2) (b % 2) = omega (arith, xor_step a b) in
        xor_step a (bit_xor a b) ∙ rw (h, l, half (b / 2), d.1) (omega arith)

-- Where two numbers differ in nothing they are the same.
pub xor_none : (a b : ℕ) → bit_xor a b ≡ 0 → a ≡ b
xor_none a b e = sym (xor_zero_r a) ∙ ap (bit_xor a) (sym e) ∙ xor_back a b

-- What the check has shown of the signals: at most four of each kind, no tag below the letter A, no tag twice.
pub record SignalsGood (inputs outputs : List ℕ) : Type 0 where
  pub few_in : length inputs ≤ 4
  pub few_out : length outputs ≤ 4
  pub capital_in : (b : ℕ) → b < 65 → among b inputs ≡ false
  pub capital_out : (b : ℕ) → b < 65 → among b outputs ≡ false
  pub distinct_in : Distinct inputs
  pub distinct_out : Distinct outputs
  pub apart : NoneOf inputs outputs

-- No bit is beyond the signals.
pub record EventFits (inputs outputs : List ℕ) (event : ℕ) : Type 0 where
  pub x : event % 16 < 2 ^ length inputs
  pub y : event / 16 < 2 ^ length outputs

-- Up to four signals have at least 1 and at most 16 values.
pub few_values : (tags : List ℕ) → length tags ≤ 4 → (0 < 2 ^ length tags) × (2 ^ length tags ≤ 16)
few_values tags h =
    let p = pow-le-pow_right {n = 2} (omega arith) {i = 0} {j = length tags} (omega arith) in
    (omega arith, pow-le-pow_right {n = 2} (omega arith) {i = length tags} {j = 4} h)

module _ (inputs outputs : List ℕ) where
  -- A one for each signal.
  abbrev pub every_signal : ℕ
  every_signal = 2 ^ length inputs - 1 + 16 * (2 ^ length outputs - 1)

  abbrev both_lines : LinesThere → LinesThere → LinesThere
  both_lines l m = record { shown = l.shown + 16 * m.shown; values = l.values + 16 * m.values; rest = m.rest }

  -- The lines of the inputs, then those of the outputs, read from the front of a text.
  unfoldable pub read_event : List ℕ → LinesThere
  read_event text = both_lines (read_lines inputs text) (read_lines outputs (read_lines inputs text).rest)

  module _ (s : SignalsGood inputs outputs) where
    xs : (0 < 2 ^ length inputs) × (2 ^ length inputs ≤ 16)
    xs = few_values inputs s.few_in

    ys : (0 < 2 ^ length outputs) × (2 ^ length outputs ≤ 16)
    ys = few_values outputs s.few_out

    -- No bit of what is read is beyond the signals.
    pub event_bound : (text : List ℕ) → EventFits inputs outputs (read_event text).shown × EventFits inputs outputs (read_event text).values
    unfolding read_event
    event_bound text =
        let x = xs in
        let y = ys in
        let l = lines_bound inputs text in
        let m = lines_bound outputs (read_lines inputs text).rest in
        (record { x = omega arith; y = omega arith }, record { x = omega arith; y = omega arith })

    -- The lines that are read stand there.
    pub event_sound : (text : List ℕ) → text ≡ event_lines inputs outputs (read_event text).shown (read_event text).values ++ (read_event text).rest
    unfolding read_event event_lines
    event_sound text =
        let x = xs in
        let l = read_lines inputs text in
        let m = read_lines outputs l.rest in
        let k = lines_bound inputs text in
        let a : (l.shown + 16 * m.shown) % 16 ≡ l.shown = omega arith in
        let b : (l.values + 16 * m.values) % 16 ≡ l.values = omega arith in
        let c : (l.shown + 16 * m.shown) / 16 ≡ m.shown = omega arith in
        let d : (l.values + 16 * m.values) / 16 ≡ m.values = omega arith in
        rw (a, b, c, d, append_assoc, ← lines_sound outputs l.rest) (lines_sound inputs text)

    -- Lines that stand there are read.
    pub event_complete : (shown event : ℕ) (rest : List ℕ) → EventFits inputs outputs shown → Apart inputs rest → Apart outputs rest →
        read_event (event_lines inputs outputs shown event ++ rest) ≡ record { shown = shown; values = bit_and event shown; rest = rest }
    unfolding read_event event_lines
    event_complete shown event rest f a b =
        let i = lines_complete inputs (shown % 16) (event % 16) (value_lines outputs (shown / 16) (event / 16) ++ rest) s.distinct_in
        (second_apart inputs outputs (shown / 16) (event / 16) rest s.apart a) f.x in
        let o = lines_complete outputs (shown / 16) (event / 16) rest s.distinct_out b f.y in
        let p : shown % 16 + 16 * (shown / 16) ≡ shown = omega arith in
        let q : bit_and (event % 16) (shown % 16) + 16 * bit_and (event / 16) (shown / 16) ≡ bit_and event shown =
        omega (arith, and_mod event shown 4, and_shr event shown 4) in
        rw (append_assoc, i, o, p, q)

    -- At time 0.
    every_fits : EventFits inputs outputs every_signal
    every_fits = let x = xs in let y = ys in record { x = omega arith; y = omega arith }

    every_shown : (event : ℕ) → event_lines inputs outputs 255 event ≡ event_lines inputs outputs every_signal event
    unfolding event_lines
    every_shown event =
        let x = xs in
        let y = ys in
        let a : every_signal % 16 ≡ 2 ^ length inputs - 1 = omega arith in
        let b : every_signal / 16 ≡ 2 ^ length outputs - 1 = omega arith in
        rw (a, b, ← all_shown inputs 4 (event % 16) s.few_in, ← all_shown outputs 4 (event / 16) s.few_out)

    every_value : (event : ℕ) → EventFits inputs outputs event → bit_and event every_signal ≡ event
    every_value event f =
        let x = xs in
        let y = ys in
        let a : every_signal % 16 ≡ 2 ^ length inputs - 1 = omega arith in
        let b : every_signal / 16 ≡ 2 ^ length outputs - 1 = omega arith in
        let c : bit_and event every_signal % 16 ≡ event % 16 % 2 ^ length inputs = and_mod event every_signal 4 ∙ rw a (and_mask (event % 16) (length inputs)) in
        let d : bit_and event every_signal / 16 ≡ event / 16 % 2 ^ length outputs = and_shr event every_signal 4 ∙ rw b (and_mask (event / 16) (length outputs)) in
        omega (arith, mod-eq_of_lt f.x, mod-eq_of_lt f.y)

    -- The lines of time 0 are read as a line for every signal, with the event as it is.
    pub first_complete : (event : ℕ) (rest : List ℕ) → EventFits inputs outputs event → Apart inputs rest → Apart outputs rest →
        read_event (event_lines inputs outputs 255 event ++ rest) ≡ record { shown = every_signal; values = event; rest = rest }
    first_complete event rest f a b = rw (every_shown event, event_complete every_signal event rest every_fits a b, every_value event f)

    -- Where every signal has a line, these are the lines of time 0 for the event that is read.
    pub first_sound : (text : List ℕ) → (read_event text).shown ≡ every_signal →
        text ≡ event_lines inputs outputs 255 (read_event text).values ++ (read_event text).rest
    first_sound text e = rw (every_shown (read_event text).values, ← e) (event_sound text)

    -- Of the event only what is shown makes a difference.
    pub event_shown : (shown event : ℕ) → event_lines inputs outputs shown (bit_and event shown) ≡ event_lines inputs outputs shown event
    unfolding event_lines
    event_shown shown event =
        let a : bit_and event shown % 16 ≡ bit_and (event % 16) (shown % 16) = and_mod event shown 4 in
        let b : bit_and event shown / 16 ≡ bit_and (event / 16) (shown / 16) = and_shr event shown 4 in
        rw (a, b, values_shown inputs (shown % 16) (event % 16), values_shown outputs (shown / 16) (event / 16))

    -- What two events differ in is within the signals.
    pub xor_fits : (a b : ℕ) → EventFits inputs outputs a → EventFits inputs outputs b → EventFits inputs outputs (bit_xor a b)
    xor_fits a b f g =
        record {
          x = rw (xor_mod a b 4) (xor_lt (length inputs) (a % 16) (b % 16) f.x g.x);
          y = rw (xor_shr a b 4) (xor_lt (length outputs) (a / 16) (b / 16) f.y g.y);
        }
