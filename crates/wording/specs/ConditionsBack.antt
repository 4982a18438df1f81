-- The conditions of a rule and its resets are read as they were written.
-- In order: the bits of a mask; the signals; the bounds; the resets.
use Rattle.std.specs.Prelude.{◌≡◌, Bool, not, ℕ, zero, suc, ◌+◌, ◌*◌, ◌/◌, ◌%◌, ◌^◌, ◌≤◌, ◌<◌, leb, eqb, replicate}
use Rattle.std.proofs.Math.Path.{refl, ap}
use Rattle.std.proofs.Common.{sym, ◌∙◌, div-add-mod', mul-add, mul_assoc, length-append}
use Rattle.std.proofs.Math.Bool.{true, false, and-eq-true_iff, and-false}
use mathlib.Core.List.{List, [], ◌∷◌, ◌++◌, append_assoc}
use Rattle.std.proofs.Math.Option.{none, some}
use Rattle.std.proofs.Math.Nat.{pow-succ', div-eq_of_lt, max-zero, min-eq_left}
use native.Mathlib.Omega.{arith}
use Rattle.std.proofs.Math.Dec.{ltb}
use Rattle.std.specs.Int.Bits.{bit_and, and_step}
use Rattle.std.proofs.lemmas.Nat.{and_le_r}
use Rattle.std.proofs.Math.ListN.{length}
use borrow.Author.Tests.{leb-true, ltb-false, eqb-true, eqb-false, ne_eqb, not-true}
use Rattle.streams.specs.Answer.{gives}
use Rattle.policy.specs.Rules.{Bound}
use Rattle.policy.specs.Check.{is_capital, among, tags_good}
use Rattle.texts.specs.Text.{decimal}
use Rattle.wording.specs.Words.{Word, Line}
use Rattle.wording.specs.Names.{same, find, through, name_of, names_from}
use Rattle.wording.specs.NamesBack.{find_name, find_letter, number_read, through_none, through_more}
use Rattle.wording.specs.Reader.{Draft, scope, Begun, more, clears, sign, no_bound, turn, signal, change, at_least_of, at_most_of}
use Rattle.wording.specs.Reader.{on_signal, on_bound, on_reset, condition, word_at, rule_word, unset}
use Rattle.wording.specs.Writer.{clock_name, when, odd, signal_word, signal_words, low_words, high_words, bound_words, reset_names}

-- A mask's lowest bit, and the others.
bit_split : (n m : ℕ) → 2 ^ n * m ≡ 2 ^ n * (m % 2) + 2 ^ suc n * (m / 2)
bit_split n m =
    let e : m ≡ m / 2 * 2 + m % 2 = sym (div-add-mod' m 2) in
    let p : 2 ^ suc n * (m / 2) ≡ 2 ^ n * (m / 2 * 2) =
    rw (pow-succ' 2 n) (omega (arith, mul_assoc 2 (2 ^ n) (m / 2), mul_assoc (2 ^ n) (m / 2) 2)) in
    ap (λ (z : ℕ). 2 ^ n * z) e ∙ mul-add (2 ^ n) (m / 2 * 2) (m % 2) ∙ omega (arith, p)

-- An odd mask m at bit n is the bit n, and half of m at bit n + 1.
pub bit_set : (n m c : ℕ) → m % 2 ≡ 1 → c + 2 ^ n + 2 ^ suc n * (m / 2) ≡ c + 2 ^ n * m
bit_set n m c e = let s = bit_split n m in let o : 2 ^ n * (m % 2) ≡ 2 ^ n = rw e (omega arith) in omega arith

-- An even mask m at bit n is half of m at bit n + 1.
pub bit_clear : (n m c : ℕ) → m % 2 ≡ 0 → c + 2 ^ suc n * (m / 2) ≡ c + 2 ^ n * m
bit_clear n m c e = let s = bit_split n m in let o : 2 ^ n * (m % 2) ≡ 0 = rw e (omega arith) in omega arith

half_small : (n m : ℕ) → m < 2 ^ suc n → m / 2 < 2 ^ n
half_small n m h = let e = pow-succ' 2 n in omega arith

more_small : (n c : ℕ) → c < 2 ^ n → c + 2 ^ n < 2 ^ suc n
more_small n c h = let e = pow-succ' 2 n in omega arith

same_small : (n c : ℕ) → c < 2 ^ n → c < 2 ^ suc n
same_small n c h = let e = pow-succ' 2 n in omega arith

bit_free : (n c : ℕ) → c < 2 ^ n → unset c n ≡ true
bit_free n c h = rw (div-eq_of_lt h)

-- A value is within its care mask in the lowest bit, and in the others.
pub value_bit : (value care : ℕ) → bit_and value care ≡ value → (value % 2 ≤ care % 2) × (bit_and (value / 2) (care / 2) ≡ value / 2)
value_bit value care h = let s = and_step value care in (omega arith, omega arith)

odd_true : (m : ℕ) → odd m ≡ true → m % 2 ≡ 1
odd_true m h = eqb-true (m % 2) 1 h

odd_false : (m : ℕ) → odd m ≡ false → m % 2 ≡ 0
odd_false m h = let f = eqb-false (m % 2) 1 h in omega arith

-- The conditions so far.
abbrev pub saying : ℕ → ℕ → List Bound → Begun
saying care value bounds = record { part = more; care = care; value = value; bounds = bounds; target = 0; reset = 0 }

-- A word of one letter is not the same as a longer one.
pub letter_other : (t a b : ℕ) (cs : Word) → same (t ∷ []) (a ∷ b ∷ cs) ≡ false
unfolding same
letter_other t a b cs = and-false (eqb t a)

module _ (d : Draft) (xs zs : List ℕ) (t : ℕ) (e : d.inputs ++ d.outputs ≡ xs ++ (t ∷ zs)) (capital : is_capital t ≡ true) (new : among t xs ≡ false)
    (care value : ℕ) (bounds : List Bound) (small : care < 2 ^ length xs) where
  signal_found : signal (scope d) (t ∷ []) ≡ some (length xs)
  unfolding signal
  signal_found = let z : 0 + length xs ≡ length xs = omega arith in rw (capital, e) (find_letter 0 t xs zs new ∙ ap some z)

  no_mark : eqb t 33 ≡ false
  no_mark = let both = (and-eq-true_iff (leb 65 t) _).0 capital in let low = leb-true 65 t both.0 in ne_eqb t 33 (λ s. omega arith)

  signal_on : word_at (scope d) (saying care value bounds) more (t ∷ []) ≡ gives (saying (care + 2 ^ length xs) (value + 2 ^ length xs) bounds)
  unfolding word_at condition on_signal
  signal_on =
      let one : 1 * 2 ^ length xs ≡ 2 ^ length xs = omega arith in
      rw (letter_other t 45 62 [], no_mark, signal_found, bit_free (length xs) care small, one)

  signal_off : word_at (scope d) (saying care value bounds) more (33 ∷ t ∷ []) ≡ gives (saying (care + 2 ^ length xs) value bounds)
  unfolding word_at condition on_signal same
  signal_off =
      let none : value + 0 * 2 ^ length xs ≡ value = omega arith in
      rw (signal_found, bit_free (length xs) care small, none)

-- The conditions on the signals ts, which stand after xs and before zs, are read as the masks c and v.
pub signals_read : (d : Draft) (xs ts zs : List ℕ) → d.inputs ++ d.outputs ≡ xs ++ (ts ++ zs) → tags_good xs ts ≡ true →
    (c v : ℕ) → c < 2 ^ length ts → bit_and v c ≡ v → (care value : ℕ) → care < 2 ^ length xs → (bounds : List Bound) →
    through (rule_word (scope d)) (saying care value bounds) (signal_words ts c v)
    ≡ gives (saying (care + 2 ^ length xs * c) (value + 2 ^ length xs * v) bounds)
unfolding signal_words through tags_good
signals_read d xs [] zs e good c v small under care value fits bounds =
    let none : c ≡ 0 = omega arith in
    let off : v ≡ 0 = omega (arith, and_le_r v c) in
    let one : care ≡ care + 2 ^ length xs * c = rw none (omega arith) in
    let two : value ≡ value + 2 ^ length xs * v = rw off (omega arith) in
    λ i. gives (saying (one i) (two i) bounds)
signals_read d xs (t ∷ ts) zs e good c v small under care value fits bounds =
    let first = (and-eq-true_iff (is_capital t) _).0 good in
    let second = (and-eq-true_iff (not (among t xs)) _).0 first.1 in
    let new = not-true (among t xs) second.0 in
    let long : length (xs ++ (t ∷ [])) ≡ suc (length xs) = simp length-append (omega arith) in
    let rest : (care' value' : ℕ) → care' < 2 ^ suc (length xs) →
    through (rule_word (scope d)) (saying care' value' bounds) (signal_words ts (c / 2) (v / 2))
    ≡ gives (saying (care' + 2 ^ suc (length xs) * (c / 2)) (value' + 2 ^ suc (length xs) * (v / 2)) bounds) =
    λ care' value' h.
    rw long at
    (signals_read d (xs ++ (t ∷ [])) ts zs (e ∙ sym (append_assoc xs (t ∷ []) (ts ++ zs))) second.1 (c / 2) (v / 2)
    (half_small (length ts) c small) (value_bit v c under).1 care' value' (rw long h) bounds) in
    go (odd c) refl (odd v) refl (value_bit v c under).0 rest (signal_on d xs (ts ++ zs) t e first.0 new care value bounds fits)
    (signal_off d xs (ts ++ zs) t e first.0 new care value bounds fits)
  where
    go : (a : Bool) → odd c ≡ a → (b : Bool) → odd v ≡ b → v % 2 ≤ c % 2 →
        ((care' value' : ℕ) → care' < 2 ^ suc (length xs) →
        through (rule_word (scope d)) (saying care' value' bounds) (signal_words ts (c / 2) (v / 2))
        ≡ gives (saying (care' + 2 ^ suc (length xs) * (c / 2)) (value' + 2 ^ suc (length xs) * (v / 2)) bounds)) →
        word_at (scope d) (saying care value bounds) more (t ∷ []) ≡ gives (saying (care + 2 ^ length xs) (value + 2 ^ length xs) bounds) →
        word_at (scope d) (saying care value bounds) more (33 ∷ t ∷ []) ≡ gives (saying (care + 2 ^ length xs) value bounds) →
        through (rule_word (scope d)) (saying care value bounds) (when a (signal_word t b ∷ []) ++ signal_words ts (c / 2) (v / 2))
        ≡ gives (saying (care + 2 ^ length xs * c) (value + 2 ^ length xs * v) bounds)
    go true a true b le rest on off =
        rw (on, rest (care + 2 ^ length xs) (value + 2 ^ length xs) (more_small (length xs) care fits))
        (λ i. gives (saying (bit_set (length xs) c care (odd_true c a) i) (bit_set (length xs) v value (odd_true v b) i) bounds))
    go true a false b le rest on off =
        rw (off, rest (care + 2 ^ length xs) value (more_small (length xs) care fits))
        (λ i. gives (saying (bit_set (length xs) c care (odd_true c a) i) (bit_clear (length xs) v value (odd_false v b) i) bounds))
    go false a true b le rest on off = let x = odd_false c a in let y = odd_true v b in absurd (omega arith)
    go false a false b le rest on off =
        rw (rest care value (same_small (length xs) care fits))
        (λ i. gives (saying (bit_clear (length xs) c care (odd_false c a) i) (bit_clear (length xs) v value (odd_false v b) i) bounds))

-- A bound changed at its place.
change_at : (f : Bound → Bound) (before : List Bound) (b : Bound) (after : List Bound) →
    change f (length before) (before ++ (b ∷ after)) ≡ before ++ (f b ∷ after)
unfolding change
change_at f [] b after = refl
change_at f (a ∷ before) b after = ap (λ (z : List Bound). a ∷ z) (change_at f before b after)

-- No signal has a name.
abbrev pub Unnamed : Draft → Type 0
Unnamed d = (c : ℕ) (cs : Word) → find 0 (c ∷ cs) d.names ≡ none

abbrev bound : ℕ → ℕ → Bound
bound low high = record { low = low; high = high }

module _ (d : Draft) (n : ℕ) (e : d.clocks ≡ names_from 116 0 n) (u : Unnamed d) (care value : ℕ) (before after : List Bound) (here : length before < n) where
  clock_read : word_at (scope d) (saying care value (before ++ after)) more (clock_name (length before))
      ≡ gives (turn (sign (length before)) (saying care value (before ++ after)))
  unfolding word_at condition signal same name_of
  clock_read = rw (u 116 (decimal (length before)), e, find_name 116 (length before) 0 n (omega arith) (omega arith))

module _ (d : Draft) (n : ℕ) (e : d.clocks ≡ names_from 116 0 n) (u : Unnamed d) (care value : ℕ) (before after : List Bound) (here : length before < n) where
  low-words : (low high : ℕ) → low ≤ 65535 →
      through (rule_word (scope d)) (saying care value (before ++ (bound 0 high ∷ after))) (low_words (length before) low)
      ≡ gives (saying care value (before ++ (bound low high ∷ after)))
  unfolding through word_at same on_bound
  low-words low high h =
      rw (
        clock_read d n e u care value before (bound 0 high ∷ after) here,
        number_read low _ h,
        change_at (at_least_of low) before (bound 0 high) after,
        max-zero low,
      )

  high-words : (low high : ℕ) → high ≤ 65535 →
      through (rule_word (scope d)) (saying care value (before ++ (bound low 65535 ∷ after))) (high_words (length before) high)
      ≡ gives (saying care value (before ++ (bound low high ∷ after)))
  unfolding through word_at same on_bound
  high-words low high h =
      rw (
        clock_read d n e u care value before (bound low 65535 ∷ after) here,
        number_read high _ h,
        change_at (at_most_of high) before (bound low 65535) after,
        min-eq_left h,
      )

  low_read : (low high : ℕ) → low ≤ 65535 →
      through (rule_word (scope d)) (saying care value (before ++ (bound 0 high ∷ after)))
      (when (ltb 0 low) (low_words (length before) low))
      ≡ gives (saying care value (before ++ (bound low high ∷ after)))
  unfolding through
  low_read low high h = go (ltb 0 low) refl
    where
      go : (t : Bool) → ltb 0 low ≡ t →
          through (rule_word (scope d)) (saying care value (before ++ (bound 0 high ∷ after)))
          (when t (low_words (length before) low))
          ≡ gives (saying care value (before ++ (bound low high ∷ after)))
      go true s = low-words low high h
      go false s = let z : low ≡ 0 = omega (arith, ltb-false 0 low s) in rw z

  high_read : (low high : ℕ) → high ≤ 65535 →
      through (rule_word (scope d)) (saying care value (before ++ (bound low 65535 ∷ after)))
      (when (ltb high 65535) (high_words (length before) high))
      ≡ gives (saying care value (before ++ (bound low high ∷ after)))
  unfolding through
  high_read low high h = go (ltb high 65535) refl
    where
      go : (t : Bool) → ltb high 65535 ≡ t →
          through (rule_word (scope d)) (saying care value (before ++ (bound low 65535 ∷ after)))
          (when t (high_words (length before) high))
          ≡ gives (saying care value (before ++ (bound low high ∷ after)))
      go true s = high-words low high h
      go false s = let z : high ≡ 65535 = omega (arith, ltb-false high 65535 s) in rw z

-- All bounds are two-byte numbers.
abbrev pub AllSmall : List Bound → Type 0
AllSmall [] = Unit {0}
AllSmall (b ∷ bs) = (b.low ≤ 65535) × (b.high ≤ 65535) × AllSmall bs

-- The words for the bounds bs, behind those of the clocks before them, are read as bs.
pub bounds_read : (d : Draft) (n : ℕ) → d.clocks ≡ names_from 116 0 n → Unnamed d → (care value : ℕ) (before bs : List Bound) → length before + length bs ≤ n → AllSmall bs →
    through (rule_word (scope d)) (saying care value (before ++ replicate (length bs) no_bound)) (bound_words (length before) bs)
    ≡ gives (saying care value (before ++ bs))
unfolding bound_words
bounds_read d n e u care value before [] h s = through_none (rule_word (scope d)) _
bounds_read d n e u care value before (b ∷ bs) h s =
    let rest = replicate (length bs) no_bound in
    let long : length (before ++ (b ∷ [])) ≡ suc (length before) = simp length-append (omega arith) in
    let regroup : (after : List Bound) → (before ++ (b ∷ [])) ++ after ≡ before ++ (b ∷ after) = λ after. append_assoc before (b ∷ []) after in
    let others = bounds_read d n e u care value (before ++ (b ∷ [])) bs (omega arith) s.2 in
    through_more (rule_word (scope d)) _ _ _ _ (low_read d n e u care value before rest (omega arith) b.low 65535 s.0)
    ∙ through_more (rule_word (scope d)) _ _ _ _ (high_read d n e u care value before rest (omega arith) b.low b.high s.1)
    ∙ (rw (long, regroup, regroup) at others)

-- The resets so far.
abbrev pub clearing : Begun → ℕ → Begun
clearing b mask =
    record { part = clears; care = b.care; value = b.value; bounds = b.bounds; target = b.target; reset = mask }

reset_one : (d : Draft) (n k : ℕ) → d.clocks ≡ names_from 116 0 n → k < n → (b : Begun) (mask : ℕ) → mask < 2 ^ k →
    word_at (scope d) (clearing b mask) clears (clock_name k) ≡ gives (clearing b (mask + 2 ^ k))
unfolding word_at on_reset
reset_one d n k e h b mask small = rw (e, find_name 116 k 0 n (omega arith) (omega arith), bit_free k mask small)

-- The names of the clocks in the mask m, from clock k on, are read as that mask.
pub resets_read : (d : Draft) (n : ℕ) → d.clocks ≡ names_from 116 0 n → (b : Begun) (k j m mask : ℕ) → k + j ≤ n → m < 2 ^ j → mask < 2 ^ k →
    through (rule_word (scope d)) (clearing b mask) (reset_names k j m) ≡ gives (clearing b (mask + 2 ^ k * m))
unfolding reset_names through
resets_read d n e b k zero m mask h small fits =
    let none : m ≡ 0 = omega arith in
    let one : mask ≡ mask + 2 ^ k * m = rw none (omega arith) in
    λ i. gives (clearing b (one i))
resets_read d n e b k (suc j) m mask h small fits =
    go (odd m) refl (λ mask' l. resets_read d n e b (suc k) j (m / 2) mask' (omega arith) (half_small j m small) l)
    (reset_one d n k e (omega arith) b mask fits)
  where
    go : (a : Bool) → odd m ≡ a →
        ((mask' : ℕ) → mask' < 2 ^ suc k →
        through (rule_word (scope d)) (clearing b mask') (reset_names (suc k) j (m / 2)) ≡ gives (clearing b (mask' + 2 ^ suc k * (m / 2)))) →
        word_at (scope d) (clearing b mask) clears (clock_name k) ≡ gives (clearing b (mask + 2 ^ k)) →
        through (rule_word (scope d)) (clearing b mask) (when a (clock_name k ∷ []) ++ reset_names (suc k) j (m / 2))
        ≡ gives (clearing b (mask + 2 ^ k * m))
    go true a rest one =
        rw (one, rest (mask + 2 ^ k) (more_small k mask fits)) (λ i. gives (clearing b (bit_set k m mask (odd_true m a) i)))
    go false a rest one = rw (rest mask (same_small k mask fits)) (λ i. gives (clearing b (bit_clear k m mask (odd_false m a) i)))

-- 0 for a line without words, 1 for any other.
some_first : Line → ℕ
some_first [] = 0
some_first (w ∷ ws) = 1

-- A mask for which no name is written is empty.
pub resets_some : (k j m : ℕ) → m < 2 ^ j → reset_names k j m ≡ [] → m ≡ 0
unfolding reset_names some_first
resets_some k zero m small h = omega arith
resets_some k (suc j) m small h = go (odd m) refl h (resets_some (suc k) j (m / 2) (half_small j m small))
  where
    go : (a : Bool) → odd m ≡ a → (when a (clock_name k ∷ []) ++ reset_names (suc k) j (m / 2)) ≡ [] →
        (reset_names (suc k) j (m / 2) ≡ [] → m / 2 ≡ 0) → m ≡ 0
    go true a g rest = absurd (let z : ◌≡◌ {A = ℕ} 1 0 = ap some_first g in omega arith)
    go false a g rest = let x = rest g in let y = odd_false m a in omega arith
