-- How long the words of a rule are at most: 12 + 1 for the location, 2 for each signal, 9 for on and off, 21 for each clock, and 8 for digits more: a policy
-- has at most 65,536 states, so its locations and ceilings have together at most four digits more than one each, of which the clock's is said twice.
-- In order: a rule of a policy; the names of signals; the digits of a number; the bounds of clocks; all words of a rule.
use Rattle.std.specs.Prelude.{◌≡◌, refl, Bool, true, false, cond, List, [], ◌∷◌, ◌++◌, ◌⊎◌, ℕ, zero, suc, ◌+◌, ◌-◌, ◌*◌, ◌/◌, ◌%◌, ◌^◌, ◌≤◌, ◌<◌, eqb, leb, length, get_or}
use Rattle.std.proofs.Common.{ap, ⊎_elim, mul-le-mul, arith, length-append, pow-add, eqb-true, leb-true}
use Rattle.std.proofs.Math.Bool.{and-eq-true_iff}
use Rattle.std.proofs.Math.Logic.{by_cases}
use Rattle.std.proofs.Math.Nat.{pow-le-pow_right}
use Rattle.std.proofs.Math.Decide.{ℕ_discrete, dec_lt}
use Rattle.std.specs.Int.Bits.{bit_and, and_step}
use Rattle.std.proofs.lemmas.Nat.{and_le_r}
use Rattle.std.proofs.lemmas.Bool.{eqb-false}
use Rattle.policy.specs.Rules.{Bound, Rule, Policy}
use Rattle.policy.specs.Number.{states_of}
use Rattle.policy.specs.Numbered.{states_front}
use Rattle.policy.specs.Check.{all_pass, ceiling_good}
use Rattle.policy.specs.Sound.{WellFormed, Each, each_none, each_more}
use Rattle.policy.specs.Stopped.{AllLawful, lawful_none, lawful_more}
use Rattle.policy.specs.Checked.{well_ruled}
use Rattle.texts.specs.Text.{ascii, digit, decimal}
use Rattle.texts.specs.Decimal.{by_digits, decimal_short}
use Rattle.asks.specs.Words.{name, names, signals, cared, bound, bounds, location, asks}
use Rattle.asks.specs.Turns.{three_length, location_length, clock_length, bound_none, to_length, on_length, signals_none, signals_length}

-- A rule that is taken from all of them.
pub each_at : {P : Rule → Type 0} (d : Rule) {rs : List Rule} → Each P rs → (i : ℕ) → i < length rs → P (get_or rs i d)
each_at d each_none i l = absurd (omega arith)
each_at d (each_more p h) zero l = p
each_at d (each_more p h) (suc i) l = each_at d h i (omega arith)

name_long : (tag mask : ℕ) → length (name tag mask) ≡ 2 * (mask % 2)
name_long tag mask = go (eqb (mask % 2) 1) refl
  where
    go : (t : Bool) → eqb (mask % 2) 1 ≡ t → length (cond t (ascii " " ++ (tag ∷ [])) []) ≡ 2 * (mask % 2)
    go true e = omega (arith, eqb-true (mask % 2) 1 e)
    go false e = let n = eqb-false (mask % 2) 1 e in omega arith

-- No signal is both on and off.
names_short : (tags : List ℕ) (x a : ℕ) → bit_and x a ≡ x → length (names tags x) + length (names tags (a - x)) ≤ 2 * length tags
unfolding names
names_short [] x a h = omega arith
names_short (t ∷ ts) x a h =
    let s = and_step x a in
    let half : bit_and (x / 2) (a / 2) ≡ x / 2 = omega arith in
    let odd : x % 2 ≤ a % 2 = omega arith in
    let le = and_le_r (x / 2) (a / 2) in
    let q : (a - x) / 2 ≡ a / 2 - x / 2 = omega arith in
    let o : (a - x) % 2 ≡ a % 2 - x % 2 = omega arith in
    rw q
    (omega (
      arith,
      names_short ts (x / 2) (a / 2) half,
      name_long t x,
      name_long t (a - x),
      length-append (name t x) (names ts (x / 2)),
      length-append (name t (a - x)) (names ts (a / 2 - x / 2)),
    ))

signals_short : (inputs outputs : List ℕ) (x y : ℕ) (word : List ℕ) →
    length (signals inputs outputs x y word) ≤ 1 + length (names inputs x) + length (names outputs y) + length word
signals_short inputs outputs x y word =
    by_cases (ℕ_discrete (x + y) 0) (λ e. omega (arith, ap length (signals_none inputs outputs x y word e))) (λ h. omega (arith, signals_length inputs outputs x y word h))

cared_short : (inputs outputs : List ℕ) (a x b y : ℕ) → length inputs ≤ 4 → length outputs ≤ 4 → bit_and x a ≡ x → bit_and y b ≡ y →
    length (cared inputs outputs a x b y) ≤ 25
unfolding cared
cared_short inputs outputs a x b y i o h g =
    omega (
      arith,
      length-append (signals inputs outputs x y (ascii " on")) (signals inputs outputs (a - x) (b - y) (ascii " off")),
      signals_short inputs outputs x y (ascii " on"),
      signals_short inputs outputs (a - x) (b - y) (ascii " off"),
      names_short inputs x a h,
      names_short outputs y b g,
    )

-- How many digits there are after the first: a number that has them is below the next power of ten, and at least their own unless it is 0.
record Sized (n : ℕ) (ds : List ℕ) : Type 0 where
  more : ℕ
  long : length ds ≡ suc more
  below : n < 10 ^ suc more
  least : 0 < n → 10 ^ more ≤ n

sized : (n : ℕ) → Sized n (decimal n)
sized =
    by_digits Sized
    (λ n h. record { more = 0; long = refl; below = omega arith; least = λ p. omega arith })
    (λ n front h s.
    record {
      more = suc s.more;
      long = omega (arith, length-append front (digit n ∷ []), s.long);
      below = omega (arith, s.below);
      least = λ p. omega (arith, s.least (omega arith));
    })

-- A bound has at most the digits of the ceiling.
bound_short : (n low high c : ℕ) (s : Sized c (decimal c)) → n < 10 → c ≤ 1001 → low ≤ c → (high < c) ⊎ (high ≡ 65535) →
    length (bound n low high) ≤ 21 + 2 * s.more
bound_short n low high c s l m u v =
    let k = clock_length n low in
    let d = decimal_short n 0 (omega arith) in
    let e = decimal_short low s.more (omega (arith, s.below)) in
    ⊎_elim (λ w. omega (arith, k, d, e, to_length n low high (λ q. omega arith), decimal_short high s.more (omega (arith, s.below))))
    (λ q.
    by_cases (ℕ_discrete low 0) (λ z. omega (arith, ap length (bound_none n low high q z))) (λ z. omega (arith, k, d, e, on_length n low high q z)))
    v

-- With e digits more so far, in numbers whose product is l, there are m of them in all, and ten to the m is no more than the states.
bounds_short : (n : ℕ) {cs : List ℕ} {bs : List Bound} → all_pass ceiling_good cs ≡ true → AllLawful cs bs → n + length bs ≤ 10 → (l e : ℕ) → 10 ^ e ≤ l →
    (m : ℕ) × (10 ^ m ≤ states_of cs (length cs) l) × (length (bounds n bs) + 2 * e ≤ 21 * length bs + 2 * m)
unfolding bounds all_pass states_of
bounds_short n g lawful_none f l e h = (e, h, omega arith)
bounds_short n g (lawful_more {c = c} {cs = cs} {b = b} {bs = bs} h hs) f l e k =
    let t = (and-eq-true_iff (ceiling_good c) (all_pass ceiling_good cs)).0 g in
    let u = (and-eq-true_iff (leb 1 c) (leb c 1001)).0 t.0 in
    let s = sized c in
    let least : 10 ^ s.more ≤ suc c = omega (arith, s.least (leb-true 1 c u.0)) in
    let product : 10 ^ (e + s.more) ≤ l * suc c = rw pow-add (mul-le-mul k least) in
    let rest = bounds_short (n + 1) t.1 hs (omega arith) (l * suc c) (e + s.more) product in (
      rest.0,
      rw (states_front cs c (length cs) l) rest.1,
      omega (
        arith,
        rest.2,
        length-append (bound n b.low b.high) (bounds (n + 1) bs),
        bound_short n b.low b.high c s (omega arith) (leb-true c 1001 u.1) h.low h.high,
      ),
    )

-- Ten to the fifth is more than there may be states.
few_digits : (m n : ℕ) → 10 ^ m ≤ n → n ≤ 65536 → m ≤ 4
few_digits m n h l =
    by_cases (dec_lt 4 m) (λ g. let p : 100000 ≤ 10 ^ m = pow-le-pow_right {n = 10} (omega arith) {i = 5} {j = m} g in absurd (omega arith)) (λ g. omega arith)

-- The words of a rule of a checked policy are at most 130 bytes.
pub asks_short : (p : Policy) → WellFormed p → (d : Rule) (i : ℕ) → i < length p.rules → length (asks p.inputs p.outputs (get_or p.rules i d)) ≤ 130
unfolding asks
asks_short p k d i l =
    let r = get_or p.rules i d in
    let g = each_at d (well_ruled p k) i l in
    let s = sized p.locations in
    let b = bounds_short 0 k.ceilings g.lawful (omega (arith, g.formed.bounds, k.clocks)) p.locations s.more (s.least k.start) in
    omega (
      arith,
      three_length (location r.source) (cared p.inputs p.outputs r.in_care r.in_value r.out_care r.out_value) (bounds 0 r.bounds),
      location_length r.source,
      decimal_short r.source s.more (omega (arith, g.source, s.below)),
      cared_short p.inputs p.outputs r.in_care r.in_value r.out_care r.out_value k.inputs k.outputs g.formed.inputs g.formed.outputs,
      b.2,
      few_digits b.0 _ b.1 k.states,
      g.formed.bounds,
      k.clocks,
    )
