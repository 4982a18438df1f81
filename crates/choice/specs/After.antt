-- The inputs that agree with care bits, one after the other.
-- In order: the next number that agrees; a look at each until one takes something; a change of each entry that agrees; what is left of a set.
use Rattle.std.specs.Prelude.{◌≡◌, refl, Bool, true, false, ◌&&◌, ◌||◌, not, List, ℕ, ◌+◌, ◌-◌, ◌≤◌, ◌<◌, eqb, length, get_or, set}
use Rattle.std.proofs.Common.{◌∙◌, true≢false, arith}
use Rattle.std.proofs.Math.Bool.{and-eq-true_iff}
use Rattle.std.proofs.Math.Logic.{by_cases}
use Rattle.std.proofs.Math.Decide.{ℕ_discrete, dec_lt}
use Rattle.std.proofs.Math.Dec.{ltb}
use Rattle.std.specs.Int.Bits.{bit_and, bit_or, bit_xor, xor_zero_r}
use Rattle.std.proofs.lemmas.Nat.{and_le_l}
use borrow.Author.Tests.{eqb-true, ltb-true, lt-ltb, le-ltb, eq-eqb, ne_eqb}
use Rattle.streams.specs.Choose.{some_below}
use Rattle.streams.specs.ChooseLaws.{some_has, some_none, some_fails}
use Rattle.choice.specs.Sets.{agreed}
use Rattle.choice.specs.Changed.{Changed, changed_none, changed_more, changed_on, changed_back}

-- The next number after x that agrees with the care bits as x does: where they ask, as x; the others are counted up by one.
unfoldable pub after : ℕ → ℕ → ℕ
after care x = bit_or (bit_and (bit_or x care + 1) (31 - care)) (bit_and x care)

-- Wrong of care bits and a number below 16: computed, and nothing is.
between : ℕ → ℕ → ℕ → Bool
between care x z = ltb x z && ltb z (after care x) && eqb (bit_and z care) (bit_and x care)

wrong : ℕ → ℕ → Bool
wrong care x =
    not (ltb x (after care x) && ltb (after care x) 32 && eqb (bit_and (after care x) care) (bit_and x care)) || some_below (between care x) 32

none_wrong : some_below (λ care. some_below (wrong care) 16) 16 ≡ false
unfolding some_below after wrong between
none_wrong = refl

all_right : (care x : ℕ) → care < 16 → x < 16 → wrong care x ≡ false
all_right care x h l = some_none (wrong care) 16 (some_none _ 16 none_wrong care h) x l

module _ {care x : ℕ} (h : care < 16) (l : x < 16) where
  split : (a b : Bool) → (not a || b) ≡ false → (a ≡ true) × (b ≡ false)
  split true b e = (refl, e)
  split false b e = absurd (true≢false e)

  right : ((x < after care x) × (after care x < 32) × (bit_and (after care x) care ≡ bit_and x care)) × (some_below (between care x) 32 ≡ false)
  unfolding wrong
  right =
      let w = split _ _ (all_right care x h l) in
      let p = (and-eq-true_iff (ltb x (after care x) && ltb (after care x) 32) _).0 w.0 in
      let q = (and-eq-true_iff (ltb x (after care x)) _).0 p.0 in
      ((ltb-true _ _ q.0, ltb-true _ _ q.1, eqb-true _ _ p.1), w.1)

  -- None stands between.
  skipped : (z : ℕ) → x < z → z < after care x → eqb (bit_and z care) (bit_and x care) ≡ false
  unfolding between
  skipped z k m = rw (lt-ltb x z k, lt-ltb z (after care x) m) at (some_none (between care x) 32 right.1 z (omega (arith, right.0.1)))

module _ (care value : ℕ) where
  -- x agrees, and `after care x` is the next that does.
  module _ {x : ℕ} (h : care < 16) (l : x < 16) (e : bit_and x care ≡ value) where
    -- The next number is greater.
    pub after_up : x < after care x
    after_up = (right h l).0.0

    after_agrees : bit_and (after care x) care ≡ value
    after_agrees = (right h l).0.2 ∙ e

    after_first : (z : ℕ) → x < z → z < after care x → eqb (bit_and z care) value ≡ false
    after_first z k m = rw e at (skipped h l z k m)

  -- Below the value none agrees.
  value_first : (z : ℕ) → z < value → eqb (bit_and z care) value ≡ false
  value_first z l = ne_eqb _ _ (λ (e : bit_and z care ≡ value). omega (arith, and_le_l z care))

  module _ (set : ℕ) (left : List ℕ) where
    -- The numbers below x take nothing, and x agrees.
    pub record Idle (x : ℕ) : Type 0 where
      pub here : bit_and x care ≡ value
      pub none : (z : ℕ) → z < x → ltb 0 (agreed care value set z (get_or left z 0)) ≡ false

    idle_not : (z : ℕ) → eqb (bit_and z care) value ≡ false → ltb 0 (agreed care value set z (get_or left z 0)) ≡ false
    idle_not z e = rw e refl

    -- The value is the first number that agrees.
    pub idle_start : bit_and value care ≡ value → Idle value
    idle_start e = record { here = e; none = λ z l. idle_not z (value_first z l) }

    -- Something is taken at x, so something is taken of the first n sets.
    pub idle_found : {x n : ℕ} → Idle x → x < n → (bit_and (get_or left x 0) set ≡ 0 → ⊥) → some_below (λ z. ltb 0 (agreed care value set z (get_or left z 0))) n ≡ true
    idle_found {x} {n} w l d = some_has _ n x l (rw (eq-eqb _ _ w.here) (lt-ltb 0 (bit_and (get_or left x 0) set) (omega arith)))

    -- Nothing is taken at x: the next number that agrees is looked at.
    pub idle_more : {x : ℕ} → care < 16 → x < 16 → Idle x → bit_and (get_or left x 0) set ≡ 0 → Idle (after care x)
    idle_more {x} h l w e = record { here = after_agrees h l w.here; none = go }
      where
        go : (z : ℕ) → z < after care x → ltb 0 (agreed care value set z (get_or left z 0)) ≡ false
        go z k =
            by_cases (dec_lt z x) (w.none z)
            (λ m.
            by_cases (ℕ_discrete z x) (λ (q : z ≡ x). rw (q, eq-eqb _ _ w.here, e) refl)
            (λ ne. idle_not z (after_first h l w.here z (omega arith) k)))

    -- Past the first n sets: nothing is taken of them.
    pub idle_done : {x n : ℕ} → n ≤ x → Idle x → some_below (λ z. ltb 0 (agreed care value set z (get_or left z 0))) n ≡ false
    idle_done {x} {n} l w = some_fails _ n (λ z k. w.none z (omega arith))

  -- The entries that agree are changed one after the other.
  module _ (f : ℕ → ℕ) (n : ℕ) (xs : List ℕ) where
    -- It has come to x, which agrees; of those past the first n none below x does.
    pub record Walked (x : ℕ) (ys : List ℕ) : Type 0 where
      pub here : bit_and x care ≡ value
      pub past : (z : ℕ) → n ≤ z → z < x → eqb (bit_and z care) value ≡ false
      pub changed : Changed f x xs ys

    -- An entry that does not agree stays.
    module _ (still : (z : ℕ) → eqb (bit_and z care) value ≡ false → f z ≡ get_or xs z 0) where
      -- At the value nothing is changed yet.
      pub walked_start : bit_and value care ≡ value → Walked value xs
      walked_start e =
          record {
            here = e;
            past = λ z l k. value_first z k;
            changed = changed_on (omega arith) (λ z l k. still z (value_first z k)) (changed_none f xs);
          }

      -- The entry at x is changed, and the next that agrees is looked at.
      pub walked_more : {x v : ℕ} {ys : List ℕ} → care < 16 → n ≤ 16 → x < n → x < length ys → v ≡ f x → Walked x ys → Walked (after care x) (set ys x v)
      walked_more {x} h l k m e w =
          let u : x < 16 = omega arith in
          let c = after_first h u w.here in
          record {
            here = after_agrees h u w.here;
            past = λ z g t. c z (omega arith) t;
            changed =
                changed_on (omega (arith, after_up h u w.here)) (λ z k t. still z (c z (omega arith) t)) (changed_more m e w.changed);
          }

      -- Past the first n each of them is as f says.
      pub walked_done : {x : ℕ} {ys : List ℕ} → n ≤ x → Walked x ys → Changed f n xs ys
      walked_done l w = changed_back l (λ z u t. still z (w.past z u t)) w.changed

    -- The entry at x is still as it was.
    pub walked_now : {x : ℕ} {ys : List ℕ} → Walked x ys → get_or ys x 0 ≡ get_or xs x 0
    walked_now {x} w = w.changed.at x ∙ rw (le-ltb x x (omega arith)) refl

-- What is left with z, once what agrees is taken of the sets left.
abbrev pub rest : ℕ → ℕ → ℕ → List ℕ → ℕ → ℕ
rest care value set left z = bit_xor (get_or left z 0) (agreed care value set z (get_or left z 0))

-- With an input that does not agree all is left.
pub rest_still : (care value set : ℕ) (left : List ℕ) (z : ℕ) → eqb (bit_and z care) value ≡ false → rest care value set left z ≡ get_or left z 0
rest_still care value set left z e = rw (e, xor_zero_r)
