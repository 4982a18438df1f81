-- What the proofs of the join cite of the joined file: what the join counts, its limits, its rules and the bytes before them.
use mathlib.Core.Path.{◌≡◌, refl, ap, ap₂, sym, ◌∙◌}
use mathlib.Core.Bool.{Bool, cond, ◌&&◌, and-eq-true_iff}
use mathlib.Core.List.{List, [], ◌∷◌, ◌++◌, append_assoc}
use Prim.Native.Nat.{ℕ, ◌+◌, ◌*◌, ◌/◌, ◌%◌, ◌≤◌, ◌<◌}
use native.Mathlib.Nat.{div-lt_iff_lt-mul, mod-lt}
use native.Mathlib.Omega.{arith}
use lib.Dec.{leb}
use lib.ListN.{length, length-append}
use borrow.Author.Tests.{leb-true}
use Rattle.policy.specs.Rules.{rests}
use Rattle.policy.specs.File.{byte_at, rule_size, input_count, output_count, clocks_at, clock_count, location_count, rules_start, input_tags, output_tags, ceilings_of, rule_section, policy_of}
use Rattle.policy.specs.Bytes.{pairs_bytes, counts_bytes}
use Rattle.policy.specs.Sound.{each_weak}
use Rattle.policy.specs.Frame.{frame, inputs_length, outputs_length, pairs_length}
use Rattle.policy.specs.Checked.{checked_file, well_sound, well_rising}
use Rattle.policy.specs.ReadBack.{rules_length}
use Rattle.join.specs.Left.{left_length}
use Rattle.pairing.specs.Joins.{join_clocks}
use Rattle.pairing.proofs.JoinsSound.{join_sound}
use Rattle.policy.specs.Number.{states}
use Rattle.policy.specs.Layout.{layout_of}
use Rattle.policy.specs.declared.Layout.{Layout}
use Rattle.pairing.specs.Join.{left_at, join}
use Rattle.join.specs.Entry.{said}
use Rattle.pairing.specs.RuleBytes.{Joinable, Section, rules_in, rows_bytes}
use Rattle.join.specs.JoinBytes.{LayoutOf, limits, PartsReady, joined_count, joined_rules, counts_from, counts_length}
use Rattle.laying.specs.Laying.{bytes_length, pairs_copied, signals_laid}
use Rattle.join.proofs.SizeLaws.{sizes}

-- What the join counts, by the two files.
pub clocks_joined : (f g : List ℕ) → length (join (said f) (said g)).ceilings ≡ clock_count f + clock_count g
unfolding policy_of
clocks_joined f g =
    join_clocks (said f) (said g) ∙ ap₂ ◌+◌ (pairs_length f (clocks_at f + 1) (clock_count f)) (pairs_length g (clocks_at g + 1) (clock_count g))

pub places_joined : (f g : List ℕ) → (join (said f) (said g)).locations ≡ location_count f * location_count g
unfolding policy_of join
places_joined f g = refl

places_read : (f : List ℕ) → (said f).locations ≡ location_count f
unfolding policy_of
places_read f = refl

pub states_read : (f : List ℕ) → states (said f) ≡ (layout_of 1 f).states
unfolding policy_of
states_read f = rw (pairs_length f (clocks_at f + 1) (clock_count f))

-- The rule section as the writers want it.
pub rules_section : {f : List ℕ} {x : Layout} → LayoutOf f x → Section x (rule_section f)
unfolding policy_of
rules_section {f} l =
    let z = sizes l in
    let w = checked_file 1 f l.passes in
    let c = pairs_length f (clocks_at f + 1) (clock_count f) in
    record {
      whole = record { few = z.rules; ends = z.whole; formed = rw l.is (rw c at (well_sound (said f) w).rules) };
      rising = rw l.is (well_rising (said f) w);
    }

-- The limits of the join, and its rules.
module _ {f g : List ℕ} {x y : Layout} (r : PartsReady f x g y) where
  pub few : (x.locations * y.locations ≤ 64) × (x.clocks + y.clocks ≤ 4) × (x.states * y.states ≤ 65536)
  unfolding limits
  few =
      let l = (and-eq-true_iff (leb (x.locations * y.locations) 64) _).0 r.within in
      let k = (and-eq-true_iff (leb (x.clocks + y.clocks) 4) _).0 l.1 in
      (leb-true _ _ l.0, leb-true _ _ k.0, leb-true _ _ k.1)

  pub joinable : Joinable x y
  joinable = record { clocks = few.1; locations = few.0; start = (sizes r.first).start; other = (sizes r.second).start }

  -- The pair with the number m: a location of A and one of B, as the layouts say where their bytes stand.
  pub first_place : (m : ℕ) → m < x.locations * y.locations →
      (x.locations ≡ location_count f) × (x.rules_start ≡ rules_start f) × (m / y.locations < x.locations)
  first_place m h =
      let some : 0 < y.locations = (sizes r.second).start in
      (ap (λ (l : Layout). l.locations) r.first.is, ap (λ (l : Layout). l.rules_start) r.first.is, (div-lt_iff_lt-mul some).1 h)

  pub second_place : (m : ℕ) → m < x.locations * y.locations →
      (y.locations ≡ location_count g) × (y.rules_start ≡ rules_start g) × (m % y.locations < y.locations)
  second_place m h =
      (ap (λ (l : Layout). l.locations) r.second.is, ap (λ (l : Layout). l.rules_start) r.second.is, mod-lt m (sizes r.second).start)

  pub left_by : (m : ℕ) {t u v : Bool} → t ≡ rests (policy_of x.reading f) (m / y.locations) →
      u ≡ rests (policy_of y.reading g) (m % y.locations) → (t && u) ≡ v →
      left_at (said f) (said g) m ≡ cond v 0 1
  unfolding left_at rests
  left_by m e h k =
      let n : (said g).locations ≡ y.locations = places_read g ∙ sym (ap (λ (l : Layout). l.locations) r.second.is) in
      rw (n, ← rw (ap (λ (l : Layout). l.reading) r.first.is) at e, ← rw (ap (λ (l : Layout). l.reading) r.second.is) at h, k)

  pub rules_joined : rows_bytes x y (rules_in x (rule_section f)) (rules_in y (rule_section g)) (x.locations * y.locations) ≡ joined_rules f g
  unfolding policy_of join
  rules_joined = rw (r.first.is, r.second.is, pairs_length f (clocks_at f + 1) (clock_count f))

  -- Each rule takes as many bytes as any other.
  pub joined_length : length (joined_rules f g) ≡ joined_count f g * rule_size (x.clocks + y.clocks)
  joined_length =
      let a = well_sound (said f) (checked_file 1 f r.first.passes) in
      let b = well_sound (said g) (checked_file 1 g r.second.passes) in
      let k = each_weak (λ s h. h.bounds) (join_sound (said f) (said g) a b).rules in
      rw (r.first.is, r.second.is) (rw (clocks_joined f g) at (rules_length _ k))

pairs_append : (cs ds : List ℕ) → pairs_bytes (cs ++ ds) ≡ pairs_bytes cs ++ pairs_bytes ds
unfolding pairs_bytes
pairs_append [] ds = refl
pairs_append (c ∷ cs) ds = rw (pairs_append cs ds)

module _ {f g : List ℕ} {x y : Layout} (r : PartsReady f x g y) where
  -- The bytes before the rules are those of the joined policy.
  pub counts_joined : ((i : ℕ) → byte_at f i < 256) → ((i : ℕ) → byte_at g i < 256) → {n : ℕ} → n ≡ joined_count f g →
      counts_from f x g y n ≡ counts_bytes (join (said f) (said g))
  unfolding counts_bytes policy_of join
  counts_joined a b e =
      let k = frame f r.first.passes in
      let l = frame g r.second.passes in
      let p : 2 + input_count f + output_count f + 1 ≡ clocks_at f + 1 = omega arith in
      let q : 2 + input_count g + output_count g + 1 ≡ clocks_at g + 1 = omega arith in
      rw (
        r.first.is,
        r.second.is,
        e,
        p,
        q,
        signals_laid f k,
        inputs_length f k,
        outputs_length f k,
        length-append (ceilings_of f) (ceilings_of g),
        pairs_length f (clocks_at f + 1) (clock_count f),
        pairs_length g (clocks_at g + 1) (clock_count g),
        pairs_append (ceilings_of f) (ceilings_of g),
        pairs_copied f a (clocks_at f + 1) (clock_count f),
        pairs_copied g b (clocks_at g + 1) (clock_count g),
      )
      (append_assoc (input_count f ∷ input_tags f) (output_count f ∷ output_tags f) _)

  pub counts_long : (n : ℕ) → length (counts_from f x g y n) ≡ counts_length x y
  counts_long n = simp (length-append, bytes_length, left_length) (omega arith)
