-- What the proofs of the join cite of each answer: the refusals, and the file that is written.
use mathlib.Core.Path.{◌≡◌, refl, ap, sym, ◌∙◌}
use mathlib.Core.Bool.{Bool, true, false, ◌&&◌}
use mathlib.Core.List.{List, ◌++◌}
use Prim.Native.Nat.{ℕ, zero, suc, ◌+◌, ◌-◌, ◌*◌, ◌/◌, ◌≤◌, ◌<◌}
use native.Mathlib.Nat.{mul-div_cancel}
use native.Mathlib.Omega.{arith}
use lib.Dec.{leb}
use lib.ListN.{length, take, drop, length-append}
use borrow.Author.Tests.{le-leb, lt-leb}
use Rattle.streams.specs.Answer.{refused, gives}
use Rattle.refusals.specs.Refused.{number_of}
use Rattle.refusals.specs.Laws.{number_above, refused_first, refused_answer}
use Rattle.refusals.specs.declared.Refusal.{Refusal}
use Rattle.policy.specs.File.{byte_at, rule_size, clock_count, location_count}
use Rattle.policy.specs.Check.{refusal_of}
use Rattle.policy.specs.Bytes.{counts_bytes, bytes_of}
use Rattle.policy.specs.Layout.{layout_of}
use Rattle.policy.specs.declared.Layout.{Layout}
use Rattle.pairing.specs.Join.{join}
use Rattle.join.specs.Entry.{same_signals, join_fits, said, joined_file, written_over, join_refusal, join_of, joined_out}
use Rattle.join.specs.Promise.{JoinPromise}
use Rattle.join.specs.Limits.{states_join}
use Rattle.join.specs.JoinBytes.{LayoutOf, limits, PartsReady, joined_count, joined_rules, counts_from, counts_length}
use Rattle.laying.specs.Lay.{LaidAt}
use Rattle.laying.specs.Laying.{laid_parts}
use Rattle.join.proofs.FileLaws.{clocks_joined, places_joined, states_read, joined_length, counts_joined, counts_long}

-- 13, by the layouts.
regroup : (l k r s : Bool) → (l && (k && (r && s))) ≡ ((l && (k && s)) && r)
regroup false k r s = refl
regroup true false r s = refl
regroup true true false true = refl
regroup true true false false = refl
regroup true true true true = refl
regroup true true true false = refl

pub fits_joined : {f g : List ℕ} {x y : Layout} → LayoutOf f x → LayoutOf g y →
    join_fits (join (said f) (said g)) ≡ (limits x y && leb (joined_count f g) 256)
unfolding join_fits limits
fits_joined {f} {g} l m =
    rw (
      l.is,
      m.is,
      states_join (said f) (said g),
      places_joined f g,
      clocks_joined f g,
      states_read f,
      states_read g,
    )
    (regroup (leb (location_count f * location_count g) 64) (leb (clock_count f + clock_count g) 4) (leb (joined_count f g) 256)
    (leb ((layout_of 1 f).states * (layout_of 1 g).states) 65536))

unwritten : (f g out : List ℕ) (n : ℕ) → 0 < n → out ≡ written_over f g out n
unwritten f g out zero h = absurd (omega arith)
unwritten f g out (suc n) h = refl

-- The answers: a refusal leaves the slice as it was.
module _ {f g : List ℕ} (out : List ℕ) where
  refuses : (r : Refusal) → join_refusal f g out ≡ number_of r → JoinPromise f g out (refused (number_of r)) out
  unfolding join_of joined_out
  refuses r e = record { answers = rw (e, refused_answer); writes = rw e (unwritten f g out (number_of r) (number_above r)) }

  -- 1 to 9, of A and then of B.
  pub refused_a : (r : Refusal) → refusal_of f ≡ number_of r → JoinPromise f g out (refused (number_of r)) out
  unfolding join_refusal
  refused_a r e = refuses r (rw (e, refused_first))

  pub refused_b : (r : Refusal) → refusal_of f ≡ 0 → refusal_of g ≡ number_of r → JoinPromise f g out (refused (number_of r)) out
  unfolding join_refusal
  refused_b r l e = refuses r (rw (l, e, refused_first))

  module _ {x y : Layout} (l : LayoutOf f x) (m : LayoutOf g y) where
    pub refused_12 : same_signals (said f) (said g) ≡ false → JoinPromise f g out (refused 12) out
    unfolding join_refusal
    refused_12 e = refuses Refusal.OtherTags (rw (l.passes, m.passes, e))

    module _ (s : same_signals (said f) (said g) ≡ true) where
      pub refused_13 : (limits x y && leb (joined_count f g) 256) ≡ false → JoinPromise f g out (refused 13) out
      unfolding join_refusal
      refused_13 e = refuses Refusal.LargeJoin (rw (l.passes, m.passes, s, fits_joined l m, e))

      module _ (e : (limits x y && leb (joined_count f g) 256) ≡ true) where
        pub refused_14 : length out < length (joined_file f g out) → JoinPromise f g out (refused 14) out
        unfolding join_refusal
        refused_14 h = refuses Refusal.NoRoom (rw (l.passes, m.passes, s, fits_joined l m, e, lt-leb (length (joined_file f g out)) (length out) h))

        pub not_refused : length (joined_file f g out) ≤ length out → join_refusal f g out ≡ 0
        unfolding join_refusal
        not_refused h = rw (l.passes, m.passes, s, fits_joined l m, e, le-leb (length (joined_file f g out)) (length out) h)

-- The answers where neither 12 nor, but for the rules, 13 is given.
module _ {f g : List ℕ} {x y : Layout} (r : PartsReady f x g y) where
  pub rules_counted : {n : ℕ} → n ≡ length (joined_rules f g) → n / rule_size (x.clocks + y.clocks) ≡ joined_count f g
  rules_counted e = rw (e, joined_length r) (mul-div_cancel _ (omega arith))

  module _ (a : (i : ℕ) → byte_at f i < 256) (b : (i : ℕ) → byte_at g i < 256) (out : List ℕ) where
    pub file_length : length (joined_file f g out) ≡ counts_length x y + length (joined_rules f g)
    unfolding joined_file bytes_of
    file_length =
        length-append (counts_bytes (join (said f) (said g))) _
        ∙ ap (λ (n : ℕ). n + length (joined_rules f g)) (ap length (sym (counts_joined r a b refl)) ∙ counts_long r _)

    pub file_laid : counts_length x y + length (joined_rules f g) ≤ length out → {n : ℕ} → n ≡ joined_count f g → {m w : List ℕ} {i j : ℕ} →
        LaidAt (counts_from f x g y n) out 0 m i → LaidAt (joined_rules f g) (take (length m - i) (drop i m)) 0 w j →
        take i m ++ (w ++ drop (length m - i) (drop i m)) ≡ written_over f g out 0
    unfolding joined_file bytes_of
    file_laid h {n} e {i = i} l k =
        let c : length (counts_from f x g y n) ≡ i = omega (arith, l.ends) in
        let p = laid_parts (rw (counts_long r n) h) l (rw (← c) at k) in rw (c, counts_joined r a b e) at p

  module _ (out : List ℕ) where
    pub too_many : 256 < joined_count f g → JoinPromise f g out (refused 13) out
    too_many h = refused_13 out r.first r.second r.signals (rw r.within (lt-leb _ 256 h))

    module _ (h : joined_count f g ≤ 256) where
      fits : (limits x y && leb (joined_count f g) 256) ≡ true
      fits = rw r.within (le-leb _ 256 h)

      pub too_short : length out < length (joined_file f g out) → JoinPromise f g out (refused 14) out
      too_short = refused_14 out r.first r.second r.signals fits

      pub written : length (joined_file f g out) ≤ length out → {n : ℕ} {after : List ℕ} → n ≡ length (joined_file f g out) → after ≡ written_over f g out 0 →
          JoinPromise f g out (gives n) after
      unfolding join_of joined_out
      written s n w = let e = not_refused out r.first r.second r.signals fits s in record { answers = rw (e, n); writes = rw e w }
