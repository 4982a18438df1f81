-- What the proofs of the writers cite: the bytes of a rule with new numbers, a turn of each loop, and the whole file.
use mathlib.Core.Path.{◌≡◌, refl, sym, ap, ◌∙◌}
use mathlib.Core.Bool.{Bool, true, false, cond}
use mathlib.Core.List.{List, [], ◌∷◌, ◌++◌, map, append_assoc}
use mathlib.Core.Logic.{◌⊎◌}
use Prim.Native.Nat.{ℕ, suc, ◌+◌, ◌-◌, ◌*◌, ◌≤◌, ◌<◌}
use native.Mathlib.Nat.{suc-mul}
use native.Mathlib.Numerals.{add-one}
use native.Mathlib.Omega.{arith}
use lib.Dec.{eqb}
use lib.ListN.{length, get_or, drop, length-map}
use lib.Seq.{drop-cons}
use Rattle.policy.specs.Rules.{Rule}
use Rattle.policy.specs.File.{byte_at, part, rule_size, rule_from, rules_from, rules_of, input_count, output_count, clocks_at, clock_count, locations_at, location_count, rule_count, input_tags, output_tags, ceilings_of, location_bytes, policy_of}
use Rattle.policy.specs.Bytes.{pair_bytes, pairs_bytes, rule_bytes, rules_bytes, counts_bytes, bytes_of}
use Rattle.policy.specs.Sound.{Each, each_more, each_weak}
use Rattle.policy.specs.Frame.{Framed, frame, rules_length, inputs_length, outputs_length, pairs_length, bounds_length}
use Rattle.policy.specs.Checked.{well_ruled}
use Rattle.policy.specs.Parts.{rules_part, next_rule, no_rule}
use Rattle.policy.specs.ReadBack.{rule_length}
use Rattle.policy.specs.declared.Layout.{Layout}
use Rattle.stepping.specs.Ready.{Laid}
use Rattle.stepping.specs.Laid.{laid_well, laid_rules, laid_section, laid_limits}
use Rattle.laying.specs.Lay.{bytes_from}
use Rattle.laying.specs.Laying.{pairs_copied, bounds_copied, bytes_add, bytes_part, signals_laid}
use Rattle.usage.specs.Sift.{sift, rank, kept}
use Rattle.cleaning.specs.SiftLaws.{length_sift, rank_full}
use Rattle.usage.specs.Clean.{Struck, renamed, renumbered, unless_kept, locations_struck, rules_struck, struck_bytes}
use Rattle.usage.specs.Code.{flags_of, EndsAt, Flagged, cleaned_rule, cleaned_rules, cleaned_by, struck_by}
use Rattle.usage.proofs.FlagLaws.{flags_long, flags_byte}

-- ---- A checked file: its rules where they stand, and their locations.
pub record Ended (n : ℕ) (r : Rule) : Type 0 where
  pub source : r.source < n
  pub target : (r.target < n) ⊎ (r.target ≡ 255)

module _ {f : List ℕ} {l : Layout} (k : Laid f l) where
  pub rules_here : rules_from l.clocks f l.rules_start l.rules ≡ rules_of f
  rules_here =
      let n : l.rules_end - l.rules_start ≡ l.rules * rule_size l.clocks = omega (arith, laid_section k) in
      sym (rules_part f l.clocks l.rules_start l.rules) ∙ ap (λ (m : ℕ). rules_from l.clocks (part f l.rules_start m) 0 l.rules) (sym n) ∙ laid_rules k

  pub rules_ended : Each (Ended l.locations) (rules_from l.clocks f l.rules_start l.rules)
  unfolding policy_of
  rules_ended = rw (rules_here, k.locations) (each_weak (λ r g. record { source = g.source; target = g.formed.target }) (well_ruled (policy_of l.reading f) (laid_well k)))

-- The n - i rules that are left from p on: the first, and the others, end before m.
pub left_room : (p s n i m : ℕ) → i < n → p + (n - i) * s ≤ m → (p + s ≤ m) × (p + s + (n - (i + 1)) * s ≤ m)
left_room p s n i m u h =
    let e : n - i ≡ suc (n - (i + 1)) = omega arith in
    let k = ap (λ (z : ℕ). z * s) e ∙ suc-mul (n - (i + 1)) s in
    (omega arith, omega arith)

-- The first of the rules that are left, and the others.
module _ (clocks : ℕ) (f : List ℕ) (p n i m : ℕ) (u : i < n) (h : Each (Ended m) (rules_from clocks f p (n - i))) where
  split : Ended m (rule_from clocks f p) × Each (Ended m) (rules_from clocks f (p + rule_size clocks) (n - (i + 1)))
  split = go (rw (next_rule clocks f p n i u) at h)
    where
      go : {r : Rule} {rs : List Rule} → Each (Ended m) (r ∷ rs) → Ended m r × Each (Ended m) rs
      go (each_more a b) = (a, b)

  pub ended_first : EndsAt f p m
  unfolding rule_from
  ended_first = record { source = split.0.source; target = split.0.target }

  pub ended_rest : Each (Ended m) (rules_from clocks f (p + rule_size clocks) (n - (i + 1)))
  ended_rest = split.1

-- i of n rules are passed, and the next stands at p; each is of m locations.
pub record Rest (f : List ℕ) (clocks n m i p : ℕ) : Type 0 where
  pub few : i ≤ n
  pub room : p + (n - i) * rule_size clocks ≤ length f
  pub each : Each (Ended m) (rules_from clocks f p (n - i))

pub rest_start : {f : List ℕ} {l : Layout} {entered used : List ℕ} → Flagged f l entered used → Rest f l.clocks (length used) (length entered) 0 l.rules_start
rest_start {f} {l} {entered} {used} k =
    let z : length used - 0 ≡ l.rules = omega (arith, k.rules) in
    record {
      few = omega arith;
      room = rw z (omega (arith, laid_section k.laid, laid_limits k.laid));
      each = rw (z, k.locations) (rules_ended k.laid);
    }

module _ (f : List ℕ) (clocks n m i p : ℕ) (g : Rest f clocks n m i p) (u : i < n) where
  pub rest_first : (p + rule_size clocks ≤ length f) × EndsAt f p m
  rest_first = ((left_room p (rule_size clocks) n i (length f) u g.room).0, ended_first clocks f p n i m u g.each)

  pub rest_more : Rest f clocks n m (i + 1) (p + rule_size clocks)
  rest_more =
      record {
        few = omega arith;
        room = (left_room p (rule_size clocks) n i (length f) u g.room).1;
        each = ended_rest clocks f p n i m u g.each;
      }

-- ---- One rule with new numbers.
pub rule_laid : (L : List Bool) (clocks : ℕ) (f : List ℕ) (p : ℕ) {source target : ℕ} → ((i : ℕ) → byte_at f i < 256) →
    source ≡ rank L (byte_at f p) → target ≡ renumbered L (byte_at f (p + 6)) →
    (((source ∷ []) ++ bytes_from f (p + 1) 5) ++ (target ∷ [])) ++ bytes_from f (p + 7) (4 * clocks) ≡ cleaned_rule L (rule_from clocks f p)
unfolding rule_from rule_bytes bytes_from
rule_laid L clocks f p b s t =
    let c : p + 1 + 1 ≡ p + 2 = omega arith in
    let d : p + 2 + 1 ≡ p + 3 = omega arith in
    let e : p + 3 + 1 ≡ p + 4 = omega arith in
    let g : p + 4 + 1 ≡ p + 5 = omega arith in rw (s, t, c, d, e, g, bounds_copied f b (p + 7) clocks)

pub rule_long : (L : List Bool) (clocks : ℕ) (f : List ℕ) (p : ℕ) → length (cleaned_rule L (rule_from clocks f p)) ≡ rule_size clocks
unfolding rule_from
rule_long L clocks f p = rule_length clocks (renamed L (rule_from clocks f p)) (bounds_length f (p + 7) clocks)

-- ---- A turn of the loop over the rules.
module _ (L : List Bool) where
  rules_turn : (b : Bool) (U : List Bool) (r : Rule) (rs : List Rule) → cleaned_rules L (b ∷ U) (r ∷ rs) ≡ cond b (cleaned_rule L r) [] ++ cleaned_rules L U rs
  unfolding rules_bytes
  rules_turn true U r rs = refl
  rules_turn false U r rs = refl

  pub cleaned_turn : (used : List ℕ) (clocks : ℕ) (f : List ℕ) (p n i : ℕ) {b : Bool} → length used ≡ n → i < n → b ≡ eqb (get_or used i 0) 1 →
      cleaned_rules L (drop i (flags_of used)) (rules_from clocks f p (n - i))
      ≡ cond b (cleaned_rule L (rule_from clocks f p)) [] ++ cleaned_rules L (drop (i + 1) (flags_of used)) (rules_from clocks f (p + rule_size clocks) (n - (i + 1)))
  cleaned_turn used clocks f p n i {b} e u q =
      rw (drop-cons (flags_of used) i false (omega (arith, flags_long used)), next_rule clocks f p n i u, flags_byte used i, ← q, add-one i)
      (rules_turn b (drop (suc i) (flags_of used)) (rule_from clocks f p) (rules_from clocks f (p + rule_size clocks) (n - suc i)))

  pub cleaned_start : (used : List ℕ) {f : List ℕ} {l : Layout} → Laid f l → {n : ℕ} → n ≡ l.rules →
      cleaned_rules L (flags_of used) (rules_of f) ≡ cleaned_rules L (drop 0 (flags_of used)) (rules_from l.clocks f l.rules_start (n - 0))
  cleaned_start used {f} {l} k e = let z : l.rules - 0 ≡ l.rules = omega arith in rw (e, z, rules_here k)

  pub cleaned_end : (used : List ℕ) (clocks : ℕ) (f : List ℕ) (p n i : ℕ) → n ≤ i → cleaned_rules L (drop i (flags_of used)) (rules_from clocks f p (n - i)) ≡ []
  unfolding rules_bytes
  cleaned_end used clocks f p n i h = rw (no_rule clocks f p n i h) (go (drop i (flags_of used)))
    where
      go : (U : List Bool) → rules_bytes (map (renamed L) (sift U [])) ≡ []
      go [] = refl
      go (b ∷ U) = refl

-- ---- The list of what was struck.
struck_append : (xs ys : List Struck) → struck_bytes (xs ++ ys) ≡ struck_bytes xs ++ struck_bytes ys
struck_append [] ys = refl
struck_append (x ∷ xs) ys = rw (struck_append xs ys)

unless_bytes : (b : Bool) (kind number : ℕ) (xs : List Struck) →
    struck_bytes (unless_kept b (record { kind = kind; number = number }) xs) ≡ cond b [] (kind ∷ pair_bytes number) ++ struck_bytes xs
unless_bytes true kind number xs = refl
unless_bytes false kind number xs = refl

pub locations_turn : (entered : List ℕ) (i : ℕ) {b : Bool} → i < length entered → b ≡ eqb (get_or entered i 0) 1 →
    struck_bytes (locations_struck i (drop i (flags_of entered))) ≡ cond b [] (1 ∷ pair_bytes i) ++ struck_bytes (locations_struck (i + 1) (drop (i + 1) (flags_of entered)))
locations_turn entered i {b} u q =
    rw (drop-cons (flags_of entered) i false (omega (arith, flags_long entered)), flags_byte entered i, ← q, add-one i)
    (unless_bytes b 1 i (locations_struck (suc i) (drop (suc i) (flags_of entered))))

module _ (entered used : List ℕ) where
  pub struck_turn : (clocks : ℕ) (f : List ℕ) (p n i : ℕ) {b : Bool} {kind : ℕ} → length used ≡ n → i < n → b ≡ eqb (get_or used i 0) 1 →
      kind ≡ cond (eqb (get_or entered (byte_at f p) 0) 1) 3 2 →
      struck_bytes (rules_struck (flags_of entered) i (drop i (flags_of used)) (rules_from clocks f p (n - i)))
      ≡ cond b [] (kind ∷ pair_bytes i) ++ struck_bytes (rules_struck (flags_of entered) (i + 1) (drop (i + 1) (flags_of used)) (rules_from clocks f (p + rule_size clocks) (n - (i + 1))))
  unfolding rule_from
  struck_turn clocks f p n i {b} {kind} e u q k =
      rw (drop-cons (flags_of used) i false (omega (arith, flags_long used)), next_rule clocks f p n i u, flags_byte used i, ← q, flags_byte entered (byte_at f p), ← k, add-one i)
      (unless_bytes b kind i (rules_struck (flags_of entered) (suc i) (drop (suc i) (flags_of used)) (rules_from clocks f (p + rule_size clocks) (n - suc i))))

  pub struck_start : {f : List ℕ} {l : Layout} → Laid f l → {n : ℕ} → n ≡ l.rules →
      struck_bytes (rules_struck (flags_of entered) 0 (flags_of used) (rules_of f))
      ≡ struck_bytes (rules_struck (flags_of entered) 0 (drop 0 (flags_of used)) (rules_from l.clocks f l.rules_start (n - 0)))
  struck_start {f} {l} k e = let z : l.rules - 0 ≡ l.rules = omega arith in rw (e, z, rules_here k)

  pub struck_whole : (f : List ℕ) (l : Layout) →
      struck_bytes (locations_struck 0 (flags_of entered)) ++ struck_bytes (rules_struck (flags_of entered) 0 (flags_of used) (rules_of f)) ≡ struck_by f l entered used
  unfolding struck_by policy_of
  struck_whole f l = sym (struck_append (locations_struck 0 (flags_of entered)) _)

-- ---- The whole file.
regroup : (a b c : List ℕ) (n : ℕ) (s p r : List ℕ) → ((((a ++ (b ++ c)) ++ (n ∷ [])) ++ s) ++ p) ++ r ≡ (a ++ (b ++ (c ++ ((n ∷ s) ++ p)))) ++ r
regroup a b c n s p r = simp append_assoc

module _ {f : List ℕ} {l : Layout} {entered used : List ℕ} (k : Flagged f l entered used) where
  framed : Framed f
  framed = frame f k.laid.passes

  pub flags_few : (length entered ≤ 64) × (length used ≤ 256)
  flags_few = (omega (arith, k.locations, k.laid.locations, framed), omega (arith, k.rules, k.laid.rules, framed))

  -- Where the locations stand.
  pub places_at : (l.rules_start - 3 - l.locations ≡ locations_at f) × (3 + l.locations ≤ l.rules_start)
  places_at = (rw (k.laid.start, k.laid.locations) (omega (arith, framed)), rw (k.laid.start, k.laid.locations) (omega (arith, framed)))

  pub head_few : l.rules_start - 3 - l.locations ≤ 19
  head_few = rw places_at.0 (omega (arith, framed))

  head_laid : ((i : ℕ) → byte_at f i < 256) →
      bytes_from f 0 (locations_at f) ≡ (input_count f ∷ input_tags f) ++ ((output_count f ∷ output_tags f) ++ (clock_count f ∷ pairs_bytes (ceilings_of f)))
  unfolding bytes_from
  head_laid b =
      let n : locations_at f ≡ 2 + input_count f + output_count f + suc (2 * clock_count f) = omega (arith, framed) in
      let c : 0 + (2 + input_count f + output_count f) ≡ clocks_at f = omega (arith, framed) in
      rw (n, bytes_add f 0 (2 + input_count f + output_count f) (suc (2 * clock_count f)), c, signals_laid f framed, ← pairs_copied f b (clocks_at f + 1) (clock_count f), append_assoc (input_count f ∷ input_tags f) (output_count f ∷ output_tags f) _)

  pub file_laid : ((i : ℕ) → byte_at f i < 256) → {at places rules : ℕ} → at ≡ locations_at f → places ≡ rank (flags_of entered) (length entered) → rules ≡ rank (flags_of used) (length used) →
      (((bytes_from f 0 at ++ (places ∷ [])) ++ sift (flags_of entered) (bytes_from f (at + 1) (length entered))) ++ pair_bytes rules)
      ++ cleaned_rules (flags_of entered) (flags_of used) (rules_of f)
      ≡ cleaned_by f l entered used
  unfolding cleaned_by bytes_of counts_bytes policy_of
  file_laid b {at} {places} {rules} e c d =
      let m = c ∙ ap (rank (flags_of entered)) (sym (flags_long entered)) ∙ rank_full (flags_of entered) in
      let n = d ∙ ap (rank (flags_of used)) (sym (flags_long used)) ∙ rank_full (flags_of used) in
      rw (e, m, n, k.locations, k.laid.locations)
      (rw (head_laid b, bytes_part f (locations_at f + 1) (location_count f) (omega (arith, framed)), inputs_length f framed, outputs_length f framed, pairs_length f (clocks_at f + 1) (clock_count f), length-map (sift (flags_of used) (rules_of f)) (renamed (flags_of entered)), length_sift (flags_of used) (rules_of f) many)
      (regroup (input_count f ∷ input_tags f) (output_count f ∷ output_tags f) (clock_count f ∷ pairs_bytes (ceilings_of f)) (kept (flags_of entered)) (sift (flags_of entered) (location_bytes f)) (pair_bytes (kept (flags_of used))) (cleaned_rules (flags_of entered) (flags_of used) (rules_of f))))
    where
      many : length (flags_of used) ≡ length (rules_of f)
      many = flags_long used ∙ k.rules ∙ k.laid.rules ∙ sym (rules_length (clock_count f) _ 0 (rule_count f))
