-- The policy of a file that is not refused is well formed; and what that says of its ceilings and of each rule.
-- In order: the policy is well formed; passed tests as facts; what the check makes sure of in one rule, and in all; the same of a well-formed policy.
use Rattle.std.specs.Prelude.{◌≡◌, refl, Bool, true, ℕ, zero, suc, ◌+◌, ◌^◌, ◌≤◌, ◌<◌, leb, ltb, get_or}
use Rattle.std.proofs.Common.{ap, arith}
use Rattle.std.proofs.Math.Bool.{and-eq-true_iff}
use Rattle.std.proofs.lemmas.Bool.{false≢true}
use mathlib.Core.List.{List, [], ◌∷◌, ◌++◌}
use Rattle.std.proofs.Math.Logic.{⊎_map}
use Rattle.std.specs.Int.Bits.{bit_and}
use Rattle.std.proofs.Math.ListN.{length}
use borrow.Author.Tests.{leb-true, ltb-true, eqb-true}
use Rattle.streams.specs.Tests.{either}
use Rattle.streams.specs.Answer.{unless}
use Rattle.streams.specs.AnswerLaws.{none_refused, none_unless}
use Rattle.policy.specs.Rules.{Bound, Rule, Policy}
use Rattle.policy.specs.Stopped.{Lawful, AllLawful, lawful_none, lawful_more, LawfulRules, checked_none, checked_more}
use Rattle.policy.specs.File.{clocks_at, clock_count, policy_of}
use Rattle.policy.specs.Check.{all_pass, ceiling_good, mask_good, head_good, bound_good, bounds_good, rule_refusal, rules_refusal, refusal_of}
use Rattle.policy.specs.Sound.{WellFormed, Each, each_none, each_more, each_weak, Formed, Sound}
use Rattle.policy.specs.Frame.{pairs_length, rules_length, passed, inputs_length, outputs_length, locations_length}

-- The policy of a file that passes the check is well formed.
pub checked_file : (reading : ℕ) (f : List ℕ) → refusal_of f ≡ 0 → WellFormed (policy_of reading f)
unfolding policy_of
checked_file reading f e =
    let p = passed f e in
    let k = p.frame in
    let i = inputs_length f k in
    let o = outputs_length f k in
    let c = pairs_length f (clocks_at f + 1) (clock_count f) in
    record {
      inputs = rw i k.inputs;
      outputs = rw o k.outputs;
      clocks = rw c k.clocks;
      input_tags = p.in_tags;
      output_tags = p.out_tags;
      ceilings = p.ceilings;
      start = k.start;
      locations = k.locations;
      bytes = locations_length f k;
      left = p.left;
      rule_count = rw rules_length k.rules;
      rules = rw (i, o) p.rules;
      states = rw c p.states;
    }

-- A passed test, as the facts that it tests.
pub all_at : (test : ℕ → Bool) (xs : List ℕ) → all_pass test xs ≡ true → (i : ℕ) → i < length xs → test (get_or xs i 0) ≡ true
unfolding all_pass
all_at test [] e i h = absurd (omega arith)
all_at test (a ∷ rest) e zero h = ((and-eq-true_iff (test a) _).0 e).0
all_at test (a ∷ rest) e (suc i) h = all_at test rest ((and-eq-true_iff (test a) _).0 e).1 i (omega arith)

-- If all of xs and all of ys pass, all of the two together do.
pub all_append : (test : ℕ → Bool) (xs ys : List ℕ) → all_pass test xs ≡ true → all_pass test ys ≡ true → all_pass test (xs ++ ys) ≡ true
unfolding all_pass
all_append test [] ys g h = h
all_append test (x ∷ xs) ys g h =
    let t = (and-eq-true_iff (test x) (all_pass test xs)).0 g in
    (and-eq-true_iff (test x) _).1 (t.0, all_append test xs ys t.1 h)

-- Each ceiling that passes is 1 to 1,001.
pub ceiling_at : (cs : List ℕ) → all_pass ceiling_good cs ≡ true → (i : ℕ) → i < length cs → (1 ≤ get_or cs i 0) × (get_or cs i 0 ≤ 1001)
ceiling_at cs e i h =
    let k = (and-eq-true_iff (leb 1 (get_or cs i 0)) _).0 (all_at ceiling_good cs e i h) in (leb-true _ _ k.0, leb-true _ _ k.1)

mask-good : (signals care value : ℕ) → mask_good signals care value ≡ true → (care < 2 ^ signals) × (bit_and value care ≡ value)
unfolding mask_good
mask-good signals care value e =
    let k = (and-eq-true_iff (ltb care (2 ^ signals)) _).0 e in (ltb-true _ _ k.0, eqb-true _ _ k.1)

bound-good : (c : ℕ) (b : Bound) → bound_good c b ≡ true → (b.low ≤ b.high) × Lawful c b
unfolding bound_good
bound-good c b e =
    let h = (and-eq-true_iff (leb b.low b.high) _).0 e in
    let l = (and-eq-true_iff (leb b.low c) _).0 h.1 in
    (leb-true _ _ h.0, record { low = leb-true _ _ l.0; high = ⊎_map (ltb-true _ _) (eqb-true _ _) (either _ _ l.1) })

-- No low is above its high.
pub data Ordered : List Bound → Type 0 where
  ordered_none : Ordered []
  ordered_more : {b : Bound} {bs : List Bound} → b.low ≤ b.high → Ordered bs → Ordered (b ∷ bs)

bounds-good : (cs : List ℕ) (bs : List Bound) → bounds_good cs bs ≡ true → Ordered bs × AllLawful cs bs
unfolding bounds_good
bounds-good [] [] e = (ordered_none, lawful_none)
bounds-good [] (b ∷ bs) e = absurd (false≢true e)
bounds-good (c ∷ cs) [] e = absurd (false≢true e)
bounds-good (c ∷ cs) (b ∷ bs) e =
    let k = (and-eq-true_iff (bound_good c b) _).0 e in
    let h = bound-good c b k.0 in
    let t = bounds-good cs bs k.1 in
    (ordered_more h.0 t.0, lawful_more h.1 t.1)

lawful_length : {cs : List ℕ} {bs : List Bound} → AllLawful cs bs → length bs ≡ length cs
lawful_length lawful_none = refl
lawful_length (lawful_more l h) = ap suc (lawful_length h)

-- No source is below the one before it; the first is at least `before`.
pub data Rising : ℕ → List Rule → Type 0 where
  rising_none : {before : ℕ} → Rising before []
  rising_more : {before : ℕ} {r : Rule} {rs : List Rule} → before ≤ r.source → Rising r.source rs → Rising before (r ∷ rs)

-- All that the check makes sure of in one rule.
pub record Ruled (inputs outputs : ℕ) (cs : List ℕ) (locations : ℕ) (r : Rule) : Type 0 where
  pub source : r.source < locations
  pub in_care : r.in_care < 2 ^ inputs
  pub out_care : r.out_care < 2 ^ outputs
  pub formed : Formed (length cs) locations r
  pub ordered : Ordered r.bounds
  pub lawful : AllLawful cs r.bounds

module _ (inputs outputs : ℕ) (cs : List ℕ) (locations : ℕ) where
  rule_good : (before : ℕ) (r : Rule) → rule_refusal inputs outputs cs locations before r ≡ 0 →
      (before ≤ r.source) × Ruled inputs outputs cs locations r
  unfolding rule_refusal head_good
  rule_good before r e =
      let h = (none_refused (unless (head_good inputs outputs (length cs) locations before r) 6) _).0 e in
      let a = (and-eq-true_iff (leb before r.source) _).0 ((none_unless _ 5).0 h.0) in
      let s = (and-eq-true_iff (ltb r.source locations) _).0 a.1 in
      let i = (and-eq-true_iff (mask_good inputs r.in_care r.in_value) _).0 s.1 in
      let o = (and-eq-true_iff (mask_good outputs r.out_care r.out_value) _).0 i.1 in
      let t = (and-eq-true_iff (ltb r.reset (2 ^ length cs)) _).0 o.1 in
      let x = mask-good inputs r.in_care r.in_value i.0 in
      let y = mask-good outputs r.out_care r.out_value o.0 in
      let b = bounds-good cs r.bounds ((none_unless _ 6).0 h.1) in (
        leb-true _ _ a.0,
        record {
          source = ltb-true _ _ s.0;
          in_care = x.0;
          out_care = y.0;
          formed =
              record {
                inputs = x.1;
                outputs = y.1;
                reset = ltb-true _ _ t.0;
                bounds = lawful_length b.1;
                target = ⊎_map (ltb-true _ _) (eqb-true _ _) (either _ _ t.1);
              };
          ordered = b.0;
          lawful = b.1;
        },
      )

  -- Where no rule is refused, sources never fall, and each rule has all that the check makes sure of.
  pub rules_good : (before : ℕ) (rs : List Rule) → rules_refusal inputs outputs cs locations before rs ≡ 0 →
      Rising before rs × Each (Ruled inputs outputs cs locations) rs
  unfolding rules_refusal
  rules_good before [] e = (rising_none, each_none)
  rules_good before (r ∷ rs) e =
      let k = (none_refused (rule_refusal inputs outputs cs locations before r) _).0 e in
      let h = rule_good before r k.0 in
      let t = rules_good r.source rs k.1 in
      (rising_more h.0 t.0, each_more h.1 t.1)

  each_checked : {rs : List Rule} → Each (Ruled inputs outputs cs locations) rs → LawfulRules cs rs
  each_checked each_none = checked_none
  each_checked (each_more g h) = checked_more g.lawful (each_checked h)

module _ (p : Policy) (k : WellFormed p) where
  well_rules : Rising 0 p.rules × Each (Ruled (length p.inputs) (length p.outputs) p.ceilings p.locations) p.rules
  well_rules = rules_good (length p.inputs) (length p.outputs) p.ceilings p.locations 0 p.rules k.rules

  -- The sources of a well-formed policy never fall from one rule to the next.
  pub well_rising : Rising 0 p.rules
  well_rising = well_rules.0

  -- Each rule of a well-formed policy has all that the check makes sure of.
  pub well_ruled : Each (Ruled (length p.inputs) (length p.outputs) p.ceilings p.locations) p.rules
  well_ruled = well_rules.1

  -- A well-formed policy is sound.
  pub well_sound : Sound p
  well_sound = record { start = k.start; rules = each_weak (λ r g. g.formed) well_ruled }

  -- Its bounds are lawful, so that stopped clocks change no answer.
  pub well_checked : LawfulRules p.ceilings p.rules
  well_checked = each_checked (length p.inputs) (length p.outputs) p.ceilings p.locations well_ruled

  -- Each of its ceilings is 1 to 1,001.
  pub well_ceiling : (i : ℕ) → i < length p.ceilings → (1 ≤ get_or p.ceilings i 0) × (get_or p.ceilings i 0 ≤ 1001)
  well_ceiling = ceiling_at p.ceilings k.ceilings
