-- The cleaned policy passes the check. For any flags that are meant so.
use Rattle.std.specs.Prelude.{◌≡◌, refl, Bool, true, false, cond, List, [], ◌∷◌, map, ◌⊎◌, ℕ, zero, suc, ◌≤◌, ◌<◌, eqb, length}
use Rattle.std.proofs.Common.{sym, ◌∙◌, inl, inr, zero-le, le_refl, le_trans, mul-le-mul, arith}
use Rattle.std.proofs.Math.Bool.{and-eq-true_iff}
use Rattle.std.proofs.Math.Option.{some}
use Rattle.std.proofs.lemmas.List.{length-map}
use Rattle.std.proofs.lemmas.Bool.{eqb-false}
use Rattle.policy.specs.Rules.{Rule, Policy}
use Rattle.policy.specs.Number.{states, states_of}
use Rattle.policy.specs.Numbered.{states_each}
use Rattle.policy.specs.Check.{all_pass, location_good, rules_refusal}
use Rattle.policy.specs.Sound.{WellFormed, Each, each_none, each_more}
use Rattle.policy.specs.Checked.{Rising, rising_none, rising_more, Ruled, well_rising, well_ruled}
use Rattle.policy.specs.Reached.{reached_start}
use Rattle.join.specs.Again.{rules_pass}
use Rattle.usage.specs.Sift.{flag, nth, sift, rank, kept}
use Rattle.cleaning.specs.SiftLaws.{rank_kept, length_sift}
use Rattle.usage.specs.Clean.{Entered, Meant, renumbered, renamed, cleaned}
use Rattle.cleaning.specs.Same.{entered_here, used_rule, used_source}

-- Nothing becomes more, and what never falls does not fall then.
rank_rises : (L : List Bool) (i j : ℕ) → i ≤ j → rank L i ≤ rank L j
rank_rises L zero j l = zero-le
rank_rises [] (suc i) j l = zero-le
rank_rises (b ∷ L) (suc i) zero l = absurd (omega arith)
rank_rises (true ∷ L) (suc i) (suc j) l = omega (arith, rank_rises L i j (omega arith))
rank_rises (false ∷ L) (suc i) (suc j) l = rank_rises L i j (omega arith)

-- No more are kept than there are.
pub kept_le : (L : List Bool) → kept L ≤ length L
kept_le [] = le_refl 0
kept_le (true ∷ L) = omega (arith, kept_le L)
kept_le (false ∷ L) = omega (arith, kept_le L)

all_sift : (test : ℕ → Bool) (L : List Bool) (xs : List ℕ) → all_pass test xs ≡ true → all_pass test (sift L xs) ≡ true
unfolding all_pass
all_sift test [] xs h = refl
all_sift test (b ∷ L) [] h = refl
all_sift test (true ∷ L) (x ∷ xs) h =
    let k = (and-eq-true_iff (test x) (all_pass test xs)).0 h in
    (and-eq-true_iff (test x) (all_pass test (sift L xs))).1 (k.0, all_sift test L xs k.1)
all_sift test (false ∷ L) (x ∷ xs) h = all_sift test L xs ((and-eq-true_iff (test x) (all_pass test xs)).0 h).1

-- "Sources never fall from one rule to the next."
rising_cleaned : (L U : List Bool) {a b : ℕ} {rs : List Rule} → Rising a rs → b ≤ rank L a → Rising b (map (renamed L) (sift U rs))
rising_cleaned L [] r l = rising_none
rising_cleaned L (b ∷ U) rising_none l = rising_none
rising_cleaned L (true ∷ U) {a} (rising_more {r = r} h t) l = rising_more (le_trans l (rank_rises L a r.source h)) (rising_cleaned L U t (le_refl _))
rising_cleaned L (false ∷ U) {a} (rising_more {r = r} h t) l = rising_cleaned L U t (le_trans l (rank_rises L a r.source h))

-- What holds of each rule, and makes something hold of it renamed if it is kept.
each_cleaned :
    {P Q : Rule → Type 0} (L U : List Bool) {rs : List Rule} → Each P rs →
    ((i : ℕ) (r : Rule) → flag U i ≡ true → nth rs i ≡ some r → P r → Q (renamed L r)) → Each Q (map (renamed L) (sift U rs))
each_cleaned L [] h f = each_none
each_cleaned L (b ∷ U) each_none f = each_none
each_cleaned L (true ∷ U) (each_more {r = r} g h) f = each_more (f 0 r refl refl g) (each_cleaned L U h (λ i. f (suc i)))
each_cleaned L (false ∷ U) (each_more g h) f = each_cleaned L U h (λ i. f (suc i))

module _ {p : Policy} {L U : List Bool} (meant : Meant p L U) where
  -- "The start stays".
  pub start_kept : flag L 0 ≡ true
  start_kept = entered_here meant (reached_start p)

  target_cleaned : (t : ℕ) → (t ≡ 255) ⊎ Entered p t → (renumbered L t < kept L) ⊎ (renumbered L t ≡ 255)
  target_cleaned t w = go (eqb t 255) refl w
    where
      go : (b : Bool) → eqb t 255 ≡ b → (t ≡ 255) ⊎ Entered p t → (cond b 255 (rank L t) < kept L) ⊎ (cond b 255 (rank L t) ≡ 255)
      go true q w = inr refl
      go false q (inl e) = absurd (eqb-false t 255 q e)
      go false q (inr a) = inl (rank_kept L t ((meant.entered t).1 a))

  ruled_cleaned :
      (inputs outputs : ℕ) (cs : List ℕ) (i : ℕ) (r : Rule) → flag U i ≡ true → nth p.rules i ≡ some r → Ruled inputs outputs cs p.locations r →
      Ruled inputs outputs cs (kept L) (renamed L r)
  ruled_cleaned inputs outputs cs i r h q g =
      record {
        source = rank_kept L r.source (used_source meant i r h q);
        in_care = g.in_care;
        out_care = g.out_care;
        formed =
            record {
              inputs = g.formed.inputs;
              outputs = g.formed.outputs;
              reset = g.formed.reset;
              bounds = g.formed.bounds;
              target = target_cleaned r.target (used_rule p i r ((meant.used i).0 h) q).1;
            };
        ordered = g.ordered;
        lawful = g.lawful;
      }

  module _ (ok : WellFormed p) where
    rules_cleaned : rules_refusal (length p.inputs) (length p.outputs) p.ceilings (kept L) 0 (cleaned p L U).rules ≡ 0
    rules_cleaned =
        rules_pass (length p.inputs) (length p.outputs) p.ceilings (kept L) (rising_cleaned L U (well_rising p ok) zero-le)
        (each_cleaned L U (well_ruled p ok) (ruled_cleaned (length p.inputs) (length p.outputs) p.ceilings))

    fewer : kept L ≤ p.locations
    fewer = omega (arith, kept_le L, meant.locations)

    -- The cleaned policy has no more states than the old one.
    pub states_cleaned : states (cleaned p L U) ≤ states p
    states_cleaned =
        let k = length p.ceilings in
        rw (states_each p.ceilings k (kept L), states_each p.ceilings k p.locations) (mul-le-mul fewer (le_refl (states_of p.ceilings k 1)))

    -- The cleaned policy of a well-formed one is well-formed.
    pub cleaned_well : WellFormed (cleaned p L U)
    cleaned_well =
        record {
          inputs = ok.inputs;
          outputs = ok.outputs;
          clocks = ok.clocks;
          input_tags = ok.input_tags;
          output_tags = ok.output_tags;
          ceilings = ok.ceilings;
          start = omega (arith, rank_kept L 0 start_kept);
          locations = omega (arith, fewer, ok.locations);
          bytes = length_sift L p.left (meant.locations ∙ sym ok.bytes);
          left = all_sift location_good L p.left ok.left;
          rule_count =
              omega (arith, length-map (sift U p.rules) (renamed L), length_sift U p.rules meant.rules, kept_le U, meant.rules, ok.rule_count);
          rules = rules_cleaned;
          states = le_trans states_cleaned ok.states;
        }
