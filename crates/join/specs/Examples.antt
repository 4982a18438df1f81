-- Two joins, compared with what another program made of the document's text, their location bytes with what is read off it by hand; and the premises of the laws, met by them.
use Rattle.std.specs.Prelude.{◌≡◌, true, List, [], ◌∷◌, ℕ, ◌<◌, length}
use Rattle.std.proofs.Math.Path.{refl}
use Rattle.std.proofs.Common.{arith}
use Rattle.policy.specs.Rules.{Bound, Rule, Policy, rests}
use Rattle.policy.specs.Number.{states_of}
use Rattle.policy.specs.Check.{all_pass, among, tags_good, ceiling_good, location_good, mask_good, head_good, bound_good, bounds_good, rule_refusal, rules_refusal}
use Rattle.policy.specs.Sound.{WellFormed}
use Rattle.policy.specs.Checked.{well_sound}
use Rattle.pairing.specs.Join.{join}
use Rattle.join.specs.Entry.{join_fits}
use Rattle.join.specs.Laws.{Equal, associates}
use Rattle.join.specs.Again.{fitting, joins_of, join_well}
use Rattle.join.specs.Computing.{the_join}

abbrev bound : ℕ → ℕ → Bound
bound l h = record { low = l; high = h }

-- A rule's seven bytes and its bounds, as the file has them.
abbrev row : ℕ → ℕ → ℕ → ℕ → ℕ → ℕ → ℕ → List Bound → Rule
row s ic iv oc ov r t bs =
    record { source = s; in_care = ic; in_value = iv; out_care = oc; out_value = ov; reset = r; target = t; bounds = bs }

-- Under every reading.
module _ (reading : ℕ) where
  -- The signals of sample D: R in, C out.
  abbrev over : List ℕ → List ℕ → List Rule → Policy
  over cs bs rs = record { reading = reading; inputs = 82 ∷ []; outputs = 67 ∷ []; ceilings = cs; locations = length bs; left = bs; rules = rs }

  -- Sample D; a policy with a rule that is a violation and a location that must be left; and one with three locations, the last without a rule and the
  -- first to be left.
  abbrev d : Policy
  d =
      over (3 ∷ []) (0 ∷ 0 ∷ [])
      (row 0 1 1 0 0 1 1 (bound 0 65535 ∷ [])
      ∷ row 0 0 0 0 0 1 0 (bound 0 65535 ∷ [])
      ∷ row 1 0 0 1 1 1 0 (bound 0 65535 ∷ [])
      ∷ row 1 0 0 1 0 0 1 (bound 0 2 ∷ [])
      ∷ [])

  abbrev v : Policy
  v =
      over (5 ∷ []) (0 ∷ 1 ∷ [])
      (row 0 1 0 0 0 1 1 (bound 2 4 ∷ [])
      ∷ row 0 0 0 1 1 0 255 (bound 0 65535 ∷ [])
      ∷ row 1 1 1 1 0 0 0 (bound 0 3 ∷ [])
      ∷ [])

  abbrev u : Policy
  u =
      over [] (1 ∷ 0 ∷ 0 ∷ [])
      (row 0 1 1 0 0 0 1 []
      ∷ row 0 0 0 0 0 0 0 []
      ∷ row 1 0 0 1 1 0 2 []
      ∷ [])

  dv : join d v ≡
      over (3 ∷ 5 ∷ []) (0 ∷ 1 ∷ 0 ∷ 1 ∷ [])
      (row 0 1 1 1 1 1 255 (bound 0 65535 ∷ bound 0 65535 ∷ [])
      ∷ row 0 1 0 0 0 3 1 (bound 0 65535 ∷ bound 2 4 ∷ [])
      ∷ row 0 0 0 1 1 1 255 (bound 0 65535 ∷ bound 0 65535 ∷ [])
      ∷ row 1 1 1 1 0 1 2 (bound 0 65535 ∷ bound 0 3 ∷ [])
      ∷ row 1 1 1 1 0 1 0 (bound 0 65535 ∷ bound 0 3 ∷ [])
      ∷ row 2 1 0 1 1 3 1 (bound 0 65535 ∷ bound 2 4 ∷ [])
      ∷ row 2 0 0 1 1 1 255 (bound 0 65535 ∷ bound 0 65535 ∷ [])
      ∷ row 2 1 0 1 0 2 3 (bound 0 2 ∷ bound 2 4 ∷ [])
      ∷ row 3 1 1 1 0 0 2 (bound 0 2 ∷ bound 0 3 ∷ [])
      ∷ [])
  unfolding the_join rests
  dv = refl

  vu : join v u ≡
      over (5 ∷ []) (1 ∷ 0 ∷ 0 ∷ 1 ∷ 1 ∷ 1 ∷ [])
      (row 0 1 0 0 0 1 3 (bound 2 4 ∷ [])
      ∷ row 0 1 1 1 1 0 255 (bound 0 65535 ∷ [])
      ∷ row 0 0 0 1 1 0 255 (bound 0 65535 ∷ [])
      ∷ row 1 1 0 1 1 1 5 (bound 2 4 ∷ [])
      ∷ row 1 0 0 1 1 0 255 (bound 0 65535 ∷ [])
      ∷ row 3 1 1 1 0 0 1 (bound 0 3 ∷ [])
      ∷ row 3 1 1 1 0 0 0 (bound 0 3 ∷ [])
      ∷ [])
  unfolding the_join rests
  vu = refl

  -- The laws' premises hold of them, and of a join of joins.
  well : (cs bs : List ℕ) (rs : List Rule) → 0 < length bs → all_pass ceiling_good cs ≡ true → all_pass location_good bs ≡ true →
      rules_refusal 1 1 cs (length bs) 0 rs ≡ 0 → join_fits (over cs bs rs) ≡ true → WellFormed (over cs bs rs)
  unfolding all_pass among tags_good
  well cs bs rs z c l r f =
      let t = fitting (over cs bs rs) f in
      record {
        inputs = omega arith;
        outputs = omega arith;
        clocks = t.1;
        input_tags = refl;
        output_tags = refl;
        ceilings = c;
        start = z;
        locations = t.0;
        bytes = refl;
        left = l;
        rule_count = t.2;
        rules = r;
        states = t.3;
      }

  d_well : WellFormed d
  unfolding all_pass mask_good head_good bound_good bounds_good rule_refusal rules_refusal states_of join_fits
  d_well = well _ _ _ (omega arith) refl refl refl refl

  v_well : WellFormed v
  unfolding all_pass mask_good head_good bound_good bounds_good rule_refusal rules_refusal states_of join_fits
  v_well = well _ _ _ (omega arith) refl refl refl refl

  dv_well : WellFormed (join d v)
  unfolding the_join states_of
  dv_well = join_well d v d_well v_well refl refl

  regrouped : Equal (join (join d v) d) (join d (join v d))
  unfolding the_join states_of
  regrouped =
      associates d v d (well_sound d d_well) (well_sound v v_well) (well_sound d d_well) (joins_of d v refl refl refl) (joins_of (join d v) d refl refl refl)
