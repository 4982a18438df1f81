-- "Cleaning a cleaned policy strikes nothing." For any flags that are meant so.
use Rattle.std.specs.Prelude.{◌≡◌, refl, Bool, true, false, cond, List, [], ◌∷◌, map, ◌⊎◌, ℕ, zero, suc, ◌<◌, eqb, length}
use Rattle.std.proofs.Common.{sym, ap, ap₂, ◌∙◌, inl, inr, arith, eqb-true}
use Rattle.std.proofs.lemmas.Bool.{false≢true, eqb-false}
use Rattle.std.proofs.Math.Option
use Rattle.std.proofs.Math.Option.{some, none-ne-some}
use Rattle.std.proofs.lemmas.List.{length-map}
use Rattle.policy.specs.Rules.{Rule, Policy}
use Rattle.usage.specs.Sift.{flag, nth, sift, rank, kept, All}
use Rattle.cleaning.specs.SiftLaws.{rank_from, length_sift, sift_all, kept_all, rank_all}
use Rattle.usage.specs.Clean.{Used, Entered, Meant, renumbered, renamed, cleaned, moved, locations_struck, rules_struck, struck}
use Rattle.cleaning.specs.Same.{flag_below, used_rule, used_source, decider_cleaned, reached_cleaned}

-- All flags set: the list of what was struck is empty.
locations_none : (L : List Bool) (l : ℕ) → All L → locations_struck l L ≡ []
locations_none [] l h = refl
locations_none (true ∷ L) l h = locations_none L (suc l) (λ i u. h (suc i) (omega arith))
locations_none (false ∷ L) l h = absurd (false≢true (h 0 (omega arith)))

rules_none : (L U : List Bool) (rs : List Rule) (i : ℕ) → All U → rules_struck L i U rs ≡ []
rules_none L [] rs i h = refl
rules_none L (b ∷ U) [] i h = refl
rules_none L (true ∷ U) (r ∷ rs) i h = rules_none L U rs (suc i) (λ i u. h (suc i) (omega arith))
rules_none L (false ∷ U) (r ∷ rs) i h = absurd (false≢true (h 0 (omega arith)))

-- A number that has an element is within the list.
pub nth_below : {A : Type 0} (xs : List A) (i : ℕ) (x : A) → nth xs i ≡ some x → i < length xs
nth_below [] i x h = absurd (none-ne-some x h)
nth_below (y ∷ xs) zero x h = omega arith
nth_below (y ∷ xs) (suc i) x h = omega (arith, nth_below xs i x h)

map_same : {A : Type 0} (f : A → A) (xs : List A) → ((i : ℕ) (x : A) → nth xs i ≡ some x → f x ≡ x) → map f xs ≡ xs
map_same f [] h = refl
map_same f (x ∷ xs) h = ap₂ ◌∷◌ (h 0 x refl) (map_same f xs (λ i. h (suc i)))

-- Nothing is struck, so the policy is its own cleaning.
module _ {p : Policy} {L U : List Bool} (meant : Meant p L U) (bytes : length p.left ≡ p.locations) (locations : All L) (rules : All U) where
  module _ (i : ℕ) (r : Rule) (h : nth p.rules i ≡ some r) where
    set : flag U i ≡ true
    set = rules i (omega (arith, nth_below p.rules i r h, meant.rules))

    source_same : rank L r.source ≡ r.source
    source_same = rank_all L locations r.source (flag_below L r.source (used_source meant i r set h))

    target_same : renumbered L r.target ≡ r.target
    target_same = go (eqb r.target 255) refl (used_rule p i r ((meant.used i).0 set) h).1
      where
        go : (b : Bool) → eqb r.target 255 ≡ b → (r.target ≡ 255) ⊎ Entered p r.target → cond b 255 (rank L r.target) ≡ r.target
        go true q w = sym (eqb-true r.target 255 q)
        go false q (inl e) = absurd (eqb-false r.target 255 q e)
        go false q (inr a) = rank_all L locations r.target (flag_below L r.target ((meant.entered r.target).1 a))

    rule_same : renamed L r ≡ r
    rule_same =
        λ i.
        record {
          source = source_same i;
          in_care = r.in_care;
          in_value = r.in_value;
          out_care = r.out_care;
          out_value = r.out_value;
          reset = r.reset;
          target = target_same i;
          bounds = r.bounds;
        }

  -- A policy with every location entered and every rule used is its own cleaning.
  pub clean_none : cleaned p L U ≡ p
  clean_none =
      let n : kept L ≡ p.locations = kept_all L locations ∙ meant.locations in
      let left : sift L p.left ≡ p.left = sift_all L p.left (meant.locations ∙ sym bytes) locations in
      let rs : map (renamed L) (sift U p.rules) ≡ p.rules =
      ap (map (renamed L)) (sift_all U p.rules meant.rules rules) ∙ map_same (renamed L) p.rules rule_same
      in
      λ i.
      record {
        reading = p.reading;
        inputs = p.inputs;
        outputs = p.outputs;
        ceilings = p.ceilings;
        locations = n i;
        left = left i;
        rules = rs i;
      }

module _ {p : Policy} {L U : List Bool} (meant : Meant p L U) where
  -- In the cleaned policy each location is entered.
  pub all_entered : (l : ℕ) → l < kept L → Entered (cleaned p L U) l
  all_entered l h =
      let k = rank_from L l h in
      let a = (meant.entered k.0).0 k.1 in
      record { place = moved L a.place; reached = reached_cleaned meant a.reached; here = ap (rank L) a.here ∙ k.2 }

  -- In the cleaned policy each rule is used.
  pub all_used : (i : ℕ) → i < length (cleaned p L U).rules → Used (cleaned p L U) i
  all_used i h =
      let n = length-map (sift U p.rules) (renamed L) ∙ length_sift U p.rules meant.rules in
      let k = rank_from U i (omega arith) in
      let u = (meant.used k.0).0 k.1 in
      record {
        place = moved L u.place;
        event = u.event;
        reached = reached_cleaned meant u.reached;
        fits = record { x = u.fits.x; y = u.fits.y };
        decides = decider_cleaned meant u.place u.event u.reached u.fits ∙ ap (Option.map (rank U)) u.decides ∙ ap some k.2;
      }

  module _ {M W : List Bool} (again : Meant (cleaned p L U) M W) where
    all_locations : All M
    all_locations l h = (again.entered l).1 (all_entered l (omega (arith, again.locations)))

    all_rules : All W
    all_rules i h = (again.used i).1 (all_used i (omega (arith, again.rules)))

    -- Cleaning a cleaned policy strikes nothing.
    pub strikes_none : struck (cleaned p L U) M W ≡ []
    strikes_none = rw (locations_none M 0 all_locations) (rules_none M W (cleaned p L U).rules 0 all_rules)

    -- Cleaning a cleaned policy leaves it as it is.
    pub clean_again : length p.left ≡ p.locations → cleaned (cleaned p L U) M W ≡ cleaned p L U
    clean_again bytes = clean_none again (length_sift L p.left (meant.locations ∙ sym bytes)) all_locations all_rules
