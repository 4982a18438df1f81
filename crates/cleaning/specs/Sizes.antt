-- How much is struck and how much is left.
use Rattle.std.specs.Prelude.{◌≡◌, refl, Bool, true, false, List, [], ◌∷◌, ℕ, suc, ◌+◌, ◌*◌, ◌≤◌, length}
use Rattle.std.proofs.Common.{◌∙◌, le_refl, length-append}
use Rattle.std.proofs.Math.Nat.{mul-le-mul}
use native.Mathlib.Omega.{arith}
use Rattle.std.proofs.lemmas.List.{length-map}
use Rattle.policy.specs.Rules.{Rule, Policy}
use Rattle.policy.specs.File.{policy_of, rule_size, clocks_at, clock_count, rule_count, rule_section}
use Rattle.policy.specs.Number.{states}
use Rattle.policy.specs.Check.{refusal_of}
use Rattle.policy.specs.Sound.{WellFormed}
use Rattle.policy.specs.Frame.{frame, inputs_length, outputs_length, pairs_length, rules_length}
use Rattle.policy.specs.Checked.{checked_file}
use Rattle.policy.specs.Bytes.{bytes_of}
use Rattle.policy.specs.ReadBack.{bytes_length}
use Rattle.usage.specs.Sift.{sift, kept}
use Rattle.cleaning.specs.SiftLaws.{length_sift}
use Rattle.usage.specs.Clean.{Meant, renamed, cleaned, locations_struck, rules_struck, struck}
use Rattle.usage.specs.Flags.{entered_flags, used_flags}
use Rattle.usage.specs.Flagged.{meant}
use Rattle.cleaning.specs.Entry.{cleaned_of, struck_of, cleaned_file, struck_list}
use Rattle.cleaning.specs.Laws.{Room}
use Rattle.cleaning.specs.Lawful.{kept_le, states_cleaned}
use Rattle.cleaning.specs.Left.{three_bytes}
use Rattle.cleaning.specs.Theorems.{well}

locations-struck : (L : List Bool) (l : ℕ) → length (locations_struck l L) + kept L ≡ length L
locations-struck [] l = refl
locations-struck (true ∷ L) l = omega (arith, locations-struck L (suc l))
locations-struck (false ∷ L) l = omega (arith, locations-struck L (suc l))

rules-struck : (L U : List Bool) (rs : List Rule) (i : ℕ) → length U ≡ length rs → length (rules_struck L i U rs) + kept U ≡ length U
rules-struck L [] rs i e = refl
rules-struck L (b ∷ U) [] i e = absurd (omega arith)
rules-struck L (true ∷ U) (r ∷ rs) i e = omega (arith, rules-struck L U rs (suc i) (omega arith))
rules-struck L (false ∷ U) (r ∷ rs) i e = omega (arith, rules-struck L U rs (suc i) (omega arith))

module _ {p : Policy} {L U : List Bool} (m : Meant p L U) where
  rules_left : length (cleaned p L U).rules ≡ kept U
  rules_left = length-map (sift U p.rules) (renamed L) ∙ length_sift U p.rules m.rules

  struck_or_left : length (struck p L U) + (cleaned p L U).locations + length (cleaned p L U).rules ≡ p.locations + length p.rules
  struck_or_left =
      omega (
        arith,
        length-append (locations_struck 0 L) (rules_struck L 0 U p.rules),
        locations-struck L 0,
        rules-struck L U p.rules 0 m.rules,
        rules_left,
        m.locations,
        m.rules,
      )

-- Of the policy.
module _ (p : Policy) (ok : WellFormed p) where
  each_one : length (struck_of p) + (cleaned_of p).locations + length (cleaned_of p).rules ≡ p.locations + length p.rules
  unfolding cleaned_of struck_of
  each_one = struck_or_left (meant p ok)

  rules_fewer : length (cleaned_of p).rules ≤ length p.rules
  unfolding cleaned_of
  rules_fewer = let m = meant p ok in omega (arith, rules_left m, kept_le (used_flags p), m.rules)

  locations_fewer : (cleaned_of p).locations ≤ p.locations
  unfolding cleaned_of
  locations_fewer = let m = meant p ok in omega (arith, kept_le (entered_flags p), m.locations)

  states_fewer : states (cleaned_of p) ≤ states p
  unfolding cleaned_of
  states_fewer = states_cleaned (meant p ok) ok

  bytes_left :
      length (bytes_of (cleaned_of p))
      ≡ 1 + length p.inputs + 1 + length p.outputs + 1 + 2 * length p.ceilings + 1 + (cleaned_of p).locations + 2
      + length (cleaned_of p).rules * rule_size (length p.ceilings)
  unfolding cleaned_of
  bytes_left = bytes_length (cleaned_of p) (well p ok)

-- Of the file.
module _ (reading : ℕ) (file : List ℕ) (passed : refusal_of file ≡ 0) where
  abbrev p : Policy
  p = policy_of reading file

  ok : WellFormed p
  ok = checked_file reading file passed

  file_length :
      length file
      ≡ 1 + length p.inputs + 1 + length p.outputs + 1 + 2 * length p.ceilings + 1 + p.locations + 2
      + length p.rules * rule_size (length p.ceilings)
  unfolding policy_of
  file_length =
      let k = frame file passed in
      rw (
        inputs_length file k,
        outputs_length file k,
        pairs_length file (clocks_at file + 1) (clock_count file),
        rules_length (clock_count file) (rule_section file) 0 (rule_count file),
      )
      (omega (arith, k.inputs_end, k.outputs_end, k.clocks_end, k.locations_end, k.count_end, k.last_end, k.ends))

  -- How much room is enough for the cleaned policy, the list and the marks of a file that passes the check.
  pub room : Room reading file
  unfolding cleaned_file struck_list
  room =
      let each = each_one p ok in
      record {
        each = each;
        policy =
            omega (
              arith,
              file_length,
              bytes_left p ok,
              locations_fewer p ok,
              mul-le-mul (rules_fewer p ok) (le_refl (rule_size (length p.ceilings))),
            );
        list = omega (arith, (three_bytes (struck_of p)).size, each, (well p ok).start, ok.locations, ok.rule_count);
        marks = states_fewer p ok;
      }
