-- "Clean a policy and say what went": what `Laws` says holds of every file that passes the check, under each reading, for a joined file too.
use Rattle.std.specs.Prelude.{◌≡◌, ◌↔◌, ℕ}
use Rattle.std.proofs.Math.Path.{refl, ap, subst}
use Rattle.std.proofs.Common.{sym, ◌∙◌}
use mathlib.Core.List.{List, []}
use Rattle.streams.specs.Corrections.{corrections}
use Rattle.streams.specs.Stream.{Event, Hopeless, ◌alongside◌}
use Rattle.streams.specs.Laws.{≋-trans, ends, enforced_same}
use Rattle.streams.specs.Languages.{◌≋◌}
use Rattle.policy.specs.Rules.{Policy, Permits}
use Rattle.policy.specs.File.{policy_of}
use Rattle.policy.specs.Check.{refusal_of}
use Rattle.policy.specs.Sound.{WellFormed}
use Rattle.policy.specs.Checked.{checked_file}
use Rattle.policy.specs.Bytes.{bytes_of}
use Rattle.policy.specs.ReadBack.{read_back}
use Rattle.policy.specs.WrittenPasses.{written_passes}
use Rattle.prepare.specs.Enforcing.{EnforcedBy}
use Rattle.join.specs.Entry.{joined_file, join_refusal}
use Rattle.join.specs.Written.{joined_passes, joined_both}
use Rattle.usage.specs.Clean.{struck_bytes}
use Rattle.usage.specs.Flagged.{meant}
use Rattle.cleaning.specs.Entry.{cleaned_of, struck_of, cleaned_file, struck_list}
use Rattle.cleaning.specs.Laws.{Lists, Cleans}
use Rattle.cleaning.specs.Again.{strikes_none, clean_again}
use Rattle.cleaning.specs.Lawful.{cleaned_well}
use Rattle.cleaning.specs.Alike.{permits_same}
use Rattle.cleaning.specs.Listed.{lists}
use Rattle.cleaning.specs.Left.{three_bytes, leaves}

-- Of the policy.
module _ (p : Policy) (ok : WellFormed p) where
  -- The cleaned policy of a well-formed one is well-formed.
  pub well : WellFormed (cleaned_of p)
  unfolding cleaned_of
  well = cleaned_well (meant p ok) ok

  same : Permits (cleaned_of p) ≋ Permits p
  unfolding cleaned_of
  same = permits_same (meant p ok) ok

  strikes_nothing : struck_of (cleaned_of p) ≡ []
  unfolding cleaned_of struck_of
  strikes_nothing = strikes_none (meant p ok) (meant (cleaned_of p) well)

  again_itself : cleaned_of (cleaned_of p) ≡ cleaned_of p
  unfolding cleaned_of
  again_itself = clean_again (meant p ok) (meant (cleaned_of p) well) ok.bytes

  read_alike : (cleaned_of p).reading ≡ p.reading
  unfolding cleaned_of
  read_alike = refl

  lists_struck : Lists p (struck_of p)
  unfolding struck_of
  lists_struck = lists (meant p ok)

  hopeless_same : Hopeless (Permits (cleaned_of p)) ↔ Hopeless (Permits p)
  hopeless_same = (ends (Permits p) (Permits (cleaned_of p)) same.1 [], ends (Permits (cleaned_of p)) (Permits p) same.0 [])

  releases_same : (es rs : List Event) → EnforcedBy (cleaned_of p) [] es rs ↔ EnforcedBy p [] es rs
  unfolding cleaned_of
  releases_same es rs = (
    enforced_same corrections _ _ (Permits (cleaned_of p)) (Permits p) same.0 same.1,
    enforced_same corrections _ _ (Permits p) (Permits (cleaned_of p)) same.1 same.0,
  )

-- Of the file.
module _ (reading : ℕ) (file : List ℕ) (passed : refusal_of file ≡ 0) where
  abbrev p : Policy
  p = policy_of reading file

  ok : WellFormed p
  ok = checked_file reading file passed

  policy_reading : p.reading ≡ reading
  unfolding policy_of
  policy_reading = refl

  says : policy_of reading (cleaned_file reading file) ≡ cleaned_of p
  unfolding cleaned_file
  says =
      ap (λ (n : ℕ). policy_of n (bytes_of (cleaned_of p))) (sym (read_alike p ok ∙ policy_reading)) ∙ read_back (cleaned_of p) (well p ok)

  -- All that `Laws` says of a cleaned policy holds of each file that passes the check.
  pub cleans : Cleans reading file
  unfolding cleaned_file struck_list
  cleans =
      record {
        lists = lists_struck p ok;
        list = three_bytes (struck_of p);
        leaves = leaves p ok;
        passes = written_passes (cleaned_of p) (well p ok);
        says = says;
        permits = subst (λ (q : Policy). Permits q ≋ Permits p) (sym says) (same p ok);
        hopeless = subst (λ (q : Policy). Hopeless (Permits q) ↔ Hopeless (Permits p)) (sym says) (hopeless_same p ok);
        releases = λ es rs. subst (λ (q : Policy). EnforcedBy q [] es rs ↔ EnforcedBy p [] es rs) (sym says) (releases_same p ok es rs);
        nothing = ap (λ (q : Policy). struck_bytes (struck_of q)) says ∙ ap struck_bytes (strikes_nothing p ok);
        again = ap (λ (q : Policy). bytes_of (cleaned_of q)) says ∙ ap bytes_of (again_itself p ok);
      }

-- A joined file passes the check, and so all this holds of it.
module _ (a b out : List ℕ) (made : join_refusal a b out ≡ 0) (reading : ℕ) where
  -- All that `Laws` says of a cleaned policy holds of each joined file.
  pub cleans_joined : Cleans reading (joined_file a b out)
  cleans_joined = cleans reading (joined_file a b out) (joined_passes a b out made)

  -- Cleaned, it permits what both parts permit, and rests where both rest.
  pub permits_both : Permits (policy_of reading (cleaned_file reading (joined_file a b out))) ≋ Permits (policy_of reading a) alongside Permits (policy_of reading b)
  permits_both = ≋-trans cleans_joined.permits (joined_both a b out made reading)
