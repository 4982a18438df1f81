-- What `clean` prints and writes, in 9/13's words: for a file that passes under the reading, the list of what is struck, line by line, and the policy that is left.
use Rattle.std.specs.Prelude.{◌≡◌, refl, List, [], ◌++◌, ℕ, suc, length}
use Rattle.policy.specs.Rules.{Policy}
use Rattle.policy.specs.File.{policy_of}
use Rattle.policy.specs.Check.{refusal_under}
use Rattle.policy.specs.CheckLaws.{under_none}
use Rattle.policy.specs.Bytes.{bytes_of}
use Rattle.usage.specs.Clean.{Struck}
use Rattle.cleaning.specs.Entry.{cleaned_of, struck_of, cleaned_file}
use Rattle.cleaning.specs.Laws.{Lists, Leaves}
use Rattle.cleaning.specs.Theorems.{cleans}
use Rattle.printing.specs.Text.{refused_line}
use Rattle.listing.specs.Listed.{lines, left_line, written, printed}

-- One list alone says what is struck, and one policy alone is left (cleaning: `lists_one`, `leaves_one`).
pub record SaidByClean (reading : ℕ) (file : List ℕ) : Type 0 where
  pub entries : List Struck
  pub lists : Lists (policy_of reading file) entries
  pub prints : printed reading file ≡ lines entries ++ left_line (length (written reading file))
  pub policy : Policy
  pub leaves : Leaves (policy_of reading file) policy
  pub writes : written reading file ≡ bytes_of policy

module _ (reading : ℕ) (file : List ℕ) where
  -- For a file that passes under the reading, `clean` prints and writes this.
  pub told : refusal_under reading file ≡ 0 → SaidByClean reading file
  unfolding printed written cleaned_file
  told passed =
      let c = cleans reading file ((under_none reading file).0 passed).1 in
      record {
        entries = struck_of (policy_of reading file);
        lists = c.lists;
        prints = rw passed;
        policy = cleaned_of (policy_of reading file);
        leaves = c.leaves;
        writes = rw passed;
      }

  -- A refusal is one line, and writes no policy.
  pub told_refused : {n : ℕ} → refusal_under reading file ≡ suc n → (printed reading file ≡ refused_line (suc n)) × (written reading file ≡ [])
  unfolding printed written
  told_refused e = rw e (refl, refl)
