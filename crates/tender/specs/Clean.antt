-- 9/13, over the promise of clean and the definitions of the other entries: what prepare and run answer for a cleaned policy, and clean itself; then over the
-- promises of all of them, and over the functions in C.
use Rattle.prepare.specs.declared.Summary.{Summary}
use Rattle.std.specs.Prelude.{◌≡◌, refl, ◌↔◌, ◌⊎◌, ℕ, ◌/◌, ◌%◌, ◌≤◌, length, drop}
use Rattle.std.proofs.Common.{sym, ◌∙◌, arith, take_at}
use Rattle.std.proofs.Math.Path.{ap, ap₂}
use mathlib.Core.List.{List, [], ◌++◌}
use Rattle.std.proofs.Math.ListN.{take}
use Rattle.streams.specs.Answer.{Answer, refused, gives}
use Rattle.streams.specs.AnswerLaws.{given_only, none_refused}
use Rattle.streams.specs.Laws.{≋-trans}
use Rattle.streams.specs.Languages.{◌≋◌}
use Rattle.policy.specs.Rules.{Policy, Permits}
use Rattle.policy.specs.Number.{states}
use Rattle.policy.specs.File.{policy_of}
use Rattle.policy.specs.Check.{reading_refusal, refusal_of, refusal_under}
use Rattle.policy.specs.CheckLaws.{under_none}
use Rattle.prepare.specs.Entry.{prepare_of}
use Rattle.prepare.specs.Promise.{PreparePromise}
use Rattle.cleaning.specs.Entry.{cleaned_of, cleaned_file, struck_list, clean_refusal, clean_of, cleaned_out, struck_out}
use Rattle.cleaning.specs.Promise.{CleanPromise, clean_one}
use Rattle.cleaning.specs.declared.Lengths.{Lengths}
use Rattle.cleaning.specs.Laws.{Cleans}
use Rattle.cleaning.specs.Refused.{answers}
use Rattle.cleaning.specs.Theorems.{cleans}
use Rattle.groovepawn.specs.Calls.{PrepareCall}
use Rattle.groovepawn.specs.Clean.{CleanCall, lengths_in, clean_fields}
use Rattle.tender.specs.Demand2Shown.{hopeless_exactly}
use Rattle.tender.specs.Demand3.{JoinMade, JoinOf, AllOf, tags, Alike}
use Rattle.tender.specs.Demand3Shown.{made, permits-all, permits_alike}
use Rattle.tender.specs.Code.{SameGiven, code_alike, CSameGiven, c_alike}

-- "A tool writes a cleaned policy and a list .. and returns both lengths": for some slices clean gives them, and `policy` and `list` are as many bytes of what
-- the slices hold then.
pub record CleanedFrom (reading : ℕ) (file policy list : List ℕ) : Type 0 where
  pub slice : List ℕ
  pub other : List ℕ
  pub lengths : Lengths
  pub given : clean_of reading file slice other ≡ gives lengths
  pub written : policy ≡ take lengths.cleaned (cleaned_out reading file slice other)
  pub listed : list ≡ take lengths.struck (struck_out reading file slice other)

-- What clean's code wrote without a refusal is such a policy and such a list.
pub code_cleaned :
    {reading : ℕ} {file slice other after other_after : List ℕ} {n : Lengths} → CleanPromise reading file slice other (gives n) after other_after →
    CleanedFrom reading file (take n.cleaned after) (take n.struck other_after)
code_cleaned {slice = slice} {other} {n = n} h =
    record {
      slice = slice;
      other = other;
      lengths = n;
      given = sym h.said;
      written = ap (take n.cleaned) h.cleaned;
      listed = ap (take n.struck) h.struck;
    }

-- So is what groovepawn_clean wrote without a refusal; its word holds both lengths.
pub c_cleaned :
    {reading : ℕ} {file slice other after other_after : List ℕ} {r : ℕ} → CleanCall reading file slice other r after other_after → r % 256 ≡ 0 →
    CleanedFrom reading file (take (r / 256 % 16777216) after) (take (r / 4294967296) other_after)
c_cleaned {reading} {file} {slice} {other} {r = r} h z =
    let n : Lengths = record { cleaned = r / 256 % 16777216; struck = r / 4294967296 } in
    let e : lengths_in r ≡ gives n = rw z in
    record {
      slice = slice;
      other = other;
      lengths = n;
      given = sym (clean_fields reading file slice other) ∙ ap lengths_in (sym h.said) ∙ e;
      written = ap (take n.cleaned) h.cleaned;
      listed = ap (take n.struck) h.struck;
    }

module _ {reading : ℕ} {file policy list : List ℕ} (m : CleanedFrom reading file policy list) where
  only : (clean_refusal reading file m.slice m.other ≡ 0) × (record { cleaned = length (cleaned_file reading file); struck = length (struck_list reading file) } ≡ m.lengths)
  unfolding clean_of
  only = given_only (clean_refusal reading file m.slice m.other) _ m.lengths m.given

  -- The policy is the file's, cleaned, whatever the slice held before.
  pub policy_is : policy ≡ cleaned_file reading file
  unfolding cleaned_out
  policy_is =
      m.written ∙ ap (λ (n : Lengths). take n.cleaned (cleaned_out reading file m.slice m.other)) (sym only.1)
      ∙ rw only.0 (take_at (cleaned_file reading file) _ _ refl)

  -- The list is the file's, whatever the slice held before.
  pub list_is : list ≡ struck_list reading file
  unfolding struck_out
  list_is =
      m.listed ∙ ap (λ (n : Lengths). take n.struck (struck_out reading file m.slice m.other)) (sym only.1)
      ∙ rw only.0 (take_at (struck_list reading file) _ _ refl)

  -- A file that was cleaned passes the check under the reading.
  pub passed : refusal_under reading file ≡ 0
  unfolding clean_refusal
  passed = ((none_refused (refusal_under reading file) _).0 only.0).0

  -- All that 9/13 promises of the two.
  pub promised : Cleans reading file
  promised = cleans reading file ((under_none reading file).0 passed).1

  -- The cleaned policy passes it too.
  pub passes : refusal_under reading policy ≡ 0
  passes =
      (under_none reading policy).1 (((under_none reading file).0 passed).0, ap refusal_of policy_is ∙ promised.passes)

  -- The cleaned policy reads as the file's policy, cleaned.
  pub says : policy_of reading policy ≡ cleaned_of (policy_of reading file)
  says = ap (policy_of reading) policy_is ∙ promised.says

  -- It permits the same streams, and is at rest after the same ones.
  pub permits_same : Permits (policy_of reading policy) ≋ Permits (policy_of reading file)
  permits_same = rw policy_is promised.permits

  -- It has the same signals.
  pub same_tags : tags policy ≡ tags file
  unfolding policy_of
  same_tags =
      ap (λ (z : Policy). (z.inputs, z.outputs)) says
      ∙ ap₂ (λ (x y : List ℕ). (x, y)) promised.leaves.inputs promised.leaves.outputs

  -- "The cleaned policy is hopeless exactly when the old one is, and releases the same stream for every event stream": prepare refuses both by 11, or gives a
  -- summary of each, and then run answers the same for both.
  pub alike : Alike reading policy file
  alike = permits_alike reading policy file passes passed same_tags permits_same

  -- Prepare refuses the cleaned policy by 11 exactly if it so refuses the file.
  pub hopeless_exactly_when :
      (marks also : List ℕ) → states (policy_of reading policy) ≤ length marks → states (policy_of reading file) ≤ length also →
      (prepare_of reading policy marks ≡ refused 11) ↔ (prepare_of reading file also ≡ refused 11)
  hopeless_exactly_when marks also long enough =
      let a = hopeless_exactly reading policy marks passes long in
      let b = hopeless_exactly reading file also passed enough in
      let c = promised.hopeless in
      let d : policy_of reading policy ≡ policy_of reading (cleaned_file reading file) = ap (policy_of reading) policy_is in (
        λ e. b.1 (c.0 (rw d at (a.0 e))),
        λ e. a.1 (rw d (c.1 (b.0 e))),
      )

  again_policy : cleaned_file reading policy ≡ policy
  again_policy = ap (cleaned_file reading) policy_is ∙ promised.again ∙ sym policy_is

  again_list : struck_list reading policy ≡ []
  again_list = ap (struck_list reading) policy_is ∙ promised.nothing

  -- "Cleaning a cleaned policy strikes nothing": into every slice that holds the policy it writes the same bytes, and the list is empty.
  pub again_made :
      (slice other : List ℕ) → length policy ≤ length slice →
      (clean_of reading policy slice other ≡ gives (record { cleaned = length policy; struck = 0 }))
      × (cleaned_out reading policy slice other ≡ policy ++ drop (length policy) slice) × (struck_out reading policy slice other ≡ other)
  again_made slice other long =
      let both = (answers reading policy slice other).both passes in
      rw (again_policy, again_list) at (both (rw again_policy long) (rw again_list (omega arith)))

-- Whatever slices the second cleaning had: the same policy, and an empty list.
pub again_one :
    {reading : ℕ} {file policy list same none : List ℕ} → CleanedFrom reading file policy list → CleanedFrom reading policy same none → (same ≡ policy) × (none ≡ [])
again_one m n = (policy_is n ∙ again_policy m, list_is n ∙ again_list m)

-- A file that passes under the reading is cleaned into slices that are long enough.
pub cleaned_into :
    (reading : ℕ) (file slice other : List ℕ) → refusal_under reading file ≡ 0 →
    length (cleaned_file reading file) ≤ length slice → length (struck_list reading file) ≤ length other →
    CleanedFrom reading file (cleaned_file reading file) (struck_list reading file)
cleaned_into reading file slice other passed long enough =
    let both = (answers reading file slice other).both passed long enough in
    record {
      slice = slice;
      other = other;
      lengths = record { cleaned = length (cleaned_file reading file); struck = length (struck_list reading file) };
      given = both.0;
      written = sym (ap (take (length (cleaned_file reading file))) both.1 ∙ take_at (cleaned_file reading file) _ _ refl);
      listed = sym (ap (take (length (struck_list reading file))) both.2 ∙ take_at (struck_list reading file) _ _ refl);
    }

-- "Joined tables carry locations that can't be entered and rules that never fire." A joined file passes the check, so it is cleaned, and what was said above holds
-- of it. Of any number of policies, joined two at a time, the cleaned join permits what all its parts permit, and rests where all rest.
module _ {reading : ℕ} {parts : List (List ℕ)} {f policy list : List ℕ} (i : JoinOf parts f) (m : CleanedFrom reading f policy list) where
  -- The cleaned join permits what all its parts permit, and rests where all rest.
  pub join_permits : Permits (policy_of reading policy) ≋ AllOf reading parts
  join_permits = ≋-trans (permits_same m) (permits-all reading i)

-- A join that was made is cleaned under each reading, into slices that are long enough.
pub joined_cleaned :
    {a b f : List ℕ} → JoinMade a b f → (reading : ℕ) → reading_refusal reading ≡ 0 → (slice other : List ℕ) →
    length (cleaned_file reading f) ≤ length slice → length (struck_list reading f) ≤ length other →
    CleanedFrom reading f (cleaned_file reading f) (struck_list reading f)
joined_cleaned {f = f} j reading named slice other = cleaned_into reading f slice other ((under_none reading f).1 (named, (made j).passed))

-- The same over the promises of the code, with slices for the marks that are long enough: prepare's code refuses both files by 11, or gives a summary
-- of each, and then run's code releases the same for both with the marks that prepare wrote.
pub code_same :
    {reading : ℕ} {file slice other after other_after : List ℕ} {n : Lengths} → CleanPromise reading file slice other (gives n) after other_after →
    {x m y k : List ℕ} {r q : Answer Summary} → PreparePromise reading (take n.cleaned after) x r m → PreparePromise reading file y q k →
    states (policy_of reading (take n.cleaned after)) ≤ length x → states (policy_of reading file) ≤ length y →
    ((r ≡ refused 11) × (q ≡ refused 11)) ⊎ SameGiven reading (take n.cleaned after) m file k r q
code_same h = code_alike (alike (code_cleaned h))

-- Clean's code strikes nothing from a policy that it wrote, and writes the same bytes.
pub code_again :
    {reading : ℕ} {file slice other after other_after next last next_after last_after : List ℕ} {n : Lengths} {r : Answer Lengths} →
    CleanPromise reading file slice other (gives n) after other_after →
    let policy = take n.cleaned after in
    CleanPromise reading policy next last r next_after last_after → length policy ≤ length next →
    (r ≡ gives (record { cleaned = length policy; struck = 0 })) × (next_after ≡ policy ++ drop (length policy) next) × (last_after ≡ last)
code_again {next = next} {last} h g long =
    let a = again_made (code_cleaned h) next last long in
    clean_one g (record { said = sym a.0; cleaned = sym a.1; struck = sym a.2 })

-- The same in C: what groovepawn_prepare said of the cleaned policy and of the old one, and what groovepawn_run then released; and what groovepawn_clean
-- answers of a policy that it wrote. What was struck and what is left is `promised` of the two that `c_cleaned` names.
module _ {reading : ℕ} {file slice other after other_after : List ℕ} {r : ℕ} (h : CleanCall reading file slice other r after other_after) (z : r % 256 ≡ 0) where
  abbrev cleaned_bytes : List ℕ
  cleaned_bytes = take (r / 256 % 16777216) after

  -- groovepawn_prepare refuses both by 11, or it refuses neither and groovepawn_run releases the same for both.
  pub c_same :
      {x m y k : List ℕ} {v w : ℕ} → PrepareCall reading cleaned_bytes x v m → PrepareCall reading file y w k →
      states (policy_of reading cleaned_bytes) ≤ length x → states (policy_of reading file) ≤ length y →
      ((v % 256 ≡ 11) × (w % 256 ≡ 11)) ⊎ CSameGiven reading cleaned_bytes m file k v w
  c_same = c_alike (alike (c_cleaned h z))

  -- groovepawn_clean strikes nothing from a policy that it wrote, and writes the same bytes.
  pub c_again :
      {next last next_after last_after : List ℕ} {q : ℕ} → CleanCall reading cleaned_bytes next last q next_after last_after →
      length cleaned_bytes ≤ length next →
      (lengths_in q ≡ gives (record { cleaned = length cleaned_bytes; struck = 0 }))
      × (next_after ≡ cleaned_bytes ++ drop (length cleaned_bytes) next) × (last_after ≡ last)
  c_again {next} {last} g long =
      let a = again_made (c_cleaned h z) next last long in
      (ap lengths_in g.said ∙ clean_fields reading cleaned_bytes next last ∙ a.0, g.cleaned ∙ a.1, g.struck ∙ a.2)
