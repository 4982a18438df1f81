-- What 9/13 promises of a cleaned policy, over clocks without limit. Statements alone; `Theorems` proves them of every file that passes the check, and of every
-- joined one.
use Rattle.std.specs.Prelude.{◌≡◌, cond, ◌⊎◌, ◌↔◌, ℕ, ◌+◌, ◌*◌, ◌≤◌, ◌<◌, eqb, length, get_or, drop}
use mathlib.Core.List.{List, [], ◌∷◌, ◌++◌, Memᴰ}
use Rattle.std.proofs.Math.Option.{some}
use Rattle.streams.specs.Answer.{refused, gives}
use Rattle.streams.specs.Stream.{Event, Hopeless}
use Rattle.streams.specs.Languages.{◌≋◌}
use Rattle.policy.specs.Rules.{Rule, Policy, Permits}
use Rattle.policy.specs.Number.{states}
use Rattle.policy.specs.File.{byte_at, pair_at, policy_of}
use Rattle.policy.specs.Check.{refusal_of, refusal_under}
use Rattle.prepare.specs.Enforcing.{EnforcedBy}
use Rattle.usage.specs.Sift.{nth}
use Rattle.usage.specs.Clean.{Entered, Used, Struck}
use Rattle.cleaning.specs.Entry.{cleaned_of, struck_of, cleaned_file, struck_list, clean_of, cleaned_out, struck_out}

-- ---- what is struck
-- In a file the locations stand before the rules.
abbrev pub section : Struck → ℕ
section x = cond (eqb x.kind 1) 0 1

-- An entry comes before another: it is of an earlier section, or has the smaller number in the same one.
abbrev pub Earlier : Struck → Struck → Type 0
Earlier x y = (section x < section y) ⊎ ((section x ≡ section y) × (x.number < y.number))

-- "in file order": each entry stands before all that come later, so none stands twice.
pub data InOrder : List Struck → Type 0 where
  in_order_none : InOrder []
  in_order_more : {x : Struck} {xs : List Struck} → ((y : Struck) → Memᴰ y xs → Earlier x y) → InOrder xs → InOrder (x ∷ xs)

-- "a list of each location and rule struck out, in file order", "kind and old number from 0". One list alone says so (`Listed.lists_one`).
pub record Lists (p : Policy) (xs : List Struck) : Type 0 where
  -- "1 location no permitted stream from the start leads to"
  pub kind_1 : (l : ℕ) → Memᴰ (record { kind = 1; number = l }) xs ↔ ((l < p.locations) × (¬ Entered p l))
  -- "2 rule of such a location"
  pub kind_2 : (i : ℕ) → Memᴰ (record { kind = 2; number = i }) xs ↔ ((r : Rule) × (nth p.rules i ≡ some r) × (¬ Entered p r.source))
  -- "3 other rule that decides no event in any state such a stream leads to"
  pub kind_3 :
      (i : ℕ) → Memᴰ (record { kind = 3; number = i }) xs ↔ ((r : Rule) × (nth p.rules i ≡ some r) × Entered p r.source × (¬ Used p i))
  pub kinds : (x : Struck) → Memᴰ x xs → (1 ≤ x.kind) × (x.kind ≤ 3)
  pub order : InOrder xs

-- "three bytes each, kind and old number from 0"
pub record ThreeBytes (xs : List Struck) (bytes : List ℕ) : Type 0 where
  pub size : length bytes ≡ 3 * length xs
  pub kind : (i : ℕ) (x : Struck) → nth xs i ≡ some x → byte_at bytes (3 * i) ≡ x.kind
  pub number : (i : ℕ) (x : Struck) → nth xs i ≡ some x → pair_at bytes (3 * i + 1) ≡ x.number

-- ---- what is left
-- What stays has the numbers below `count` then, and keeps its order: "remaining locations keep their order".
pub record Renumbers (Stays : ℕ → Type 0) (count : ℕ) (new : ℕ → ℕ) : Type 0 where
  pub below : (n : ℕ) → Stays n → new n < count
  pub order : (n m : ℕ) → Stays n → Stays m → n < m → new n < new m
  pub from : (k : ℕ) → k < count → (n : ℕ) × Stays n × (new n ≡ k)

-- The rule r stays as s, where `new` numbers the locations anew: "targets are renumbered", and so is its source. A rule to 255 stays one. All else is as it was.
pub record StaysAs (p : Policy) (new : ℕ → ℕ) (r s : Rule) : Type 0 where
  pub source : Entered p r.source × (s.source ≡ new r.source)
  pub target : ((r.target ≡ 255) × (s.target ≡ 255)) ⊎ (Entered p r.target × (s.target ≡ new r.target))
  pub in_care : s.in_care ≡ r.in_care
  pub in_value : s.in_value ≡ r.in_value
  pub out_care : s.out_care ≡ r.out_care
  pub out_value : s.out_value ≡ r.out_value
  pub reset : s.reset ≡ r.reset
  pub bounds : s.bounds ≡ r.bounds

-- q is what is left of p. No other policy is (`One.leaves_one`).
pub record Leaves (p q : Policy) : Type 0 where
  pub reading : q.reading ≡ p.reading
  pub inputs : q.inputs ≡ p.inputs
  pub outputs : q.outputs ≡ p.outputs
  pub ceilings : q.ceilings ≡ p.ceilings
  -- The new number of a location: "remaining locations keep their order".
  pub new_location : ℕ → ℕ
  pub locations : Renumbers (Entered p) q.locations new_location
  -- "The start stays", as location 0.
  pub start : Entered p 0 × (new_location 0 ≡ 0)
  -- "A location byte of 1 shall mean 'must be left', 0 'may rest'": it goes along.
  pub bytes : length q.left ≡ q.locations
  pub byte : (l : ℕ) → Entered p l → get_or q.left (new_location l) 0 ≡ get_or p.left l 0
  -- The new number of a rule: those that decide an event in a state that a permitted stream leads to stay, in their order, and no others.
  pub new_rule : ℕ → ℕ
  pub order : Renumbers (Used p) (length q.rules) new_rule
  pub rules : (i : ℕ) (r : Rule) → Used p i → nth p.rules i ≡ some r → (s : Rule) × (nth q.rules (new_rule i) ≡ some s) × StaysAs p new_location r s

-- ---- what the cleaned policy does
-- Of a file, its cleaned policy and the list, under the reading that the caller named "for all that follows".
pub record Cleans (reading : ℕ) (file : List ℕ) : Type 0 where
  pub lists : Lists (policy_of reading file) (struck_of (policy_of reading file))
  pub list : ThreeBytes (struck_of (policy_of reading file)) (struck_list reading file)
  pub leaves : Leaves (policy_of reading file) (cleaned_of (policy_of reading file))
  -- The bytes that are written are a policy that passes the check, and they say that policy.
  pub passes : refusal_of (cleaned_file reading file) ≡ 0
  pub says : policy_of reading (cleaned_file reading file) ≡ cleaned_of (policy_of reading file)
  -- It permits exactly the same streams, and rests after the same.
  pub permits : Permits (policy_of reading (cleaned_file reading file)) ≋ Permits (policy_of reading file)
  -- "The cleaned policy is hopeless exactly when the old one is .."
  pub hopeless : Hopeless (Permits (policy_of reading (cleaned_file reading file))) ↔ Hopeless (Permits (policy_of reading file))
  -- ".. and releases the same stream for every event stream."
  pub releases :
      (events released : List Event) →
      EnforcedBy (policy_of reading (cleaned_file reading file)) [] events released ↔ EnforcedBy (policy_of reading file) [] events released
  -- "Cleaning a cleaned policy strikes nothing": the list is empty, and the bytes are the same.
  pub nothing : struck_list reading (cleaned_file reading file) ≡ []
  pub again : cleaned_file reading (cleaned_file reading file) ≡ cleaned_file reading file

-- ---- what clean answers and writes, for any two slices
pub record Answers (reading : ℕ) (file out list : List ℕ) : Type 0 where
  -- 22 and 1 to 9 come first.
  pub first : ¬ (refusal_under reading file ≡ 0) → clean_of reading file out list ≡ refused (refusal_under reading file)
  -- "14 for either slice"
  pub short :
      refusal_under reading file ≡ 0 → (length out < length (cleaned_file reading file)) ⊎ (length list < length (struck_list reading file)) →
      clean_of reading file out list ≡ refused 14
  -- "nothing written in both"
  pub unwritten : (n : ℕ) → clean_of reading file out list ≡ refused n → (cleaned_out reading file out list ≡ out) × (struck_out reading file out list ≡ list)
  -- It "writes a cleaned policy and a list .. and returns both lengths".
  pub both :
      refusal_under reading file ≡ 0 → length (cleaned_file reading file) ≤ length out → length (struck_list reading file) ≤ length list →
      (clean_of reading file out list ≡ gives (record { cleaned = length (cleaned_file reading file); struck = length (struck_list reading file) }))
      × (cleaned_out reading file out list ≡ cleaned_file reading file ++ drop (length (cleaned_file reading file)) out)
      × (struck_out reading file out list ≡ struck_list reading file ++ drop (length (struck_list reading file)) list)

-- ---- how much room is enough
-- For a file that passes the check.
pub record Room (reading : ℕ) (file : List ℕ) : Type 0 where
  -- Each location and each rule is struck or left.
  pub each :
      length (struck_of (policy_of reading file)) + (cleaned_of (policy_of reading file)).locations + length (cleaned_of (policy_of reading file)).rules
      ≡ (policy_of reading file).locations + length (policy_of reading file).rules
  -- A slice as long as the file holds the cleaned policy, and one of 957 bytes the list: the start stays, so 63 locations and 256 rules may go.
  pub policy : length (cleaned_file reading file) ≤ length file
  pub list : length (struck_list reading file) ≤ 957
  -- A slice that is long enough for the marks of the file is so for those of the cleaned policy.
  pub marks : states (cleaned_of (policy_of reading file)) ≤ states (policy_of reading file)
