-- Demand 3, stated over the definitions of the entries: what prepare and run answer for a file that the join wrote. It is shown in
-- specs/Demand3Shown.antt, and over the promises of the code in specs/Code.antt.
use Rattle.std.specs.Prelude.{◌≡◌, true, ◌↔◌, ◌⊎◌, ℕ, ◌≤◌, length, take}
use mathlib.Core.List.{List, [], ◌∷◌, ◌++◌, Memᴰ}
use Rattle.streams.specs.Answer.{refused, gives}
use Rattle.streams.specs.Stream.{Stream, Language, ◌alongside◌}
use Rattle.streams.specs.Languages.{◌≋◌}
use Rattle.policy.specs.Rules.{Fits, Permits}
use Rattle.policy.specs.Number.{states}
use Rattle.policy.specs.File.{input_tags, output_tags, policy_of}
use Rattle.policy.specs.Check.{reading_refusal, refusal_under, refusal_of, all_pass}
use Rattle.enforcer.specs.Entries.{event_good, RunAnswer}
use Rattle.prepare.specs.Entry.{summary_of, prepare_of}
use Rattle.pairing.specs.Join.{join}
use Rattle.join.specs.Free.{free_file}
use Rattle.join.specs.Entry.{join_of, joined_out}
use Rattle.tender.specs.Demand2.{Released, from_start, ComesBack}

-- "Wherever the joins named are made": for some slice the join of a and b gives a length, and f is as many bytes of what the slice holds then.
pub record JoinMade (a b f : List ℕ) : Type 0 where
  pub slice : List ℕ
  pub size : ℕ
  pub given : join_of a b slice ≡ gives size
  pub written : f ≡ take size (joined_out a b slice)

-- The tags of the inputs and of the outputs.
abbrev pub tags : List ℕ → List ℕ × List ℕ
tags f = (input_tags f, output_tags f)

-- Of any number: f is the join of the parts, made of two at a time.
pub data JoinOf : List (List ℕ) → List ℕ → Type 0 where
  alone : {a : List ℕ} → JoinOf (a ∷ []) a
  joined : {these those : List (List ℕ)} {f g h : List ℕ} → JoinOf these f → JoinOf those g → JoinMade f g h → JoinOf (these ++ those) h

-- The same policies, in whatever order, and each once or more often.
abbrev pub SamePolicies : List (List ℕ) → List (List ℕ) → Type 0
SamePolicies these those = (a : List ℕ) → Memᴰ a these ↔ Memᴰ a those

-- "demands 2 and 3 hold for each reading, used for all the policies named".
module _ (reading : ℕ) where
  -- What all the parts permit, and where all rest.
  abbrev pub AllOf : List (List ℕ) → Language
  AllOf parts =
      record {
        permits = λ w. (a : List ℕ) → Memᴰ a parts → (Permits (policy_of reading a)).permits w;
        rests = λ w. (a : List ℕ) → Memᴰ a parts → (Permits (policy_of reading a)).rests w;
      }

-- The answers are the same but for the state, which is of the policy's own locations and clocks.
pub record SameAnswer (r q : RunAnswer) : Type 0 where
  pub refusal : r.refusal ≡ q.refusal
  pub count : r.count ≡ q.count
  pub out : r.out ≡ q.out

module _ (reading : ℕ) where
  -- "the same released stream": for both files it is the one that demand 2 fixes, and so the runs answer the same. The marks m are of f, and n of g.
  pub record SameReleased (f m g n events out : List ℕ) : Type 0 where
    pub first : Released (policy_of reading f) events out (from_start reading f m events out)
    pub second : Released (policy_of reading g) events out (from_start reading g n events out)
    pub stream : first.released ≡ second.released
    pub answer : SameAnswer (from_start reading f m events out) (from_start reading g n events out)

  module _ (f m g n : List ℕ) where
    -- "hopeless together"
    abbrev pub HopelessTogether : Type 0
    HopelessTogether = (prepare_of reading f m ≡ refused 11) × (prepare_of reading g n ≡ refused 11)

    -- "or the same released stream for every event stream"
    abbrev pub ReleaseTheSame : Type 0
    ReleaseTheSame =
        (prepare_of reading f m ≡ gives (summary_of (policy_of reading f))) × (prepare_of reading g n ≡ gives (summary_of (policy_of reading g)))
        × ((events out : List ℕ) → all_pass (event_good reading f) events ≡ true → length events ≤ length out → SameReleased f m g n events out)

  -- "hopeless together, or the same released stream for every event stream", with any slices for the marks that are long enough.
  pub record Alike (f g : List ℕ) : Type 0 where
    pub passed : (refusal_under reading f ≡ 0) × (refusal_under reading g ≡ 0)
    pub signals : tags f ≡ tags g
    pub together :
        (m n : List ℕ) → states (policy_of reading f) ≤ length m → states (policy_of reading g) ≤ length n →
        HopelessTogether f m g n ⊎ ReleaseTheSame f m g n

-- "the policy that permits all", over the signals of a.
abbrev pub permits_all : List ℕ → List ℕ
permits_all a = free_file (input_tags a) (output_tags a)

module _ (reading : ℕ) where
  -- "the policy that permits all": every stream over its signals; and it rests after each.
  pub record PermitsAll (b : List ℕ) : Type 0 where
    pub permitted : (w : Stream) → Fits (policy_of reading b) w → (Permits (policy_of reading b)).permits w
    pub rested : (w : Stream) → Fits (policy_of reading b) w → (Permits (policy_of reading b)).rests w

-- Demand 3, sentence by sentence.
pub record Demand3 : Type 0 where
  -- "Joins carry no reading of their own": the bytes read under any reading are the join of the parts read under it.
  pub joined_reads :
      {a b f : List ℕ} → JoinMade a b f → (reading : ℕ) → policy_of reading f ≡ join (policy_of reading a) (policy_of reading b)
  -- "the join permits exactly the streams that all its parts permit", and "a joined stream rests only where all parts rest together": of two, and of
  -- any number.
  pub permits_exactly :
      (reading : ℕ) {a b f : List ℕ} → JoinMade a b f →
      Permits (policy_of reading f) ≋ Permits (policy_of reading a) alongside Permits (policy_of reading b)
  pub permits-all : (reading : ℕ) {parts : List (List ℕ)} {f : List ℕ} → JoinOf parts f → Permits (policy_of reading f) ≋ AllOf reading parts
  -- "Clauses bind alike in any order", for each reading that 22 does not refuse: two joins of the same policies, taken in whatever order, grouped in whatever
  -- way and each once or more often, are alike. Where one of them passes the check, so does the other; a join that was made always does.
  pub any_order :
      (reading : ℕ) → reading_refusal reading ≡ 0 → {these those : List (List ℕ)} {f g : List ℕ} →
      JoinOf these f → JoinOf those g → SamePolicies these those → refusal_of f ≡ 0 → Alike reading f g
  -- Of that law: "A with B or B with A".
  pub order : (reading : ℕ) → reading_refusal reading ≡ 0 → {a b f g : List ℕ} → JoinMade a b f → JoinMade b a g → Alike reading f g
  -- "grouped either way with C".
  pub grouping :
      (reading : ℕ) → reading_refusal reading ≡ 0 → {a b c f g h k : List ℕ} →
      JoinMade a b f → JoinMade f c h → JoinMade b c g → JoinMade a g k → Alike reading h k
  -- "A with itself".
  pub repetition : (reading : ℕ) → reading_refusal reading ≡ 0 → {a f : List ℕ} → JoinMade a a f → Alike reading f a
  -- "A with the policy that permits all", on either side. There is such a policy over the signals of every file that passes the check.
  pub unit : (reading : ℕ) → reading_refusal reading ≡ 0 → {a b f : List ℕ} → PermitsAll reading b → JoinMade a b f → Alike reading f a
  pub unit_first : (reading : ℕ) → reading_refusal reading ≡ 0 → {a b f : List ℕ} → PermitsAll reading b → JoinMade b a f → Alike reading f a
  pub is_permits_all : (reading : ℕ) (a : List ℕ) → refusal_of a ≡ 0 → PermitsAll reading (permits_all a)
  -- "A released stream enforced again from the start comes back unchanged".
  pub comes_back : ComesBack
