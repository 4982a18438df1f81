-- "A tool writes a cleaned policy and a list of each location and rule struck out": what is struck, and what is left, over clocks without limit. Definitions
-- alone.
use Rattle.std.specs.Prelude.{◌≡◌, Bool, true, false, cond, List, [], ◌∷◌, ◌++◌, map, ◌↔◌, ℕ, suc, ◌≤◌, eqb, length}
use Rattle.std.proofs.Math.Option.{some}
use Rattle.streams.specs.Stream.{Event}
use Rattle.policy.specs.Rules.{Rule, Policy, Place, unlimited, looked, FitsOne}
use Rattle.policy.specs.Reached.{Reached}
use Rattle.policy.specs.Bytes.{pair_bytes}
use Rattle.stepping.specs.Code.{decider}
use Rattle.usage.specs.Sift.{flag, sift, rank, kept}

-- A permitted stream from the start leads to the location l.
pub record Entered (p : Policy) (l : ℕ) : Type 0 where
  pub place : Place
  pub reached : Reached p place
  pub here : place.location ≡ l

-- The rule with the number i decides an event in a "state such a stream leads to".
pub record Used (p : Policy) (i : ℕ) : Type 0 where
  pub place : Place
  pub event : Event
  pub reached : Reached p place
  pub fits : FitsOne p event
  pub decides : decider p.rules (looked unlimited p place) event ≡ some i

-- The flags L say which locations are entered, and the flags U which rules are used.
pub record Meant (p : Policy) (L U : List Bool) : Type 0 where
  pub locations : length L ≡ p.locations
  pub few : length L ≤ 255
  pub rules : length U ≡ length p.rules
  pub entered : (l : ℕ) → (flag L l ≡ true) ↔ Entered p l
  pub used : (i : ℕ) → (flag U i ≡ true) ↔ Used p i

-- "targets are renumbered": the new number of a location is how many before it are left. 255, the violation, stays.
abbrev pub renumbered : List Bool → ℕ → ℕ
renumbered L t = cond (eqb t 255) 255 (rank L t)

-- A rule with the new numbers of its source and target.
abbrev pub renamed : List Bool → Rule → Rule
renamed L r =
    record {
      source = rank L r.source;
      in_care = r.in_care;
      in_value = r.in_value;
      out_care = r.out_care;
      out_value = r.out_value;
      reset = r.reset;
      target = renumbered L r.target;
      bounds = r.bounds;
    }

-- The cleaned policy: "remaining locations keep their order", and so do the rules. The byte of a location goes along with it.
abbrev pub cleaned : Policy → List Bool → List Bool → Policy
cleaned p L U =
    record {
      reading = p.reading;
      inputs = p.inputs;
      outputs = p.outputs;
      ceilings = p.ceilings;
      locations = kept L;
      left = sift L p.left;
      rules = map (renamed L) (sift U p.rules);
    }

-- The same place in the cleaned policy.
abbrev pub moved : List Bool → Place → Place
moved L s = record { location = rank L s.location; clocks = s.clocks }

-- One entry of the list: "kind and old number from 0".
pub record Struck : Type 0 where
  pub kind : ℕ
  pub number : ℕ

-- What the flag does not keep.
abbrev pub unless_kept : Bool → Struck → List Struck → List Struck
unless_kept true x xs = xs
unless_kept false x xs = x ∷ xs

-- "Kinds: 1 location no permitted stream from the start leads to": of the flags of the locations from l on.
abbrev pub locations_struck : ℕ → List Bool → List Struck
locations_struck l [] = []
locations_struck l (b ∷ L) = unless_kept b (record { kind = 1; number = l }) (locations_struck (suc l) L)

-- "2 rule of such a location, 3 other rule that decides no event in any state such a stream leads to": of the rules from the number i on, and their flags.
abbrev pub rules_struck : List Bool → ℕ → List Bool → List Rule → List Struck
rules_struck L i [] rs = []
rules_struck L i (b ∷ U) [] = []
rules_struck L i (b ∷ U) (r ∷ rs) =
    unless_kept b (record { kind = cond (flag L r.source) 3 2; number = i }) (rules_struck L (suc i) U rs)

-- "in file order": the locations, then the rules.
abbrev pub struck : Policy → List Bool → List Bool → List Struck
struck p L U = locations_struck 0 L ++ rules_struck L 0 U p.rules

-- "three bytes each"; the number has two, the high byte first.
abbrev pub struck_bytes : List Struck → List ℕ
struck_bytes [] = []
struck_bytes (x ∷ xs) = (x.kind ∷ pair_bytes x.number) ++ struck_bytes xs
