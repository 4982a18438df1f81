-- The rules of a location, one after the other, by where they stand in the file.
use Rattle.std.specs.Prelude.{◌≡◌, ℕ, ◌+◌, ◌-◌, ◌*◌, ◌^◌, ◌<◌, List, ◌∷◌, Option, Some, MatchOption}
use Rattle.std.proofs.Common.{arith}
use Rattle.policy.specs.File.{rule_size, rule_from, rules_from, policy_of}
use Rattle.policy.specs.Own.{own}
use Rattle.policy.specs.declared.Layout.{Layout}
use Rattle.stepping.specs.RuleAhead.{Ahead, RuleAt, ahead_first, ahead_rule, ahead_rest}
use Rattle.stepping.specs.declared.here.Here.{Here}
use Rattle.stepping.specs.declared.ahead.RulePlaces.{RulePlaces}

-- The first rule's place comes, if a rule is ahead, and then the others are ahead.
abbrev pub Gives : RulePlaces → Option ℕ → RulePlaces → Type 0
Gives rules place rest =
    MatchOption place (rules.ahead ≡ 0)
    (λ at. (0 < rules.ahead) × (at ≡ rules.at) × (rest ≡ record { at = rules.at + rules.size; ahead = rules.ahead - 1; size = rules.size }))

-- So many rules are ahead, and the first of them stands there.
pub record PlacesAhead (f : List ℕ) (l : Layout) (a : ℕ) (r : RulePlaces) : Type 0 where
  pub ahead : Ahead f l a r.at r.ahead
  pub size : r.size ≡ rule_size l.clocks

-- All rules of the state's location are ahead.
pub record AllPlaces (f : List ℕ) (l : Layout) (h : Here) (r : RulePlaces) : Type 0 where
  pub is : r ≡ record { at = l.rules_start + h.own.start; ahead = h.own.count; size = rule_size l.clocks }
  pub places : PlacesAhead f l h.state.location r
  pub rules : rules_from l.clocks f r.at r.ahead ≡ own h.state.location (policy_of l.reading f).rules

module _ {f : List ℕ} {l : Layout} {a : ℕ} {r : RulePlaces} (h : PlacesAhead f l a r) where
  -- No sum on the way overflows.
  pub places_fit : r.at + r.ahead * r.size < 2 ^ 64
  places_fit = rw h.size (omega (arith, h.ahead.ends, h.ahead.short))

  -- The next place is that of the first rule ahead, and behind it the others are ahead.
  module _ {at : ℕ} {rest : RulePlaces} (g : Gives r (Some at) rest) where
    pub place_first : rules_from l.clocks f r.at r.ahead ≡ rule_from l.clocks f at ∷ rules_from l.clocks f rest.at rest.ahead
    place_first = rw (g.1, g.2, h.size) (ahead_first h.ahead g.0)

    pub place_rule : RuleAt f l a at
    place_rule = rw g.1 (ahead_rule h.ahead g.0)

    pub place_rest : PlacesAhead f l a rest
    place_rest = rw g.2 (record { ahead = rw h.size (ahead_rest h.ahead g.0); size = h.size })
