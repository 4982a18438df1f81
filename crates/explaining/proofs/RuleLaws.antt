-- What the proofs cite of the rule that decides.
use mathlib.Core.Path.{◌≡◌, sym, ap, ◌∙◌}
use mathlib.Core.List.{List}
use mathlib.Core.Option.{none, some, map}
use Prim.Native.Nat.{ℕ, ◌+◌, ◌*◌, ◌/◌, ◌<◌}
use native.Mathlib.Nat.{mul-div_cancel}
use native.Mathlib.Omega.{arith}
use Rattle.streams.specs.Stream.{Event}
use Rattle.policy.specs.Rules.{Rule, Place, stopped, decides, looked}
use Rattle.policy.specs.File.{policy_of, rules_of, rule_size, rule_from, rules_from}
use Rattle.policy.specs.Own.{below, below_le, own}
use Rattle.policy.specs.declared.Layout.{Layout}
use Rattle.policy.specs.declared.own.Own.{Own}
use Rattle.stepping.specs.Code.{decider}
use Rattle.stepping.specs.State.{place}
use Rattle.stepping.specs.Decider.{decider_lt, decider_decides}
use Rattle.stepping.specs.Ready.{Laid, HereOf}
use Rattle.stepping.specs.Laid.{laid_well, own_fits}
use Rattle.stepping.specs.RuleAhead.{RuleAt, own_here, own_ahead, ahead_at}
use Rattle.stepping.specs.declared.here.Here.{Here}

-- The rule that the code finds is the one that decides among the location's own.
module _ {f : List ℕ} {l : Layout} (k : Laid f l) {h : Here} (o : HereOf f l h) (e : Event) where
  abbrev at : ℕ
  at = l.rules_start + h.own.start

  abbrev v : Place
  v = looked stopped (policy_of l.reading f) (place l.clocks h.state)

  abbrev ours : List Rule
  ours = own h.state.location (policy_of l.reading f).rules

  pub found_rule : {i : ℕ} → some i ≡ decider (rules_from l.clocks f at h.own.count) v e →
      (i < h.own.count) × (decider ours v e ≡ some i) × (decides ours v e ≡ some (rule_from l.clocks f (at + i * rule_size l.clocks)))
  found_rule {i} q =
      let r = own_here k h.state.location o.own in (
        decider_lt l.clocks f v e h.own.count at i (sym q),
        ap (λ (rs : List Rule). decider rs v e) (sym r) ∙ sym q,
        ap (λ (rs : List Rule). decides rs v e) (sym r) ∙ decider_decides l.clocks f v e h.own.count at
            ∙ ap (map (λ (j : ℕ). rule_from l.clocks f (at + j * rule_size l.clocks))) (sym q),
      )

  pub found_none : none ≡ decider (rules_from l.clocks f at h.own.count) v e → decides ours v e ≡ none
  found_none q =
      let r = own_here k h.state.location o.own in
      ap (λ (rs : List Rule). decides rs v e) (sym r) ∙ decider_decides l.clocks f v e h.own.count at
      ∙ ap (map (λ (j : ℕ). rule_from l.clocks f (at + j * rule_size l.clocks))) (sym q)

  -- The rule's own number lies within the file, and what comes before the location's rules counts with it.
  pub rule_there : {i : ℕ} → i < h.own.count → RuleAt f l h.state.location (at + i * rule_size l.clocks)
  rule_there {i} m = ahead_at _ i (own_ahead k h.state.location o.own) m

  pub rule_number : (i : ℕ) → below h.state.location (policy_of l.reading f).rules + i ≡ h.own.start / rule_size l.clocks + i
  unfolding policy_of
  rule_number i =
      let b = below h.state.location (rules_of f) in
      let d : h.own.start ≡ b * rule_size l.clocks = ap (λ (z : Own). z.start) o.own in
      let c : h.own.start / rule_size l.clocks ≡ b = ap (λ (m : ℕ). m / rule_size l.clocks) d ∙ mul-div_cancel b (omega arith) in
      omega (arith, c)

  pub rule_few : {i : ℕ} → i < h.own.count → h.own.start / rule_size l.clocks + i < 65536
  rule_few {i} m =
      let w = laid_well k in
      omega (arith, m, rule_number i, (own_fits k h.state.location o.own).1, below_le h.state.location (policy_of l.reading f).rules, w.rule_count)
