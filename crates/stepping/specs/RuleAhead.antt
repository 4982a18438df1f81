-- The rules of a location that are still ahead, by where they stand in the file.
use Rattle.std.specs.Prelude.{◌≡◌, refl, List, [], ◌∷◌, ℕ, zero, suc, ◌+◌, ◌-◌, ◌*◌, ◌≤◌, ◌<◌, length}
use Rattle.std.proofs.Math.Path.{sym, ap}
use Rattle.std.proofs.Common.{subst, ◌∙◌, suc-mul, mul-le-mul_right, arith}
use Rattle.std.proofs.Math.Nat.{pow-le-pow_right}
use Rattle.policy.specs.Rules.{Rule, Policy}
use Rattle.policy.specs.File.{rule_size, rule_from, rules_from, rules_of, clock_count, policy_of}
use Rattle.policy.specs.Sound.{WellFormed, Each, each_none, each_more, each_weak, Formed}
use Rattle.policy.specs.Frame.{frame}
use Rattle.policy.specs.Checked.{well_rising, well_ruled}
use Rattle.policy.specs.Parts.{rules_part}
use Rattle.policy.specs.Own.{own, own_of, each_own, own_sources}
use Rattle.policy.specs.declared.Layout.{Layout}
use Rattle.policy.specs.declared.own.Own.{Own}
use Rattle.stepping.specs.Ready.{Laid, HereOf}
use Rattle.stepping.specs.Laid.{laid_well, laid_limits, laid_clocks, own_fits, own_rules}
use Rattle.stepping.specs.declared.here.Here.{Here}
use Rattle.stepping.specs.declared.ahead.RulesAhead.{RulesAhead}

-- A rule that is formed for so many clocks and locations, with care bits for at most four inputs.
pub record Cared (clocks locations : ℕ) (r : Rule) : Type 0 where
  pub formed : Formed clocks locations r
  pub care : r.in_care < 16

well_cared : (p : Policy) → WellFormed p → Each (Cared (length p.ceilings) p.locations) p.rules
well_cared p k =
    each_weak (λ r g. let l = pow-le-pow_right {n = 2} (omega arith) k.inputs in record { formed = g.formed; care = omega (arith, g.in_care) })
    (well_ruled p k)

-- The same, of a rule of the location a.
pub record Ours (clocks locations a : ℕ) (r : Rule) : Type 0 where
  pub source : r.source ≡ a
  pub formed : Formed clocks locations r
  pub care : r.in_care < 16

each_ours : {clocks locations a : ℕ} {rs : List Rule} → Each (λ r. r.source ≡ a) rs → Each (Cared clocks locations) rs → Each (Ours clocks locations a) rs
each_ours each_none each_none = each_none
each_ours (each_more e h) (each_more f k) = each_more (record { source = e; formed = f.formed; care = f.care }) (each_ours h k)

-- n rules from `at` on are the location's, and lie within the file. By the last two fields no sum overflows on the way from one to the next.
pub record Ahead (f : List ℕ) (l : Layout) (a at n : ℕ) : Type 0 where
  pub each : Each (Ours l.clocks l.locations a) (rules_from l.clocks f at n)
  pub ends : at + n * rule_size l.clocks ≤ length f
  pub short : length f < 65536
  pub clocks : l.clocks ≤ 4

-- All rules of the state's location are ahead.
pub record AllAhead (f : List ℕ) (l : Layout) (h : Here) (r : RulesAhead) : Type 0 where
  pub is : r ≡ record { at = l.rules_start + h.own.start; ahead = h.own.count }
  pub ahead : Ahead f l h.state.location r.at r.ahead
  pub rules : rules_from l.clocks f r.at r.ahead ≡ own h.state.location (policy_of l.reading f).rules

-- The rule at `at` is the location's, and lies within the file.
pub record RuleAt (f : List ℕ) (l : Layout) (a at : ℕ) : Type 0 where
  pub ours : Ours l.clocks l.locations a (rule_from l.clocks f at)
  pub ends : at + rule_size l.clocks ≤ length f
  pub short : length f < 65536

module _ {f : List ℕ} {l : Layout} (k : Laid f l) where
  -- A file that passes the check has fewer than 65,536 bytes.
  pub laid_short : length f < 65536
  laid_short = let g = frame f k.passes in omega (arith, mul-le-mul_right (rule_size (clock_count f)) g.rules)

  module _ (a : ℕ) {o : Own} (e : o ≡ own_of l.clocks a (rules_of f)) where
    -- The rules from the location's first on, as many as it has, are its own.
    pub own_here : rules_from l.clocks f (l.rules_start + o.start) o.count ≡ own a (policy_of l.reading f).rules
    unfolding policy_of
    own_here = sym (rules_part f l.clocks (l.rules_start + o.start) o.count) ∙ own_rules k a e

    -- Before the first of them all the location's own rules are ahead.
    pub own_ahead : Ahead f l a (l.rules_start + o.start) o.count
    unfolding policy_of
    own_ahead =
        record {
          each =
              rw (own_here, k.locations, laid_clocks k)
              (each_ours (own_sources a (well_rising (policy_of l.reading f) (laid_well k))) (each_own a (well_cared (policy_of l.reading f) (laid_well k))));
          ends = (own_fits k a e).0;
          short = laid_short;
          clocks = (laid_limits k).2;
        }

  -- So they are before the first.
  pub all_ahead : {h : Here} → HereOf f l h → AllAhead f l h (record { at = l.rules_start + h.own.start; ahead = h.own.count })
  all_ahead {h} o = record { is = refl; ahead = own_ahead h.state.location o.own; rules = own_here h.state.location o.own }

module _ {f : List ℕ} {l : Layout} {a at n : ℕ} (h : Ahead f l a at n) (m : 0 < n) where
  left : n ≡ suc (n - 1)
  left = omega arith

  -- The rules ahead are the one at `at` and those behind it.
  pub ahead_first : rules_from l.clocks f at n ≡ rule_from l.clocks f at ∷ rules_from l.clocks f (at + rule_size l.clocks) (n - 1)
  unfolding rules_from
  ahead_first = ap (rules_from l.clocks f at) left

  room_left : at + rule_size l.clocks + (n - 1) * rule_size l.clocks ≤ length f
  room_left = omega (arith, h.ends, ap (λ (m : ℕ). m * rule_size l.clocks) left ∙ suc-mul (n - 1) (rule_size l.clocks))

  split : Ours l.clocks l.locations a (rule_from l.clocks f at)
      × Each (Ours l.clocks l.locations a) (rules_from l.clocks f (at + rule_size l.clocks) (n - 1))
  split = go (rw ahead_first at h.each)
    where
      go : {r : Rule} {rs : List Rule} → Each (Ours l.clocks l.locations a) (r ∷ rs) → Ours l.clocks l.locations a r × Each (Ours l.clocks l.locations a) rs
      go (each_more p q) = (p, q)

  -- The rule at `at` is the location's, and lies within the file.
  pub ahead_rule : RuleAt f l a at
  ahead_rule = record { ours = split.0; ends = omega (arith, room_left); short = h.short }

  -- Behind the rule at `at` one rule less is ahead.
  pub ahead_rest : Ahead f l a (at + rule_size l.clocks) (n - 1)
  ahead_rest = record { each = split.1; ends = room_left; short = h.short; clocks = h.clocks }

-- Each of the rules ahead is the location's.
pub ahead_at : {f : List ℕ} {l : Layout} {a at : ℕ} (n i : ℕ) → Ahead f l a at n → i < n → RuleAt f l a (at + i * rule_size l.clocks)
ahead_at {f} {l} {a} {at} n zero h m =
    let e : at ≡ at + 0 * rule_size l.clocks = omega arith in
    subst (RuleAt f l a) e (ahead_rule h m)
ahead_at {f} {l} {a} {at} n (suc i) h m =
    let e : at + rule_size l.clocks + i * rule_size l.clocks ≡ at + suc i * rule_size l.clocks = omega (arith, suc-mul i (rule_size l.clocks)) in
    subst (RuleAt f l a) e (ahead_at {at = at + rule_size l.clocks} (n - 1) i (ahead_rest h (omega arith)) (omega arith))

-- No rules ahead are an empty list.
pub none_ahead : (clocks : ℕ) (f : List ℕ) (at n : ℕ) → n ≡ 0 → rules_from clocks f at n ≡ []
unfolding rules_from
none_ahead clocks f at n e = rw e
