-- The number of the rule that decides, among rules as they stand in a file.
use Rattle.std.specs.Prelude.{◌≡◌, Bool, List}
use Rattle.std.proofs.Math.Path.{refl, ap}
use Rattle.std.proofs.Math.Bool.{true, false, cond}
use Rattle.std.proofs.Math.Option.{Option, none, some, map, none-ne-some, some-injective, map-eq-some_iff}
use Prim.Native.Nat.{ℕ, zero, suc, ◌+◌, ◌*◌, ◌<◌}
use Rattle.std.proofs.Common.{arith}
use Rattle.streams.specs.Stream.{Event}
use Rattle.policy.specs.Rules.{Place, fires, decides}
use Rattle.policy.specs.File.{rule_size, rule_from, rules_from}
use Rattle.stepping.specs.Code.{decider}

module _ (k : ℕ) (f : List ℕ) (s : Place) (e : Event) where
  -- The number of the rule that decides among n is below n.
  pub decider_lt : (n at i : ℕ) → decider (rules_from k f at n) s e ≡ some i → i < n
  unfolding decider rules_from
  decider_lt zero at i p = absurd (none-ne-some i p)
  decider_lt (suc n) at i p = go (fires (rule_from k f at) s e) p (λ j. decider_lt n (at + rule_size k) j)
    where
      go : (t : Bool) → cond t (some 0) (map suc (decider (rules_from k f (at + rule_size k) n) s e)) ≡ some i
          → ((j : ℕ) → decider (rules_from k f (at + rule_size k) n) s e ≡ some j → j < n) → i < suc n
      go true q h = omega (arith, some-injective 0 i q)
      go false q h =
          let m = (map-eq-some_iff suc (decider (rules_from k f (at + rule_size k) n) s e)).0 q in
          omega (arith, h m.0 m.1, m.2)

  -- The rule that decides stands as many rules behind the first as its number says.
  pub decider_decides : (n at : ℕ)
      → decides (rules_from k f at n) s e ≡ map (λ i. rule_from k f (at + i * rule_size k)) (decider (rules_from k f at n) s e)
  unfolding decider decides rules_from
  decider_decides zero at = refl
  decider_decides (suc n) at =
      rw (decider_decides n (at + rule_size k)) (go (fires (rule_from k f at) s e) (decider (rules_from k f (at + rule_size k) n) s e))
    where
      go : (t : Bool) (o : Option ℕ) → cond t (some (rule_from k f at)) (map (λ i. rule_from k f (at + rule_size k + i * rule_size k)) o)
          ≡ map (λ i. rule_from k f (at + i * rule_size k)) (cond t (some 0) (map suc o))
      go true o = ap (λ (p : ℕ). some (rule_from k f p)) (omega arith)
      go false none = refl
      go false (some i) = ap (λ (p : ℕ). some (rule_from k f p)) (omega arith)
