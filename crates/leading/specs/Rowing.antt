-- One row, x alone, by a pass over the rules: what is known before the first, after each, and after the last, or as soon as nothing is left.
use Rattle.std.specs.Prelude.{◌≡◌, Bool, List, [], ◌∷◌, ℕ}
use Rattle.std.proofs.Math.Path.{refl, sym}
use Rattle.std.proofs.Common.{ap, ◌∙◌}
use Rattle.std.proofs.Math.Bool.{true, false, cond}
use Rattle.std.specs.Int.Bits.{bit_or, bit_xor, or_zero_r}
use Rattle.policy.specs.Rules.{Rule, Policy, Place, output_values, stopped, looked}
use Rattle.policy.specs.Sound.{WellFormed}
use Rattle.policy.specs.Own.{own}
use Rattle.choice.specs.Sets.{all_below}
use Rattle.stepping.specs.Ways.{takes, leads, gathered, row}
use Rattle.stepping.specs.WaysLaws.{gathered_empty, gathered_own}

module _ (s : Place) (p : Policy) (marks : List ℕ) (x : ℕ) where
  -- What is known with the rules rs still to come.
  pub record Rowing (rs : List Rule) (left found : ℕ) : Type 0 where
    pub is : row p marks s x ≡ gathered s p marks rs x left found

  -- Before the first rule all outputs are left and none is found.
  pub rowing_start : WellFormed p → (rs : List Rule) → rs ≡ own s.location p.rules → (left : ℕ) → left ≡ all_below (output_values p) → Rowing rs left 0
  unfolding row
  rowing_start k rs e left c = record { is = sym (gathered_own s p marks x (all_below (output_values p)) k) ∙ rw (e, c) }

  module _ {r : Rule} {rs : List Rule} {left found took kept : ℕ} (g : Rowing (r ∷ rs) left found) (t : took ≡ takes (looked stopped p s) r x left)
      (e : kept ≡ cond (leads s p marks r) took 0) where
    -- After a rule what it takes is no longer left, and is found if the rule leads to a marked place.
    pub rowing_more : Rowing rs (bit_xor left took) (bit_or found kept)
    unfolding gathered
    rowing_more = record { is = g.is ∙ rw (e, t) (ap (gathered s p marks rs x (bit_xor left (takes (looked stopped p s) r x left))) (go (leads s p marks r))) }
      where
        go : (b : Bool) → cond b (bit_or found (takes (looked stopped p s) r x left)) found ≡ bit_or found (cond b (takes (looked stopped p s) r x left) 0)
        go true = refl
        go false = sym (or_zero_r found)

  -- After the last rule what is found is the row.
  pub rowing_done : {left found : ℕ} → Rowing [] left found → found ≡ row p marks s x
  unfolding gathered
  rowing_done g = sym g.is

  -- With nothing left the rest of the rules need not be looked at.
  pub rowing_empty : {rs : List Rule} {left found : ℕ} → Rowing rs left found → left ≡ 0 → found ≡ row p marks s x
  rowing_empty {rs} {found = found} g e = sym (g.is ∙ rw e (gathered_empty s p marks rs x found))
