-- The choice from a set.
use Rattle.std.specs.Prelude.{◌≡◌, true, List, ℕ, ◌<◌, ltb, get_or}
use Rattle.std.proofs.Math.Path.{sym, ap}
use Rattle.std.proofs.Common.{◌∙◌, lt-ltb}
use Rattle.std.proofs.Math.Option.{some}
use Rattle.streams.specs.Choose.{nearest}
use Rattle.streams.specs.ChooseLaws.{some_has, nearest_is, nearest_kept, nearest_ext}
use Rattle.policy.specs.Rules.{Policy, Place, input_values, output_values}
use Rattle.policy.specs.Sound.{WellFormed}
use Rattle.choice.specs.Sets.{has}
use Rattle.stepping.specs.Tick.{may_stand, reaches, input_choice, output_choice}
use Rattle.stepping.specs.Ways.{allowed, row}
use Rattle.stepping.specs.WaysLaws.{allowed_row, allowed_stands, row_has}

module _ (p : Policy) (marks : List ℕ) (s : Place) (x : ℕ) where
  -- An input that with some output leads to a marked place is kept.
  pub input_stands : (y : ℕ) → x < input_values p → y < output_values p → reaches p marks s x y ≡ true → input_choice p marks s x ≡ some x
  unfolding input_choice may_stand
  input_stands y h l r = nearest_kept (may_stand p marks s) x (input_values p) h (some_has (reaches p marks s x) (output_values p) y l r)

  -- The input chosen is one of the policy's.
  pub input_below : {z : ℕ} → input_choice p marks s x ≡ some z → z < input_values p
  unfolding input_choice
  input_below e = (nearest_is (may_stand p marks s) x (input_values p) e).may.0

module _ (p : Policy) (k : WellFormed p) (marks : List ℕ) (s : Place) where
  -- The nearest input whose set is not empty is the one that the input half chooses.
  pub sets_chosen : (sets : List ℕ) (all : ℕ) → ((x : ℕ) → get_or sets x 0 ≡ allowed p marks s x) → ((x : ℕ) → has all x ≡ ltb 0 (get_or sets x 0)) → (x : ℕ) →
      nearest (has all) x (input_values p) ≡ input_choice p marks s x
  unfolding input_choice
  sets_chosen sets all e h x =
      nearest_ext (has all) (may_stand p marks s) x (input_values p) (λ z l. h z ∙ ap (ltb 0) (e z) ∙ sym (allowed_stands p k marks s z l))

  -- The nearest output in the row of x is the one that the output half chooses.
  pub row_chosen : (set x : ℕ) → set ≡ row p marks s x → (y : ℕ) → nearest (has set) y (output_values p) ≡ output_choice p marks s x y
  unfolding output_choice
  row_chosen set x e y =
      nearest_ext (has set) (reaches p marks s x) y (output_values p)
      (λ z l. ap (λ (a : ℕ). has a z) e ∙ row_has p k marks s x z ∙ rw (lt-ltb z (output_values p) l))

  -- The set of an input in range serves the output half as its row does.
  pub set_chosen : (set x : ℕ) → set ≡ allowed p marks s x → x < input_values p → (y : ℕ) → nearest (has set) y (output_values p) ≡ output_choice p marks s x y
  set_chosen set x e h y = row_chosen set x (e ∙ allowed_row p k marks s x h) y
