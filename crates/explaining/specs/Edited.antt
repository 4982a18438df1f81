-- With the marks of prepare and a live state: what the halves release, and that an edited half could reach no live state as it was read.
use Rattle.std.specs.Prelude.{◌≡◌, true, not, List, ℕ, ◌<◌, eqb, get_or}
use Rattle.std.proofs.Math.Path.{refl, sym}
use Rattle.std.proofs.Common.{ap, ◌∙◌, lt-ltb, eqb-true}
use Rattle.std.proofs.Math.Bool.{false}
use Rattle.std.proofs.Math.Option.{Option, none, some, some-injective}
use Rattle.std.proofs.lemmas.Bool.{not-false}
use Rattle.streams.specs.Answer.{gives}
use Rattle.streams.specs.ChooseLaws.{some_none, nearest_kept, nearest_some}
use Rattle.policy.specs.Rules.{Policy, Place, input_values, output_values, stopped, step}
use Rattle.policy.specs.File.{policy_of}
use Rattle.policy.specs.Number.{states, number_of}
use Rattle.policy.specs.Sound.{WellFormed, Inside}
use Rattle.policy.specs.Numbered.{number_of_below}
use Rattle.policy.specs.Checked.{well_sound}
use Rattle.policy.specs.Stays.{Of, step_inside}
use Rattle.stepping.specs.State.{state_of}
use Rattle.stepping.specs.Tick.{arrives, reaches, may_stand, input_choice, output_choice}
use Rattle.stepping.specs.Code.{event_xy}
use Rattle.correcting.specs.Chosen.{output_chosen}
use Rattle.enforcer.specs.Entries.{input_past, output_past}
use Rattle.resting.specs.Leads.{is_false}
use Rattle.trimming.specs.Table.{marks_of}
use Rattle.prepare.specs.Enforcing.{AsPrepared}
use Rattle.counting.specs.OtherMarks.{differ, other_marks}
use Rattle.stepping.specs.declared.state.State.{State}

-- Marks that are not refused by 20 are those of prepare.
pub marks_prepared : (p : Policy) (marks : List ℕ) → other_marks p marks ≡ false → AsPrepared p marks
unfolding differ
marks_prepared p marks h n l =
    let e = some_none (λ i. not (eqb (get_or marks i 0) (get_or (marks_of p) i 0))) (states p) h n l in
    ap (λ (m : ℕ). eqb m 1) (eqb-true (get_or marks n 0) (get_or (marks_of p) n 0) (not-false _ e))

module _ (p : Policy) (marks : List ℕ) (s : Place) where
  -- An edited output, and an edited input with any output, reaches no marked state.
  pub edited_output : (x y : ℕ) {z : ℕ} → y < output_values p → output_choice p marks s x y ≡ some z → (y ≡ z → ⊥) → reaches p marks s x y ≡ false
  unfolding output_choice
  edited_output x y {z} l h n =
      is_false _ (λ r. n (some-injective y z (sym (nearest_kept (reaches p marks s x) y (output_values p) l r) ∙ h)))

  -- An edited input reaches no marked state, whatever the output.
  pub edited_input : (x : ℕ) {z : ℕ} → x < input_values p → input_choice p marks s x ≡ some z → (x ≡ z → ⊥) → (y : ℕ) → y < output_values p → reaches p marks s x y ≡ false
  unfolding input_choice may_stand
  edited_input x {z} l h n =
      some_none (reaches p marks s x) (output_values p)
      (is_false _ (λ r. n (some-injective x z (sym (nearest_kept (may_stand p marks s) x (input_values p) l r) ∙ h))))

  -- By the marks of prepare.
  pub reaches_prepared : WellFormed p → AsPrepared p marks → Inside p s → (x y : ℕ) → reaches p marks s x y ≡ false → reaches p (marks_of p) s x y ≡ false
  unfolding reaches
  reaches_prepared ok by i x y = go (step stopped p s (event_xy x y)) (step_inside p (well_sound p ok) s i (event_xy x y))
    where
      go : (d : Option Place) → Of (Inside p) d → arrives p marks d ≡ false → arrives p (marks_of p) d ≡ false
      go none j h = refl
      go (some t) j h = sym (by (number_of p t) (number_of_below p j)) ∙ h

  -- For the x' that is passed on some output reaches a marked state.
  pub output_there : (x y : ℕ) → may_stand p marks s x ≡ true → (z : ℕ) × (output_choice p marks s x y ≡ some z)
  unfolding output_choice may_stand
  output_there x y h = nearest_some (reaches p marks s x) y (output_values p) h

-- What the halves answer past 16, as the code calls them.
module _ (reading : ℕ) (file marks : List ℕ) (t : Place) where
  -- The input half gives the value that it chooses, if x fits.
  pub input_answer : (x : ℕ) {z : ℕ} → x < input_values (policy_of reading file) → input_choice (policy_of reading file) marks t x ≡ some z → input_past reading file marks t x ≡ gives z
  input_answer x l h = rw (lt-ltb x (input_values (policy_of reading file)) l, h)

  -- The output half gives the value that it chooses, if x and y fit.
  pub output_answer : (given : State) (x y : ℕ) {z : ℕ} → x < input_values (policy_of reading file) → y < output_values (policy_of reading file) →
      output_choice (policy_of reading file) marks t x y ≡ some z → (output_past reading file marks given t x y).answer ≡ gives z
  output_answer given x y l u h =
      let o = output_chosen (policy_of reading file) marks t x y h in
      rw (lt-ltb x (input_values (policy_of reading file)) l, lt-ltb y (output_values (policy_of reading file)) u, o.2)

  -- The state that it hands back is where the chosen output takes the place.
  pub output_state : (given : State) (x y : ℕ) {z : ℕ} → x < input_values (policy_of reading file) → y < output_values (policy_of reading file) →
      (h : output_choice (policy_of reading file) marks t x y ≡ some z) →
      (output_past reading file marks given t x y).state ≡ state_of (output_chosen (policy_of reading file) marks t x y h).0
  output_state given x y l u h =
      let o = output_chosen (policy_of reading file) marks t x y h in
      rw (lt-ltb x (input_values (policy_of reading file)) l, lt-ltb y (output_values (policy_of reading file)) u, o.2)
