-- What the refusals make sure of, and how the code finds them.
-- In order: the refusal that the code finds, by the first that is given; what holds where none is; the answer; the same under the reading of the layout.
use Rattle.std.specs.Prelude.{◌≡◌, refl, true, false, not, List, take}
use Rattle.std.proofs.Common.{sym, ap, subst, ◌∙◌, arith}
use Rattle.std.proofs.Math.Bool.{and-eq-true_iff}
use Prim.Native.Nat.{ℕ, zero, suc, ◌≤◌, ◌<◌}
use borrow.Author.Tests.{lt-ltb, le-ltb, ltb-true, not-true}
use Rattle.streams.specs.Answer.{refused, gives, unless}
use Rattle.streams.specs.AnswerLaws.{none_refused, none_unless}
use Rattle.policy.specs.Rules.{Policy, Place, input_values, output_values}
use Rattle.policy.specs.File.{policy_of}
use Rattle.policy.specs.Number.{states, number_of}
use Rattle.stepping.specs.State.{place_in, is_marked, place}
use Rattle.enforcer.specs.Entries.{x_good, y_good, marks_refusal, state_refusal}
use Rattle.policy.specs.declared.Layout.{Layout}
use Rattle.stepping.specs.Ready.{Standing}
use Rattle.stepping.specs.Laid.{laid_place}
use Rattle.enforcer.specs.States.{Granted, state_granted, granted_standing}
use Rattle.stepping.specs.declared.state.State.{State}
use Rattle.prepare.specs.Enforcing.{AsPrepared}
use Rattle.explaining.specs.Reasons.{Explained}
use Rattle.counting.specs.OtherMarks.{other_marks}
use Rattle.explaining.specs.EachHalf.{Reasons}
use Rattle.reasons.specs.Entry.{why_refusal, WhyAnswers, refuses, explains}
use Rattle.explaining.specs.Edited.{marks_prepared}
use Rattle.explaining.specs.Halves.{BothTold}
use Rattle.counting.specs.Counted.{CountsOf}

-- The tables begin with the counts.
abbrev pub CountsFront : Policy → (T R : List ℕ) → Type 0
CountsFront p T R = CountsOf p (take (states p) T) (take (states p) R)

-- The refusal that the code finds, and what its tables hold then.
pub record Refuses (reading : ℕ) (file marks : List ℕ) (s : State) (x y r : ℕ) (T R : List ℕ) : Type 0 where
  pub is : r ≡ why_refusal reading file marks s x y
  pub left : r ≡ 0 → CountsFront (policy_of reading file) T R

module _ (reading : ℕ) (file marks : List ℕ) (s : State) (x y : ℕ) where
  -- The first that is given, in their order.
  module _ (T R : List ℕ) where
    -- The reading, the file or the number of marks is refused.
    pub by_marks : {r : ℕ} → r ≡ marks_refusal reading file marks → (r ≡ 0 → ⊥) → Refuses reading file marks s x y r T R
    unfolding why_refusal
    by_marks {r = zero} e n = absurd (n refl)
    by_marks {r = suc r} e n = record { is = rw (← e); left = λ z. absurd (omega arith) }

    -- Reading, file and marks pass, but the state is refused.
    pub by_state : {r : ℕ} → marks_refusal reading file marks ≡ 0 → r ≡ state_refusal reading file marks s → (r ≡ 0 → ⊥) → Refuses reading file marks s x y r T R
    unfolding why_refusal
    by_state {r = zero} m e n = absurd (n refl)
    by_state {r = suc r} m e n = record { is = rw (m, ← e); left = λ z. absurd (omega arith) }

    module _ (m : marks_refusal reading file marks ≡ 0) (t : state_refusal reading file marks s ≡ 0) where
      -- The state passes, but the marks are not those of prepare: 20.
      pub by_other : other_marks (policy_of reading file) marks ≡ true → Refuses reading file marks s x y 20 T R
      unfolding why_refusal
      by_other o = record { is = rw (m, t, o); left = λ z. absurd (omega arith) }

      module _ (o : other_marks (policy_of reading file) marks ≡ false) where
        -- The marks are those of prepare, but x has a bit beyond the inputs: 15.
        pub by_x : input_values (policy_of reading file) ≤ x → Refuses reading file marks s x y 15 T R
        unfolding why_refusal
        by_x l = record { is = rw (m, t, o, le-ltb x (input_values (policy_of reading file)) l); left = λ z. absurd (omega arith) }

        module _ (l : x < input_values (policy_of reading file)) where
          -- x fits, but y has a bit beyond the outputs: 15.
          pub by_y : output_values (policy_of reading file) ≤ y → Refuses reading file marks s x y 15 T R
          unfolding why_refusal
          by_y u = record { is = rw (m, t, o, lt-ltb x (input_values (policy_of reading file)) l, le-ltb y (output_values (policy_of reading file)) u); left = λ z. absurd (omega arith) }

          -- y fits as well: nothing is refused, and the tables begin with the counts.
          pub by_nothing : y < output_values (policy_of reading file) → CountsFront (policy_of reading file) T R → Refuses reading file marks s x y 0 T R
          unfolding why_refusal
          by_nothing u k = record { is = rw (m, t, o, lt-ltb x (input_values (policy_of reading file)) l, lt-ltb y (output_values (policy_of reading file)) u); left = λ z. k }

  -- None is given.
  pub record Allowed : Type 0 where
    pub no_early : marks_refusal reading file marks ≡ 0
    pub no_16 : state_refusal reading file marks s ≡ 0
    pub prepared : AsPrepared (policy_of reading file) marks
    pub live : is_marked marks (number_of (policy_of reading file) (place_in (policy_of reading file) s)) ≡ true
    pub x_fits : x < input_values (policy_of reading file)
    pub y_fits : y < output_values (policy_of reading file)

  -- No refusal means that none of its reasons holds.
  pub allowed : why_refusal reading file marks s x y ≡ 0 → Allowed
  unfolding why_refusal
  allowed e =
      let a = (none_refused (marks_refusal reading file marks) _).0 e in
      let b = (none_refused (state_refusal reading file marks s) _).0 a.1 in
      let c = (none_refused (unless (not (other_marks (policy_of reading file) marks)) 20) _).0 b.1 in
      let d = (and-eq-true_iff (x_good reading file x) (y_good reading file y)).0 ((none_unless _ 14).0 c.1) in
      record {
        no_early = a.0;
        no_16 = b.0;
        prepared = marks_prepared (policy_of reading file) marks (not-true _ ((none_unless _ 19).0 c.0));
        live = ((state_granted reading file marks s).0 b.0).1;
        x_fits = ltb-true x _ d.0;
        y_fits = ltb-true y _ d.1;
      }

  -- What the entry answers.
  pub answers_refused : {r : ℕ} {T R : List ℕ} → Refuses reading file marks s x y r T R → (r ≡ 0 → ⊥) → WhyAnswers reading file marks s x y (refused r)
  answers_refused {r = zero} h n = absurd (n refl)
  answers_refused {r = suc r} h n = refuses (sym h.is)

  -- Without a refusal the answer is the reasons that explain the tick.
  pub answers_given : {r : ℕ} {T R : List ℕ} {q : Reasons} → Refuses reading file marks s x y r T R → r ≡ 0 →
      Explained (policy_of reading file) marks (place_in (policy_of reading file) s) x y q.input q.output → WhyAnswers reading file marks s x y (gives q)
  answers_given h z e = explains (sym h.is ∙ z) e

-- The same under the reading that the layout has.
module _ {reading : ℕ} {file marks : List ℕ} {s : State} {x y : ℕ} {l : Layout} (k : Granted reading file marks l) (h : Allowed reading file marks s x y) where
  -- There is a mark for each state, and the state is in range.
  pub at_standing : Standing file l marks s
  at_standing = granted_standing k.laid k.enough (subst (λ (r : ℕ). state_refusal r file marks s ≡ 0) (sym k.named) h.no_16)

  -- The marks are those of prepare.
  pub at_prepared : AsPrepared (policy_of l.reading file) marks
  at_prepared = subst (λ (r : ℕ). AsPrepared (policy_of r file) marks) (sym k.named) h.prepared

  -- The state is marked.
  pub at_live : is_marked marks (number_of (policy_of l.reading file) (place l.clocks s)) ≡ true
  at_live =
      ap (λ (t : Place). is_marked marks (number_of (policy_of l.reading file) t)) (laid_place k.laid s)
      ∙ subst (λ (r : ℕ). is_marked marks (number_of (policy_of r file) (place_in (policy_of r file) s)) ≡ true) (sym k.named) h.live

  -- x has no bit beyond the inputs.
  pub at_x : x < input_values (policy_of l.reading file)
  at_x = subst (λ (r : ℕ). x < input_values (policy_of r file)) (sym k.named) h.x_fits

  -- y has no bit beyond the outputs.
  pub at_y : y < output_values (policy_of l.reading file)
  at_y = subst (λ (r : ℕ). y < output_values (policy_of r file)) (sym k.named) h.y_fits

  -- Reasons found under the layout's reading explain the tick under the reading that was named.
  pub at_told : {q : Reasons} → BothTold (policy_of l.reading file) marks (place l.clocks s) x y q →
      Explained (policy_of reading file) marks (place_in (policy_of reading file) s) x y q.input q.output
  at_told {q} t =
      subst (λ (r : ℕ). Explained (policy_of r file) marks (place_in (policy_of r file) s) x y q.input q.output) k.named
      (subst (λ (z : Place). Explained (policy_of l.reading file) marks z x y q.input q.output) (laid_place k.laid s) t.explained)

-- Tables that begin with the counts have them under the layout's reading and number of states.
pub at_counts : {reading : ℕ} {file marks : List ℕ} {l : Layout} (T R : List ℕ) → Granted reading file marks l → CountsFront (policy_of reading file) T R →
    CountsOf (policy_of l.reading file) (take l.states T) (take l.states R)
at_counts {file = file} {l = l} T R k e = rw (k.laid.states, k.named) e

-- And back: counts under the layout's reading and number of states are those that the tables begin with.
pub at_front : {reading : ℕ} {file marks : List ℕ} {l : Layout} (T R : List ℕ) → Granted reading file marks l →
    CountsOf (policy_of l.reading file) (take l.states T) (take l.states R) → CountsFront (policy_of reading file) T R
at_front {file = file} {l = l} T R k e = rw (k.laid.states, k.named) at e
