-- "With it the halves give the same answers as the present ones for every input. Any other index is refused and never followed."
-- In order: the same answers with the file's index; 28 with any other; the numbers that the halves refuse by; what is refused before the state is
-- looked at.
use Rattle.std.specs.Prelude.{◌≡◌, Bool, true, false, List, ◌↔◌}
use Rattle.std.proofs.Math.Path.{refl}
use Rattle.std.proofs.Common.{sym, ap, subst, ◌∙◌, arith}
use Rattle.std.proofs.lemmas.Bool.{false≢true}
use Rattle.std.proofs.Math.Option.{Option}
use Prim.Native.Nat.{ℕ, zero, suc, ◌≤◌}
use Rattle.streams.specs.Answer.{Answer, refused, gives, ◌or_else◌, unless, UpTo}
use Rattle.streams.specs.AnswerLaws.{none_refused, none_unless, unless_le, else_le}
use Rattle.policy.specs.Check.{refusal_under}
use Rattle.policy.specs.CheckLaws.{under_le}
use Rattle.index.specs.Index.{index_of, same, same_exactly}
use Rattle.stepping.specs.Tick.{ReleasedTick}
use Rattle.enforcer.specs.Entries.{OutputAnswer, chosen, output_from, marks_refusal, input_of, input_refusal, output_of, output_refusal}
use Rattle.enforcer.specs.States.{chosen_first}
use Rattle.enforcer.specs.Refusals.{marks_le, input_up_to, output_up_to}
use Rattle.indexed.specs.Entries.{refused_or, index_refusal, early_refusal, input_indexed_of, output_indexed_of}
use Rattle.stepping.specs.declared.state.State.{State}

-- Where 28 is not given, what the check refuses is what the half refuses first.
input_first : {A : Type 0} (n m t : ℕ) (o : Option A) → refused_or (n or_else 0) refused (chosen ((n or_else m) or_else t) o) ≡ chosen ((n or_else m) or_else t) o
input_first zero m t o = refl
input_first (suc n) m t o = refl

output_first : (s : State) (n m t : ℕ) (o : Option ReleasedTick) →
    refused_or {A = OutputAnswer} (n or_else 0) (λ i. record { answer = refused i; state = s }) (output_from s (chosen ((n or_else m) or_else t) o)) ≡ output_from s (chosen ((n or_else m) or_else t) o)
output_first s zero m t o = refl
output_first s (suc n) m t o = refl

-- 28 is given exactly if the check passes and the index is not the file's; all other refusals are at most 22.
exactly : (n : ℕ) (b : Bool) (a : Answer ℕ) → n ≤ 22 → UpTo 22 a → (refused_or (n or_else unless b 28) refused a ≡ refused 28) ↔ ((n ≡ 0) × (b ≡ false))
exactly zero true a l u = (λ e. absurd (omega (arith, subst (UpTo 22) e u)), λ k. absurd (false≢true (sym k.1)))
exactly zero false a l u = (λ e. (refl, refl), λ k. refl)
exactly (suc n) b a l u = (λ e. let z : suc n ≡ 28 = cc in absurd (omega arith), λ k. absurd (omega arith))

up_to : (n : ℕ) (b : Bool) (a : Answer ℕ) → n ≤ 22 → UpTo 22 a → UpTo 28 (refused_or (n or_else unless b 28) refused a)
up_to zero true (refused n) l u = (u.0, omega arith)
up_to zero true (gives v) l u = tt
up_to zero false a l u = (omega arith, omega arith)
up_to (suc n) b a l u = (omega arith, omega arith)

-- The test, as what it tests.
not_index : (f xs : List ℕ) → (same xs (index_of f) ≡ false) ↔ (xs ≡ index_of f → ⊥)
not_index f xs = (λ n e. false≢true (sym n ∙ (same_exactly xs (index_of f)).1 e), λ h. go (same xs (index_of f)) refl h)
  where
    go : (t : Bool) → same xs (index_of f) ≡ t → (xs ≡ index_of f → ⊥) → t ≡ false
    go true e h = absurd (h ((same_exactly xs (index_of f)).0 e))
    go false e h = refl

module _ (reading : ℕ) (file index marks : List ℕ) (s : State) where
  -- With the file's index: the same answer, whole, and the same state.
  pub input_same : index ≡ index_of file → (x : ℕ) → input_indexed_of reading file index marks s x ≡ input_of reading file marks s x
  unfolding input_indexed_of index_refusal input_of input_refusal marks_refusal
  input_same e x = rw ((same_exactly index (index_of file)).1 e) (input_first (refusal_under reading file) _ _ _)

  -- With the file's index the output half gives the same answer and hands back the same state.
  pub output_same : index ≡ index_of file → (x y : ℕ) → output_indexed_of reading file index marks s x y ≡ output_of reading file marks s x y
  unfolding output_indexed_of index_refusal output_of output_refusal marks_refusal
  output_same e x y = rw ((same_exactly index (index_of file)).1 e) (output_first s (refusal_under reading file) _ _ _)

  -- With any other: 28, exactly if the check passes.
  pub input_28 : (x : ℕ) → (input_indexed_of reading file index marks s x ≡ refused 28) ↔ ((refusal_under reading file ≡ 0) × (index ≡ index_of file → ⊥))
  unfolding input_indexed_of index_refusal
  input_28 x =
      let k = exactly (refusal_under reading file) (same index (index_of file)) (input_of reading file marks s x) (under_le reading file) (input_up_to reading file marks s x) in (
        λ e. let h = k.0 e in (h.0, (not_index file index).0 h.1),
        λ h. k.1 (h.0, (not_index file index).1 h.1),
      )

  -- The output half gives 28 in the same cases.
  pub output_28 : (x y : ℕ) → ((output_indexed_of reading file index marks s x y).answer ≡ refused 28) ↔ ((refusal_under reading file ≡ 0) × (index ≡ index_of file → ⊥))
  unfolding output_indexed_of index_refusal
  output_28 x y =
      let n = refusal_under reading file or_else unless (same index (index_of file)) 28 in
      let o = output_of reading file marks s x y in
      let k = exactly (refusal_under reading file) (same index (index_of file)) o.answer (under_le reading file) (output_up_to reading file marks s x y) in (
        λ e. let h = k.0 (sym (answer_of n o) ∙ e) in (h.0, (not_index file index).0 h.1),
        λ h. answer_of n o ∙ k.1 (h.0, (not_index file index).1 h.1),
      )
    where
      answer_of : (n : ℕ) (o : OutputAnswer) → (refused_or {A = OutputAnswer} n (λ i. record { answer = refused i; state = s }) o).answer ≡ refused_or n refused o.answer
      answer_of zero o = refl
      answer_of (suc n) o = refl

  -- They refuse by 1 to 28 alone.
  pub input_up_to_28 : (x : ℕ) → UpTo 28 (input_indexed_of reading file index marks s x)
  unfolding input_indexed_of index_refusal
  input_up_to_28 x = up_to (refusal_under reading file) (same index (index_of file)) _ (under_le reading file) (input_up_to reading file marks s x)

  -- The output half refuses by 1 to 28.
  pub output_up_to_28 : (x y : ℕ) → UpTo 28 (output_indexed_of reading file index marks s x y).answer
  unfolding output_indexed_of index_refusal
  output_up_to_28 x y =
      go (refusal_under reading file or_else unless (same index (index_of file)) 28) (output_of reading file marks s x y)
      (up_to (refusal_under reading file) (same index (index_of file)) _ (under_le reading file) (output_up_to reading file marks s x y))
    where
      go : (n : ℕ) (o : OutputAnswer) → UpTo 28 (refused_or n refused o.answer) → UpTo 28 (refused_or {A = OutputAnswer} n (λ i. record { answer = refused i; state = s }) o).answer
      go zero o h = h
      go (suc n) o h = h

-- What the code finds up to 10, by the number r that it finds.
early_input : {A : Type 0} (n : ℕ) (b : Bool) (m t : ℕ) (o : Option A) {r : ℕ} → r ≡ ((n or_else unless b 28) or_else (n or_else m)) → (r ≡ 0 → ⊥) →
    refused_or (n or_else unless b 28) refused (chosen ((n or_else m) or_else t) o) ≡ refused r
early_input zero true m t o e h = chosen_first m t o e h
early_input zero false m t o e h = ap refused (sym e)
early_input (suc n) b m t o e h = ap refused (sym e)

early_output : (s : State) (n : ℕ) (b : Bool) (m t : ℕ) (o : Option ReleasedTick) {r : ℕ} → r ≡ ((n or_else unless b 28) or_else (n or_else m)) → (r ≡ 0 → ⊥) →
    refused_or {A = OutputAnswer} (n or_else unless b 28) (λ i. record { answer = refused i; state = s }) (output_from s (chosen ((n or_else m) or_else t) o))
    ≡ record { answer = refused r; state = s }
early_output s zero true m t o e h = ap (output_from s) (chosen_first m t o e h)
early_output s zero false m t o {r} e h = ap (λ (i : ℕ). record { answer = refused i; state = s }) (sym e)
early_output s (suc n) b m t o {r} e h = ap (λ (i : ℕ). record { answer = refused i; state = s }) (sym e)

module _ (reading : ℕ) (file index marks : List ℕ) where
  -- What is refused before the state is looked at is the answer of the input half.
  pub input_early : (s : State) (x : ℕ) {r : ℕ} → r ≡ early_refusal reading file index marks → (r ≡ 0 → ⊥) → input_indexed_of reading file index marks s x ≡ refused r
  unfolding input_indexed_of early_refusal index_refusal input_of input_refusal marks_refusal
  input_early s x = early_input (refusal_under reading file) (same index (index_of file)) _ _ _

  -- It is the answer of the output half too, which hands the state back.
  pub output_early : (s : State) (x y : ℕ) {r : ℕ} → r ≡ early_refusal reading file index marks → (r ≡ 0 → ⊥) →
      output_indexed_of reading file index marks s x y ≡ record { answer = refused r; state = s }
  unfolding output_indexed_of early_refusal index_refusal output_of output_refusal marks_refusal
  output_early s x y = early_output s (refusal_under reading file) (same index (index_of file)) _ _ _

  -- Past them the index is the file's.
  pub early_granted : early_refusal reading file index marks ≡ 0 → (index ≡ index_of file) × (marks_refusal reading file marks ≡ 0)
  unfolding early_refusal index_refusal
  early_granted e =
      let k = (none_refused (refusal_under reading file or_else unless (same index (index_of file)) 28) _).0 e in
      let g = (none_refused (refusal_under reading file) _).0 k.0 in
      ((same_exactly index (index_of file)).0 ((none_unless _ 27).0 g.1), k.1)

  -- With the file's index they are the present halves'.
  pub early_same : index ≡ index_of file → early_refusal reading file index marks ≡ marks_refusal reading file marks
  unfolding early_refusal index_refusal marks_refusal
  early_same e = rw ((same_exactly index (index_of file)).1 e) (go (refusal_under reading file) _)
    where
      go : (n m : ℕ) → ((n or_else 0) or_else (n or_else m)) ≡ (n or_else m)
      go zero m = refl
      go (suc n) m = refl

  -- What is refused before the state is looked at is refused by at most 28.
  pub early_le : early_refusal reading file index marks ≤ 28
  unfolding early_refusal index_refusal
  early_le =
      let n : refusal_under reading file ≤ 28 = omega (arith, under_le reading file) in
      let m : marks_refusal reading file marks ≤ 28 = omega (arith, marks_le reading file marks) in
      search (else_le, unless_le)
