-- What the functions' proofs cite of the layout that the code goes on with: without it, and with it what is refused by 16 and what is left past that.
use Rattle.std.specs.Prelude.{◌≡◌, List, ℕ}
use Rattle.std.proofs.Common.{sym, ap, ◌∙◌, arith}
use Rattle.streams.specs.Answer.{refused, gives}
use Rattle.streams.specs.AnswerLaws.{given_only}
use Rattle.refusals.specs.Refused.{number_of}
use Rattle.refusals.specs.Laws.{number_above}
use Rattle.refusals.specs.declared.Refusal.{Refusal}
use Rattle.policy.specs.Layout.{layout_of}
use Rattle.policy.specs.declared.Layout.{Layout}
use Rattle.index.specs.Index.{index_of}
use Rattle.stepping.specs.State.{place}
use Rattle.stepping.specs.declared.state.State.{State}
use Rattle.enforcer.specs.Entries.{layout_for, marks_refusal, state_refusal, input_past, output_past}
use Rattle.enforcer.specs.States.{refused_only, input_by_16, output_by_16, input_left, output_left}
use Rattle.indexed.specs.Entries.{early_refusal, layout_by_index, input_indexed_of, output_indexed_of}
use Rattle.indexed.specs.Same as Same
use Rattle.indexed.specs.Same.{input_same, output_same, early_granted}

module _ (reading : ℕ) (file index marks : List ℕ) where
  -- Without a layout each half answers with that refusal.
  module _ (r : Refusal) (e : refused (number_of r) ≡ layout_by_index reading file index marks) where
    early : number_of r ≡ early_refusal reading file index marks
    unfolding layout_by_index
    early = sym (refused_only _ _ (sym e))

    pub input_refused : (s : State) (x : ℕ) → input_indexed_of reading file index marks s x ≡ refused (number_of r)
    input_refused s x = Same.input_early reading file index marks s x early (λ z. omega (arith, number_above r))

    pub output_refused : (s : State) (x y : ℕ) → output_indexed_of reading file index marks s x y ≡ record { answer = refused (number_of r); state = s }
    output_refused s x y = Same.output_early reading file index marks s x y early (λ z. omega (arith, number_above r))

  -- With a layout the index is the file's, and the layout is the one without an index.
  module _ {l : Layout} (e : gives l ≡ layout_by_index reading file index marks) where
    granted : (index ≡ index_of file) × (marks_refusal reading file marks ≡ 0) × (layout_of reading file ≡ l)
    unfolding layout_by_index
    granted =
        let k = given_only _ _ _ (sym e) in
        let g = early_granted reading file index marks k.0 in
        (g.0, g.1, k.1)

    pub early_index : index ≡ index_of file
    early_index = granted.0

    pub early_layout : gives l ≡ layout_for reading file marks
    unfolding layout_for
    early_layout = rw granted.1 (ap gives (sym granted.2))

    module _ (s : State) where
      -- 16 is what is refused then.
      module _ (r : Refusal) (q : number_of r ≡ state_refusal l.reading file marks s) where
        pub input_state : (x : ℕ) → input_indexed_of reading file index marks s x ≡ refused (number_of r)
        input_state x = input_same reading file index marks s early_index x ∙ input_by_16 reading file marks early_layout s r q x

        pub output_state : (x y : ℕ) → output_indexed_of reading file index marks s x y ≡ record { answer = refused (number_of r); state = s }
        output_state x y = output_same reading file index marks s early_index x y ∙ output_by_16 reading file marks early_layout s r q x y

      -- Past 16 only 15 and 17 are left.
      module _ (z : 0 ≡ state_refusal l.reading file marks s) where
        pub input-past : (x : ℕ) → input_indexed_of reading file index marks s x ≡ input_past l.reading file marks (place l.clocks s) x
        input-past x = input_same reading file index marks s early_index x ∙ input_left reading file marks early_layout s z x

        pub output-past : (x y : ℕ) → output_indexed_of reading file index marks s x y ≡ output_past l.reading file marks s (place l.clocks s) x y
        output-past x y = output_same reading file index marks s early_index x y ∙ output_left reading file marks early_layout s z x y
