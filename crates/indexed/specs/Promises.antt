-- The whole promise of each half, under one name: one answer alone meets it, and with the file's index it is the present half's.
use Rattle.std.specs.Prelude.{◌≡◌, refl, List, ◌↔◌, ℕ}
use Rattle.std.proofs.Common.{sym, ◌∙◌}
use Rattle.streams.specs.Answer.{Answer}
use Rattle.index.specs.Index.{index_of}
use Rattle.enforcer.specs.Promises.{InputPromise, OutputPromise}
use Rattle.enforcer.specs.Entries.{OutputAnswer}
use Rattle.stepping.specs.declared.state.State.{State}
use Rattle.indexed.specs.Entries.{input_indexed_of, output_indexed_of}
use Rattle.indexed.specs.Same.{input_same, output_same}

-- The input half with an index answers what Entries says.
pub record InputIndexedPromise (reading : ℕ) (file index marks : List ℕ) (s : State) (x : ℕ) (r : Answer ℕ) : Type 0 where
  pub said : r ≡ input_indexed_of reading file index marks s x

-- The output half with an index answers what Entries says, and hands back that state.
pub record OutputIndexedPromise (reading : ℕ) (file index marks : List ℕ) (s : State) (x y : ℕ) (r : OutputAnswer) : Type 0 where
  pub said : r ≡ output_indexed_of reading file index marks s x y

-- One answer alone meets the promise of the input half.
pub input_one : {reading : ℕ} {file index marks : List ℕ} {s : State} {x : ℕ} {r q : Answer ℕ} →
    InputIndexedPromise reading file index marks s x r → InputIndexedPromise reading file index marks s x q → r ≡ q
input_one h g = h.said ∙ sym g.said

-- One answer alone meets the promise of the output half.
pub output_one : {reading : ℕ} {file index marks : List ℕ} {s : State} {x y : ℕ} {r q : OutputAnswer} →
    OutputIndexedPromise reading file index marks s x y r → OutputIndexedPromise reading file index marks s x y q → r ≡ q
output_one h g = h.said ∙ sym g.said

-- With the index of the file each half promises what the present one does, and nothing else.
module _ (reading : ℕ) (file marks : List ℕ) (s : State) where
  -- With the file's index an answer meets the promise of one input half exactly if it meets that of the other.
  pub input_alike : (x : ℕ) (r : Answer ℕ) → InputIndexedPromise reading file (index_of file) marks s x r ↔ InputPromise reading file marks s x r
  input_alike x r =
      let e = input_same reading file (index_of file) marks s refl x in
      (λ h. record { said = h.said ∙ e }, λ h. record { said = h.said ∙ sym e })

  -- With the file's index an answer meets the promise of one output half exactly if it meets that of the other.
  pub output_alike : (x y : ℕ) (r : OutputAnswer) → OutputIndexedPromise reading file (index_of file) marks s x y r ↔ OutputPromise reading file marks s x y r
  output_alike x y r =
      let e = output_same reading file (index_of file) marks s refl x y in
      (λ h. record { said = h.said ∙ e }, λ h. record { said = h.said ∙ sym e })
