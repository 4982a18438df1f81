-- Where the tags of a policy's signals stand, as the code has it.
use Rattle.std.specs.Prelude.{◌≡◌, refl, List, ℕ, ◌+◌, ◌-◌, ◌≤◌, length, take, drop, Ok}
use Rattle.std.proofs.Common.{sym, ap, ◌∙◌, arith}
use Rattle.policy.specs.File.{part, input_count, output_count, outputs_at, input_tags, output_tags}
use Rattle.policy.specs.Check.{refusal_of}
use Rattle.policy.specs.Frame.{frame, in_order}
use Rattle.policy.specs.Layout.{checked_of, checked_said, CheckPromise}
use Rattle.policy.specs.LayoutLaws.{checked_says}
use Rattle.policy.specs.Layout.{Checked}
use Rattle.policy.specs.declared.Layout.{Layout}
use Rattle.drawing.specs.Events.{SignalsGood}
use Rattle.drawing.specs.Checked.{signals}

-- What the check found of a policy that passes it.
pub record Counted (file : List ℕ) (l : Layout) : Type 0 where
  pub passes : refusal_of file ≡ 0
  pub inputs : l.inputs ≡ input_count file
  pub outputs : l.outputs ≡ output_count file
  pub few_in : input_count file ≤ 4
  pub few_out : output_count file ≤ 4
  pub start : outputs_at file ≡ 1 + input_count file
  pub within : outputs_at file + 1 + output_count file ≤ length file

-- Where the check gives a layout, it has how many inputs and outputs there are, four of each at most.
pub counted : (file : List ℕ) (l : Layout) → checked_said (Ok l) ≡ checked_of file → Counted file l
counted file l k =
    let s = checked_says file in
    let p : refusal_of file ≡ 0 = sym s.0 ∙ sym (ap (λ (c : Checked). c.refusal) k) in
    let e = ap (λ (c : Checked). c.layout) k ∙ s.1 p in
    let f = frame file p in
    let o = in_order file f in
    record {
      passes = p;
      inputs = ap (λ (y : Layout). y.inputs) e;
      outputs = ap (λ (y : Layout). y.outputs) e;
      few_in = f.inputs;
      few_out = f.outputs;
      start = sym f.inputs_end;
      within = omega (arith, f.outputs_end);
    }

-- The refusal that the check answers is that of the file.
pub refused_as : {file : List ℕ} {r : Checked} → CheckPromise file r → r.refusal ≡ refusal_of file
refused_as {file} k = ap (λ (c : Checked). c.refusal) k.said ∙ (checked_says file).0

-- The policy passes its checks, and these are the tags of its signals.
pub record Tagged (file inputs outputs : List ℕ) : Type 0 where
  pub passes : refusal_of file ≡ 0
  pub good : SignalsGood inputs outputs
  pub inputs_are : inputs ≡ input_tags file
  pub outputs_are : outputs ≡ output_tags file

part_is : (f : List ℕ) (at n start end : ℕ) → start ≡ at → end ≡ at + n → take (end - start) (drop start f) ≡ part f at n
part_is f at n start end s e = let k : end - start ≡ n = omega arith in rw (k, s)

-- The parts of the file that are counted from the layout of the check are the tags.
pub tags_stand : {file : List ℕ} {l : Layout} → Counted file l →
    Tagged file (take (1 + l.inputs - 1) (drop 1 file)) (take (1 + l.inputs + 1 + l.outputs - (1 + l.inputs + 1)) (drop (1 + l.inputs + 1) file))
tags_stand {file} {l} c =
    let i = part_is file 1 (input_count file) 1 (1 + l.inputs) refl (omega arith) in
    let o = part_is file (outputs_at file + 1) (output_count file) (1 + l.inputs + 1) (1 + l.inputs + 1 + l.outputs) (omega arith) (omega arith) in
    record { passes = c.passes; good = rw (i, o) (signals file c.passes); inputs_are = i; outputs_are = o }
