-- What the proofs of the join cite of one file: its tags, its layout, and the answer of the check.
use mathlib.Core.Path.{◌≡◌, refl, ap, ap₂, sym, ◌∙◌}
use mathlib.Core.Bool.{Bool, true, false}
use mathlib.Core.List.{List}
use Prim.Native.Nat.{ℕ, ◌+◌, ◌-◌, ◌*◌, ◌≤◌, ◌<◌}
use native.Mathlib.Omega.{arith}
use lib.Dec.{eqb}
use lib.ListN.{length}
use Rattle.policy.specs.File.{part, rule_size, input_count, outputs_at, output_count, clocks_at, clock_count, rule_count, rules_start, rules_end, input_tags, output_tags, rule_section}
use Rattle.policy.specs.Check.{refusal_of}
use Rattle.policy.specs.Frame.{passed, frame, section_length}
use Rattle.policy.specs.Layout.{checked_of, checked_said}
use Rattle.policy.specs.LayoutLaws.{checked_says}
use Rattle.policy.specs.Layout.{Checked}
use Rattle.policy.specs.declared.Layout.{Layout}
use Rattle.refusals.specs.Refused.{number_of}
use Rattle.refusals.specs.declared.Refusal.{Refusal}
use Rattle.std.specs.Prelude.{Ok, Err}
use Rattle.std.specs.Bool.{Decides}
use lib.Pointwise.{pointwise}
use Rattle.std.proofs.lemmas.Bool.Decides.{Decides-eqb}
use Rattle.std.proofs.lemmas.Slice.Eq.{slice_eq-Decides}
use Rattle.join.specs.Entry.{same_tags}
use Rattle.join.specs.Again.{same_tags_is}
use Rattle.join.specs.JoinBytes.{LayoutOf, clocks_for}

-- What `==` tells of two parts, of their tags.
pub same_told : (xs ys : List ℕ) (r : Bool) → r ≡ pointwise eqb xs ys → r ≡ same_tags xs ys
same_told xs ys r e = go r (same_tags xs ys) refl (slice_eq-Decides Decides-eqb xs ys r e)
  where
    go : (r t : Bool) → same_tags xs ys ≡ t → Decides r (xs ≡ ys) → r ≡ t
    go true t q d = sym ((same_tags_is xs ys).1 (d.0 refl)) ∙ q
    go false false q d = refl
    go false true q d = d.1 ((same_tags_is xs ys).0 q)

-- Where the sections of a checked file stand, by its layout.
pub record Sizes (f : List ℕ) (x : Layout) : Type 0 where
  pub inputs : x.inputs ≤ 4
  pub outputs : x.outputs ≤ 4
  pub clocks : x.clocks ≤ 4
  pub start : 0 < x.locations
  pub locations : x.locations ≤ 64
  pub rules : x.rules ≤ 256
  pub states : x.states ≤ 65536
  pub signals : clocks_for x ≡ clocks_at f
  pub ceilings : clocks_at f + 1 + 2 * x.clocks ≤ length f
  pub order : x.rules_start ≤ x.rules_end
  pub ends : x.rules_end ≤ length f
  pub section : part f x.rules_start (x.rules_end - x.rules_start) ≡ rule_section f
  pub whole : x.rules * rule_size x.clocks ≤ length (rule_section f)

pub sizes : {f : List ℕ} {x : Layout} → LayoutOf f x → Sizes f x
sizes {f} {x} g =
    let p = passed f g.passes in
    let k = p.frame in
    let n : rules_end f - rules_start f ≡ rule_count f * rule_size (clock_count f) = omega arith in
    rw g.is
    (record {
      inputs = k.inputs;
      outputs = k.outputs;
      clocks = k.clocks;
      start = k.start;
      locations = k.locations;
      rules = k.rules;
      states = p.states;
      signals = omega arith;
      ceilings = omega arith;
      order = omega arith;
      ends = omega arith;
      section = ap (part f (rules_start f)) n;
      whole = omega (arith, section_length f k);
    })

pub tags_read : {f : List ℕ} {x : Layout} → LayoutOf f x →
    (part f 1 (1 + x.inputs - 1) ≡ input_tags f) × (part f (1 + x.inputs + 1) (1 + x.inputs + 1 + x.outputs - (1 + x.inputs + 1)) ≡ output_tags f)
tags_read {f} {x} g =
    let k = frame f g.passes in
    let i : 1 + input_count f - 1 ≡ input_count f = omega arith in
    let o : 1 + input_count f + 1 + output_count f - (1 + input_count f + 1) ≡ output_count f = omega arith in
    let p : 1 + input_count f + 1 ≡ outputs_at f + 1 = omega arith in rw g.is (ap (part f 1) i, ap₂ (part f) p o)

-- What the check tells of the file, where it refuses it and where it gives the layout.
pub checks_not : (f : List ℕ) (r : Refusal) → checked_said (Err r) ≡ checked_of f → refusal_of f ≡ number_of r
checks_not f r e = sym (checked_says f).0 ∙ sym (ap (λ (d : Checked). d.refusal) e)

pub checks : (f : List ℕ) (x : Layout) → checked_said (Ok x) ≡ checked_of f → LayoutOf f x
checks f x e =
    let h : refusal_of f ≡ 0 = sym (checked_says f).0 ∙ sym (ap (λ (d : Checked). d.refusal) e) in
    record { passes = h; is = ap (λ (d : Checked). d.layout) e ∙ (checked_says f).1 h }
