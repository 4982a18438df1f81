-- Of a file longer than the longest policy the first 5,974 + 1 bytes decide by what it is refused.
-- In order: bytes and sections that stand in the front; the sections one by one, each where nothing before it is refused; bytes left over; the whole
-- check.
use Rattle.std.specs.Prelude.{◌≡◌, Bool, ◌&&◌, List, ◌++◌, length, drop}
use Rattle.std.proofs.Math.Path.{refl}
use Rattle.std.proofs.Common.{ap, ◌∙◌, le_refl, arith, length-drop}
use Rattle.std.proofs.Math.Bool.{true, false, and-eq-true_iff}
use Prim.Native.Nat.{ℕ, zero, suc, ◌+◌, ◌*◌, ◌≤◌, ◌<◌}
use Rattle.std.proofs.Math.Nat.{mul-le-mul}
use Rattle.std.proofs.Math.Dec.{leb}
use Rattle.std.proofs.Math.ListN.{length-append, get_or-append}
use Rattle.std.proofs.lemmas.List.{take-append-le, drop-append-le}
use borrow.Author.Tests.{leb-true, le-leb, lt-leb}
use Rattle.streams.specs.Answer.{◌or_else◌, unless}
use Rattle.policy.specs.File.{byte_at, pair_at, part, pairs_from, rule_size, input_count, outputs_at, output_count, clocks_at, clock_count, locations_at, location_count, rules_at, rule_count, rules_start, rules_end, input_tags, ceilings_of}
use Rattle.policy.specs.Check.{section_refusal, inputs_refusal, outputs_refusal, clocks_refusal, locations_refusal, rules_section_refusal, refusal_of}
use Rattle.policy.specs.Frame.{section, section_fits}

module _ (front rest : List ℕ) where
  -- A two-byte number that stands in the front is the same in the whole.
  pub pair_front : (at : ℕ) → at + 1 < length front → pair_at (front ++ rest) at ≡ pair_at front at
  pair_front at h = rw (get_or-append front rest 0 at (omega arith), get_or-append front rest 0 (at + 1) h)

  -- Bytes that stand in the front are the same in the whole.
  pub part_front : (at n : ℕ) → at + n ≤ length front → part (front ++ rest) at n ≡ part front at n
  part_front at n h =
      let l : n ≤ length (drop at front) = simp length-drop (omega arith) in
      rw (drop-append-le at front rest (omega arith), take-append-le n (drop at front) rest l)

-- The first refusals are the same, and where they give none so are the next.
else_same : {a b c d : ℕ} → a ≡ c → (c ≡ 0 → b ≡ d) → (a or_else b) ≡ (c or_else d)
else_same {a} {b} {c} {d} e h = ap (λ (n : ℕ). n or_else b) e ∙ go c h
  where
    go : (n : ℕ) → (n ≡ 0 → b ≡ d) → (n or_else b) ≡ (n or_else d)
    go zero h = h refl
    go (suc n) h = refl

module _ (front rest : List ℕ) (long : 5975 ≤ length front) where
  abbrev whole : List ℕ
  whole = front ++ rest

  byte_front : (at : ℕ) → at < 5975 → byte_at whole at ≡ byte_at front at
  byte_front at h = get_or-append front rest 0 at (omega arith)

  pairs_front : (at n : ℕ) → at + n * 2 ≤ length front → pairs_from whole at n ≡ pairs_from front at n
  unfolding pairs_from
  pairs_front at zero h = refl
  pairs_front at (suc n) h = rw (pair_front front rest at (omega arith), pairs_front (at + 2) n (omega arith))

  -- A section that cannot end behind the front.
  section_front : (at width n low high size : ℕ) → at + width + high * size ≤ length front →
      section_refusal whole at width n low high size ≡ section_refusal front at width n low high size
  unfolding section_refusal
  section_front at width n low high size h =
      let m = length-append front rest in
      rw (le-leb (at + width) (length whole) (omega arith), le-leb (at + width) (length front) (omega arith)) (go (leb low n && leb n high) refl)
    where
      go : (t : Bool) → (leb low n && leb n high) ≡ t →
          (unless (leb low n && leb n high) 2 or_else unless (leb (at + width + n * size) (length whole)) 1)
          ≡ (unless (leb low n && leb n high) 2 or_else unless (leb (at + width + n * size) (length front)) 1)
      go false e = rw e
      go true e =
          let few = mul-le-mul (leb-true n high ((and-eq-true_iff (leb low n) _).0 e).1) (le_refl size) in
          let m = length-append front rest in
          rw (e, le-leb (at + width + n * size) (length whole) (omega arith), le-leb (at + width + n * size) (length front) (omega arith))

  -- Section by section: where nothing before it is refused, a section stands in the front.
  inputs_front : inputs_refusal whole ≡ inputs_refusal front
  unfolding inputs_refusal
  inputs_front =
      let n = input_count front in
      rw (byte_front 0 (omega arith))
      (else_same (section_front 0 1 n 0 4 1 (omega arith)) (λ z. rw (part_front front rest 1 n (omega (arith, section_fits front 0 1 n 0 4 1 z)))))

  outputs-at : outputs_at whole ≡ outputs_at front
  unfolding outputs_at
  outputs-at = rw (byte_front 0 (omega arith))

  module _ (none_inputs : inputs_refusal front ≡ 0) where
    inputs_few : (input_count front ≤ 4) × (outputs_at front ≤ 5)
    unfolding inputs_refusal outputs_at
    inputs_few = let k = section front 0 1 (input_count front) 0 4 1 _ none_inputs in (k.0.1, omega (arith, k.0.1))

    input-tags : input_tags whole ≡ input_tags front
    input-tags = rw (byte_front 0 (omega arith)) (part_front front rest 1 (input_count front) (omega (arith, inputs_few)))

    output-count : output_count whole ≡ output_count front
    output-count = rw outputs-at (byte_front (outputs_at front) (omega (arith, inputs_few)))

    outputs_front : outputs_refusal whole ≡ outputs_refusal front
    unfolding outputs_refusal
    outputs_front =
        let n = output_count front in
        let at = outputs_at front in
        rw (input-tags, outputs-at, byte_front at (omega (arith, inputs_few)))
        (else_same (section_front at 1 n 0 4 1 (omega (arith, inputs_few))) (λ z. rw (part_front front rest (at + 1) n (omega (arith, inputs_few, section_fits front at 1 n 0 4 1 z)))))

    clocks-at : clocks_at whole ≡ clocks_at front
    unfolding clocks_at
    clocks-at = rw (outputs-at, byte_front (outputs_at front) (omega (arith, inputs_few)))

    module _ (none_outputs : outputs_refusal front ≡ 0) where
      outputs_few : clocks_at front ≤ 10
      unfolding outputs_refusal clocks_at
      outputs_few = let k = section front (outputs_at front) 1 (output_count front) 0 4 1 _ none_outputs in omega (arith, inputs_few, k.0.1)

      clocks_front : clocks_refusal whole ≡ clocks_refusal front
      unfolding clocks_refusal
      clocks_front =
          let n = clock_count front in
          let at = clocks_at front in
          rw (clocks-at, byte_front at (omega (arith, outputs_few)))
          (else_same (section_front at 1 n 0 4 2 (omega (arith, outputs_few))) (λ z. rw (pairs_front (at + 1) n (omega (arith, outputs_few, section_fits front at 1 n 0 4 2 z)))))

      locations-at : locations_at whole ≡ locations_at front
      unfolding locations_at
      locations-at = rw (clocks-at, byte_front (clocks_at front) (omega (arith, outputs_few)))

      module _ (none_clocks : clocks_refusal front ≡ 0) where
        clocks_few : (clock_count front ≤ 4) × (locations_at front ≤ 19)
        unfolding clocks_refusal locations_at
        clocks_few =
            let k = section front (clocks_at front) 1 (clock_count front) 0 4 2 _ none_clocks in (k.0.1, omega (arith, outputs_few, k.0.1))

        clock-count : clock_count whole ≡ clock_count front
        clock-count = rw clocks-at (byte_front (clocks_at front) (omega (arith, outputs_few)))

        ceilings : ceilings_of whole ≡ ceilings_of front
        ceilings =
            rw (clocks-at, byte_front (clocks_at front) (omega (arith, outputs_few)))
            (pairs_front (clocks_at front + 1) (clock_count front) (omega (arith, outputs_few, clocks_few)))

        locations_front : locations_refusal whole ≡ locations_refusal front
        unfolding locations_refusal
        locations_front =
            let n = location_count front in
            let at = locations_at front in
            rw (locations-at, byte_front at (omega (arith, clocks_few)))
            (else_same (section_front at 1 n 1 64 1 (omega (arith, clocks_few))) (λ z. rw (part_front front rest (at + 1) n (omega (arith, clocks_few, section_fits front at 1 n 1 64 1 z)))))

        location-count : location_count whole ≡ location_count front
        location-count = rw locations-at (byte_front (locations_at front) (omega (arith, clocks_few)))

        rules-at : rules_at whole ≡ rules_at front
        unfolding rules_at
        rules-at = rw (locations-at, byte_front (locations_at front) (omega (arith, clocks_few)))

        module _ (none_locations : locations_refusal front ≡ 0) where
          locations_few : rules_at front ≤ 84
          unfolding locations_refusal rules_at
          locations_few = let k = section front (locations_at front) 1 (location_count front) 1 64 1 _ none_locations in omega (arith, clocks_few, k.0.1)

          rule-count : rule_count whole ≡ rule_count front
          rule-count = rw rules-at (pair_front front rest (rules_at front) (omega (arith, locations_few)))

          rules-start : rules_start whole ≡ rules_start front
          unfolding rules_start
          rules-start = rw rules-at

          rules-end : rules_end whole ≡ rules_end front
          unfolding rules_end
          rules-end = rw (rules-start, rule-count, clock-count)

          rules_few : rule_count front ≤ 256 → rules_start front + rule_count front * rule_size (clock_count front) ≤ 5974
          unfolding rules_start
          rules_few h =
              let s : rule_size (clock_count front) ≤ 23 = omega (arith, clocks_few) in
              omega (arith, locations_few, mul-le-mul h s)

          rules_front : rules_section_refusal whole ≡ rules_section_refusal front
          unfolding rules_section_refusal
          rules_front =
              let n = rule_count front in
              let size = rule_size (clock_count front) in
              rw (byte_front 0 (omega arith), output-count, ceilings, location-count, rule-count, clock-count, rules-at, rules-start)
              (else_same (section_front (rules_at front) 2 n 0 256 size (omega (arith, locations_few, clocks_few)))
              (λ z. rw (part_front front rest (rules_start front) (n * size) (omega (arith, rules_few (section_fits front (rules_at front) 2 n 0 256 size z).1)))))

          -- Bytes are left over in both.
          left_over : rules_section_refusal front ≡ 0 → (b d : ℕ) →
              (unless (leb (length whole) (rules_end whole)) 8 or_else b) ≡ (unless (leb (length front) (rules_end front)) 8 or_else d)
          unfolding rules_section_refusal rules_end
          left_over z b d =
              let k = section front (rules_at front) 2 (rule_count front) 0 256 (rule_size (clock_count front)) _ z in
              let few = rules_few k.0.1 in
              let m = length-append front rest in
              let e = rules-end in
              rw (lt-leb (length whole) (rules_end whole) (omega arith), lt-leb (length front) (rules_end front) (omega arith))

  -- A file is refused by the number that any front of it with at least 5,975 bytes is refused by.
  pub refusal_front : refusal_of whole ≡ refusal_of front
  unfolding refusal_of
  refusal_front =
      else_same inputs_front (λ a. else_same (outputs_front a) (λ b. else_same (clocks_front a b) (λ c.
      else_same (locations_front a b c) (λ d. else_same (rules_front a b c d) (λ e. left_over a b c d e _ _)))))
