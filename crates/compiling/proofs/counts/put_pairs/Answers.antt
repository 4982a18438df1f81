use Rattle.std.proofs.Common.{◌≡◌, ◌+◌, ◌/◌, ◌%◌, ◌≤◌, ◌<◌, ◌∷◌, ◌++◌, [], List, ℕ, refl, arith, add-one, length, get_or, drop, drop-cons}
use Rattle.std.proofs.lemmas.List.{drop_all}
use Rattle.policy.specs.Bytes.{pairs_bytes}
use Rattle.texts.specs.Under.{under_start, under_on, under_all}
use Rattle.compiling.proofs.counts.put_pairs.Goals as goal

-- One ceiling more, the high byte first.
pairs_turn :
    (i : ℕ) (ceilings : List ℕ) {high low : ℕ} → i < length ceilings → high ≡ get_or ceilings i 0 / 256 → low ≡ get_or ceilings i 0 % 256 →
    pairs_bytes (drop i ceilings) ≡ (high ∷ low ∷ []) ++ pairs_bytes (drop (i + 1) ceilings)
unfolding pairs_bytes
pairs_turn i ceilings h p q = rw (p, q, add-one, drop-cons ceilings i 0)

-- After the last no byte is left.
pairs_end : (i : ℕ) (ceilings : List ℕ) → length ceilings ≤ i → pairs_bytes (drop i ceilings) ≡ []
unfolding pairs_bytes
pairs_end i ceilings h = rw drop_all refl

pub loop-ceiling-init : goal.loop-ceiling-init
loop-ceiling-init c = record { so_far = omega arith; under = under_start _ _ _ }

pub loop-ceiling-preserved : goal.loop-ceiling-preserved
loop-ceiling-preserved c =
    let l = c.loop-ceiling in
    let put = c.put_bytes-next in
    let turn = pairs_turn l.ceiling-index c.args.ceilings.now (omega arith) c.high_byte.ensures c.low_byte.ensures in
    record {
      so_far = omega (arith, put.ensures.next);
      under = under_on (omega arith) l.invariant.under turn put.ensures put.auto.text;
    }

pub returns : goal.returns
returns c =
    let l = c.loop-ceiling in
    (under_all l.invariant.under (pairs_end l.ceiling-index c.args.ceilings.now (omega arith)), omega arith)
