use Rattle.std.proofs.Common.{◌≡◌, ◌<◌, ◌≤◌, ℕ, Bool, true, false, cond, refl, leb, leb-true, leb-false}
use Rattle.pointing.specs.RuleAt.{bit_blank, bit_declared, bit_rule}
use Rattle.pointing.specs.Said.{one_bit}
use Rattle.pointing.proofs.ruleat.is_rule.Goals as goal

pub returns-then-first : goal.returns-then-first
returns-then-first c = one_bit _ _ (bit_blank c.word_in-first.ensures c.if-first.true)

-- By whether the word is one of the first five.
by_number : (r : ℕ) (s : Bool) → (5 ≤ r → ◌≡◌ {A = ℕ} 1 (cond s 1 0)) → (r < 5 → ◌≡◌ {A = ℕ} 0 (cond s 1 0)) → leb 5 r ≡ s
by_number r s rule declared = go (leb 5 r) refl
  where
    go : (t : Bool) → leb 5 r ≡ t → t ≡ s
    go true e = one_bit true s (rule (leb-true 5 r e))
    go false e = one_bit false s (declared (leb-false 5 r e))

pub returns : goal.returns
returns c =
    let first = c.word_in-first.ensures in
    let word = c.keyword in
    by_number word.result _ (bit_rule first c.if-first.false word.result word.ensures) (bit_declared first c.if-first.false word.result word.ensures)
