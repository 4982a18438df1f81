-- Words of another length, and words that differ in their last byte, are not the same; else the two are compared whole.
use Rattle.std.proofs.Common.{◌≡◌, ◌-◌, ◌∙◌, ap, sym, Bool, true, false, get_or, length, refl, List, ℕ}
use Rattle.wording.specs.Names.{same}
use Rattle.wording.specs.NamesBack.{same_true}
use Rattle.words.specs.Lex.{same_is}
use Rattle.words.proofs.words.same_word.Goals as goal

differ : (v w : List ℕ) → (v ≡ w → ⊥) → false ≡ same v w
differ v w n = go (same v w) refl
  where
    go : (t : Bool) → same v w ≡ t → false ≡ same v w
    go true e = absurd (n (same_true v w e))
    go false e = sym e

pub returns-then-length-word : goal.returns-then-length-word
returns-then-length-word c = differ _ _ (λ e. c.if-length-word.true (ap (λ (v : List ℕ). length v) e))

pub returns-then-line-length : goal.returns-then-line-length
returns-then-line-length c = differ _ _ (λ e. c.if-line-length.true (ap (λ (v : List ℕ). get_or v (length c.args.line.now - 1) 0) e))

pub returns : goal.returns
returns c = c.eq.ensures ∙ same_is _ _
