-- Tests joined by "or", and two tests that pass alike.
use Rattle.std.specs.Prelude.{◌≡◌, refl, Bool, true, false, ◌||◌, ◌⊎◌}
use Rattle.std.proofs.Common.{sym, inl, inr}
use Rattle.std.proofs.lemmas.Bool.{false≢true}

-- If `p || q` passes, p does or q does.
pub either : (p q : Bool) → (p || q) ≡ true → (p ≡ true) ⊎ (q ≡ true)
either true q e = inl refl
either false q e = inr e

-- If p passes, `p || q` does.
pub either_first : (p q : Bool) → p ≡ true → (p || q) ≡ true
either_first true q e = refl
either_first false q e = absurd (false≢true e)

-- If q passes, `p || q` does.
pub either_second : (p q : Bool) → q ≡ true → (p || q) ≡ true
either_second true q e = refl
either_second false q e = e

-- Two tests are one if each passes where the other does.
pub same_tests : (p q : Bool) → (p ≡ true → q ≡ true) → (q ≡ true → p ≡ true) → p ≡ q
same_tests true q f g = sym (f refl)
same_tests false true f g = g refl
same_tests false false f g = refl
