-- What holds of everything that an answer gives.
use Rattle.std.specs.Prelude.{◌≡◌, refl, Bool, true, false, cond, List, [], ◌∷◌, ℕ, leb}
use Rattle.std.proofs.Math.Option.{Option, none, some}
use Rattle.streams.specs.Answer.{Answer, refused, gives}
use Rattle.texts.specs.Decimal.{value_from}
use Rattle.wording.specs.Words.{Word}
use Rattle.wording.specs.Names.{is_number, ◌and_then◌, must, known, free, numbered, through}

-- P holds of what the answer gives, if it gives something.
pub data Keeps {A : Type 0} (P : A → Type 0) : Answer A → Type 0 where
  stops_here : {n : ℕ} → Keeps P (refused n)
  goes_on : {a : A} → P a → Keeps P (gives a)

-- P holds of what was given.
pub kept : {A : Type 0} {P : A → Type 0} {a : A} → Keeps P (gives a) → P a
kept (goes_on p) = p

-- What follows from P holds as well.
pub keeps_weak : {A : Type 0} {P Q : A → Type 0} → ((a : A) → P a → Q a) → {x : Answer A} → Keeps P x → Keeps Q x
keeps_weak f stops_here = stops_here
keeps_weak f (goes_on {a = a} p) = goes_on (f a p)

module _ {A : Type 0} {P : A → Type 0} where
  -- P holds after a test, if it does where the test passes.
  pub keeps_must : (t : Bool) (n : ℕ) (a : Answer A) → (t ≡ true → Keeps P a) → Keeps P (must t n a)
  keeps_must true n a k = k refl
  keeps_must false n a k = stops_here

  -- P holds after a name that must be known, if it does where the name is found.
  pub keeps_known : (o : Option ℕ) (go : ℕ → Answer A) → ((i : ℕ) → o ≡ some i → Keeps P (go i)) → Keeps P (known o go)
  keeps_known none go k = stops_here
  keeps_known (some i) go k = k i refl

  -- P holds after a name that must be free, if it does where the name is not found.
  pub keeps_free : (o : Option ℕ) (a : Answer A) → (o ≡ none → Keeps P a) → Keeps P (free o a)
  keeps_free none a k = k refl
  keeps_free (some i) a k = stops_here

  -- P holds of the answer that a test chooses, if it does of each where the test chooses it.
  pub keeps_if : (t : Bool) (a b : Answer A) → (t ≡ true → Keeps P a) → (t ≡ false → Keeps P b) → Keeps P (cond t a b)
  keeps_if true a b k l = k refl
  keeps_if false a b k l = l refl

  -- P holds of the answer that a test chooses, if it does of both.
  pub keeps_cond : (t : Bool) (a b : Answer A) → Keeps P a → Keeps P b → Keeps P (cond t a b)
  keeps_cond t a b k l = keeps_if t a b (λ e. k) (λ e. l)

  -- P holds after a number, if it does for every number.
  pub keeps_numbered : (w : Word) (go : ℕ → Answer A) → ((n : ℕ) → Keeps P (go n)) → Keeps P (numbered w go)
  unfolding numbered
  keeps_numbered w go k = keeps_must (is_number w) 30 _ (λ e. keeps_must (leb (value_from 0 w) 65535) 32 _ (λ f. k (value_from 0 w)))

-- P holds after two steps, if Q holds after the first and P after the second from there.
pub keeps_then : {A B : Type 0} {P : A → Type 0} {Q : B → Type 0} (a : Answer B) (go : B → Answer A) → Keeps Q a →
    ((b : B) → Q b → Keeps P (go b)) → Keeps P (a and_then go)
keeps_then (refused n) go stops_here k = stops_here
keeps_then (gives b) go (goes_on q) k = k b q

-- P holds after all steps, if it does before them and each step keeps it.
pub keeps_through : {S X : Type 0} {P : S → Type 0} (next : S → X → Answer S) → ((s : S) (x : X) → P s → Keeps P (next s x)) →
    (s : S) (xs : List X) → P s → Keeps P (through next s xs)
unfolding through
keeps_through next k s [] p = goes_on p
keeps_through next k s (x ∷ xs) p = keeps_then (next s x) _ (k s x p) (λ t q. keeps_through next k t xs q)
