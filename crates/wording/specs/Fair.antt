-- A rule as far as its words go: its masks, its values and its target are within what is declared.
use Rattle.std.specs.Prelude.{◌≡◌, Bool, true, false, cond, ◌⊎◌, ℕ, suc, ◌+◌, ◌^◌, ◌≤◌, ◌<◌, eqb, length}
use Rattle.std.proofs.Math.Path.{refl}
use Rattle.std.proofs.Common.{ap, arith, pow_pos}
use mathlib.Core.List.{List, [], ◌∷◌}
use Rattle.std.proofs.Math.Option.{Option, none, some}
use Rattle.std.specs.Int.Bits.{bit_and}
use borrow.Author.Tests.{eqb-true}
use Rattle.policy.specs.Check.{is_capital}
use Rattle.wording.specs.Words.{Word, Line}
use Rattle.wording.specs.Names.{same, find, is, through, letters_of}
use Rattle.wording.specs.Reader.{Begun, Part, opening, more, arrow, sign, at_least, at_most, goes, gone, clears, bare, unset, turn, on_signal, on_bound, on_target, on_reset}
use Rattle.wording.specs.Reader.{Scope, signal, signal_or, condition, word_at, rule_word}
use Rattle.wording.specs.Kept.{Keeps, stops_here, goes_on, keeps_must, keeps_known, keeps_cond, keeps_numbered, keeps_through}
use Rattle.wording.specs.Masks.{bit_room, bit_within}

-- Where a word is found.
find_below : (i : ℕ) (w : Word) (vs : List Word) (k : ℕ) → find i w vs ≡ some k → k < i + length vs
unfolding find
find_below i w [] k e = absurd (let z : ◌≡◌ {A = ℕ} 0 1 = cc in omega arith)
find_below i w (v ∷ vs) k e = at (same v w) e (find_below (suc i) w vs k)
  where
    at : (t : Bool) → cond t (some i) (find (suc i) w vs) ≡ some k → (find (suc i) w vs ≡ some k → k < suc i + length vs) → k < i + suc (length vs)
    at true h rest = let s : i ≡ k = cc in omega arith
    at false h rest = omega (arith, rest h)

-- The place at which a word is found is one of the list.
pub found_below : (w : Word) (vs : List Word) (k : ℕ) → find 0 w vs ≡ some k → k < length vs
found_below w vs k e = omega (arith, find_below 0 w vs k e)

letters_length : (ts : List ℕ) → length (letters_of ts) ≡ length ts
unfolding letters_of
letters_length [] = refl
letters_length (t ∷ ts) = ap suc (letters_length ts)

signal_below : (s : Scope) (n : ℕ) → length s.letters ≡ n → length s.names ≡ n → (w : Word) (k : ℕ) → signal s w ≡ some k → k < n
unfolding signal
signal_below s n a b [] k e = absurd (let z : ◌≡◌ {A = ℕ} 0 1 = cc in omega arith)
signal_below s n a b (c ∷ cs) k e = at (is_capital c) e
  where
    at : (t : Bool) → cond t (find 0 (c ∷ cs) (letters_of s.letters)) (find 0 (c ∷ cs) s.names) ≡ some k → k < n
    at true h = omega (arith, found_below (c ∷ cs) (letters_of s.letters) k h, letters_length s.letters)
    at false h = omega (arith, found_below (c ∷ cs) s.names k h)

-- A rule as far as its words go: each value is within its mask, and each mask within its section.
pub record Fair (signals clocks locations : ℕ) (b : Begun) : Type 0 where
  pub care : b.care < 2 ^ signals
  pub value : bit_and b.value b.care ≡ b.value
  pub reset : b.reset < 2 ^ clocks
  pub target : (b.target < locations) ⊎ (b.target ≡ 255)

module _ (s : Scope) (n : ℕ) (letters : length s.letters ≡ n) (names : length s.names ≡ n) where
  abbrev FairFor : Begun → Type 0
  FairFor = Fair n (length s.clocks) (length s.places)

  signal_fair : (b : Begun) (v i : ℕ) → FairFor b → v ≤ 1 → i < n → Keeps FairFor (on_signal b v i)
  unfolding on_signal
  signal_fair b v i f h l =
      keeps_must (unset b.care i) 31 _
      (λ e.
      let free = eqb-true _ _ e in
      goes_on (record {
        care = bit_room i n b.care l f.care free;
        value = bit_within i b.value b.care v h free f.value;
        reset = f.reset;
        target = f.target;
      }))

  reset_fair : (b : Begun) (k : ℕ) → FairFor b → k < length s.clocks → Keeps FairFor (on_reset b k)
  unfolding on_reset
  reset_fair b k f l =
      keeps_must (unset b.reset k) 31 _
      (λ e.
      goes_on (record {
        care = f.care;
        value = f.value;
        reset = bit_room k (length s.clocks) b.reset l f.reset (eqb-true _ _ e);
        target = f.target;
      }))

  turn_fair : (b : Begun) (part : Part) → FairFor b → FairFor (turn part b)
  turn_fair b part f = record { care = f.care; value = f.value; reset = f.reset; target = f.target }

  or_fair : (b : Begun) (w : Word) (o : Option ℕ) → signal s w ≡ o → FairFor b → Keeps FairFor (signal_or s b w o)
  or_fair b w none e f = keeps_known (find 0 w s.clocks) _ (λ k h. goes_on (turn_fair b (sign k) f))
  or_fair b w (some i) e f = signal_fair b 1 i f (omega arith) (signal_below s n letters names w i e)

  condition_fair : (b : Begun) (w : Word) → FairFor b → Keeps FairFor (condition s b w)
  unfolding condition
  condition_fair b [] f = stops_here
  condition_fair b (c ∷ cs) f =
      keeps_cond (eqb c 33) _ _
      (keeps_known (signal s cs) _ (λ i e. signal_fair b 0 i f (omega arith) (signal_below s n letters names cs i e)))
      (or_fair b (c ∷ cs) (signal s (c ∷ cs)) refl f)

  target_fair : (b : Begun) (t : ℕ) → FairFor b → (t < length s.places) ⊎ (t ≡ 255) → FairFor (on_target b t)
  unfolding on_target
  target_fair b t f h = record { care = f.care; value = f.value; reset = f.reset; target = h }

  word_fair : (b : Begun) (part : Part) (w : Word) → FairFor b → Keeps FairFor (word_at s b part w)
  unfolding word_at on_bound
  word_fair b opening w f = keeps_cond (is "any" w) _ _ (goes_on (turn_fair b arrow f)) (condition_fair b w f)
  word_fair b more w f = keeps_cond (is "->" w) _ _ (goes_on (turn_fair b goes f)) (condition_fair b w f)
  word_fair b arrow w f = keeps_must (is "->" w) 30 _ (λ e. goes_on (turn_fair b goes f))
  word_fair b (sign k) w f =
      keeps_cond (is ">=" w) _ _ (goes_on (turn_fair b (at_least k) f)) (keeps_must (is "<=" w) 30 _ (λ e. goes_on (turn_fair b (at_most k) f)))
  word_fair b (at_least k) w f = keeps_numbered w _ (λ m. goes_on (record { care = f.care; value = f.value; reset = f.reset; target = f.target }))
  word_fair b (at_most k) w f = keeps_numbered w _ (λ m. goes_on (record { care = f.care; value = f.value; reset = f.reset; target = f.target }))
  word_fair b goes w f =
      keeps_cond (is "violation" w) _ _ (goes_on (target_fair b 255 f (◌⊎◌.inr refl)))
      (keeps_known (find 0 w s.places) _ (λ t e. goes_on (target_fair b t f (◌⊎◌.inl (found_below w s.places t e)))))
  word_fair b gone w f = keeps_must (is "reset" w) 30 _ (λ e. goes_on (turn_fair b clears f))
  word_fair b clears w f = keeps_known (find 0 w s.clocks) _ (λ k e. reset_fair b k f (found_below w s.clocks k e))

  -- Whatever words of a rule are read, the rule is fair, if there is a location.
  pub words_fair : (ws : Line) → 0 < length s.places → Keeps FairFor (through (rule_word s) (bare (length s.clocks)) ws)
  words_fair ws h =
      keeps_through (rule_word s) (λ b w f. word_fair b b.part w f) (bare (length s.clocks)) ws
      (record { care = pow_pos n; value = refl; reset = pow_pos (length s.clocks); target = ◌⊎◌.inl h })
