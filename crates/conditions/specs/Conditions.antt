-- A condition's word, by what was found for it.
use Rattle.std.specs.Prelude.{◌≡◌, ℕ, ◌-◌, ◌<◌, length, get_or, take, drop}
use Rattle.std.proofs.Math.Path.{refl}
use mathlib.Core.List.{List, [], ◌∷◌}
use Rattle.std.proofs.Common.{arith, eq-eqb, ne_eqb}
use Rattle.std.proofs.Math.Seq.{take_all}
use Rattle.streams.specs.Answer.{refused}
use Rattle.wording.specs.Words.{Word}
use Rattle.wording.specs.Names.{known}
use Rattle.words.specs.Spans.{spans}
use Rattle.wording.specs.Reader.{Scope, Begun, on_signal, signal_by, signal, signal_or, condition}

-- The scope of a rule, by what the code has: tags, and spans of the text for the names of signals, clocks and locations.
abbrev pub scope_of : (text tags starts lengths : List ℕ) (clocks places : ℕ) → Scope
scope_of text tags starts lengths clocks places =
    record { letters = tags; names = spans text starts lengths 0 (length tags); clocks = spans text starts lengths 8 clocks; places = spans text starts lengths 12 places }

-- By the first byte.
module _ (d : Scope) (b : Begun) where
  -- A word of no bytes is refused with 30.
  pub condition_none : (w : Word) → length w ≡ 0 → refused 30 ≡ condition d b w
  unfolding condition
  condition_none [] h = refl
  condition_none (c ∷ cs) h = absurd (omega arith)

  -- After `!` stands a signal that must be off.
  pub condition_off : (w : Word) → 0 < length w → get_or w 0 0 ≡ 33 → known (signal_by d.letters d.names (take (length w - 1) (drop 1 w))) (on_signal b 0) ≡ condition d b w
  unfolding condition signal
  condition_off [] h e = absurd (omega arith)
  condition_off (c ∷ cs) h e = rw (eq-eqb c 33 e, take_all (length (c ∷ cs) - 1) cs (omega arith))

  -- Any other word is a signal that must be on, or else a clock.
  pub condition_on : (w : Word) → 0 < length w → (get_or w 0 0 ≡ 33 → ⊥) → signal_or d b w (signal_by d.letters d.names w) ≡ condition d b w
  unfolding condition signal
  condition_on [] h e = absurd (omega arith)
  condition_on (c ∷ cs) h e = rw (ne_eqb c 33 e)
