-- The conversion of milliseconds to ticks.
use Rattle.std.specs.Prelude.{ℕ, ◌+◌, ◌/◌, ◌%◌, ◌≡◌, Bool, true, false, cond, ltb, leb, eqb}
use Rattle.std.proofs.Common.{sym, ◌∙◌}
use Rattle.streams.specs.Answer.{Answer, gives, refused, ◌or_else◌, unless, answer}
use Rattle.ticks.specs.declared.Milliseconds.{Milliseconds}
use Rattle.ticks.specs.declared.Ticks.{Ticks}
use Rattle.ticks.specs.declared.Rounding.{Rounding}
use Rattle.ticks.specs.declared.Rounding.TheVariants.{Down, Up}

-- Of a time, a tick length and whether to round up: conversion divides by the tick length, rounding down or up as asked.
abbrev pub rounded : ℕ → ℕ → Bool → ℕ
rounded time tick false = time / tick
rounded time tick true = time / tick + cond (eqb (time % tick) 0) 0 1

-- 18: the tick length is 0. 19: the tick count is above 1,000.
unfoldable pub ticks_of : ℕ → ℕ → Bool → Answer ℕ
ticks_of time tick up =
    answer (unless (ltb 0 tick) 18 or_else unless (leb (rounded time tick up) 1000) 19) (rounded time tick up)

-- Whether to round up.
abbrev pub upwards : Rounding → Bool
upwards Down = false
upwards Up = true

-- What an answer says, in numbers of ticks.
abbrev pub conversion_said : Answer Ticks → Answer ℕ
conversion_said (gives t) = gives t.0
conversion_said (refused n) = refused n

-- The whole promise of the conversion.
pub record Converted (time tick : Milliseconds) (rounding : Rounding) (r : Answer Ticks) : Type 0 where
  pub said : conversion_said r ≡ ticks_of time.0 tick.0 (upwards rounding)

-- Two answers that say the same are the same.
pub said_one : (r s : Answer Ticks) → conversion_said r ≡ conversion_said s → r ≡ s
said_one (gives t) (gives u) e = let h : t.0 ≡ u.0 = cc in λ i. gives (record { 0 = h i })
said_one (gives t) (refused n) e = cc
said_one (refused m) (gives u) e = cc
said_one (refused m) (refused n) e = cc

-- The promise is met by one answer only.
pub converted_one :
    {time tick : Milliseconds} {rounding : Rounding} {r s : Answer Ticks} →
    Converted time tick rounding r → Converted time tick rounding s → r ≡ s
converted_one {r} {s} p q = said_one r s (p.said ∙ sym q.said)
