-- The examples, with ticks of 100 ms.
use Rattle.std.specs.Prelude.{ℕ, ◌≡◌, refl, true, false, List, [], ◌∷◌, map}
use Rattle.streams.specs.Answer.{Answer, gives, refused}
use Rattle.ticks.specs.Conversion.{ticks_of}

-- What a time gives rounded down, and rounded up.
pub record Example : Type 0 where
  pub time : ℕ
  pub down : Answer ℕ
  pub up : Answer ℕ

-- 250 gives 2 or 3; 300 gives 3; 0 gives 0; 100,001 gives 1,000 down and is refused up.
abbrev pub examples : List Example
examples =
    record { time = 250; down = gives 2; up = gives 3 }
    ∷ record { time = 300; down = gives 3; up = gives 3 }
    ∷ record { time = 0; down = gives 0; up = gives 0 }
    ∷ record { time = 100001; down = gives 1000; up = refused 19 }
    ∷ []

-- The conversion gives what each example says.
pub examples_hold :
    map (λ e. record { time = e.time; down = ticks_of e.time 100 false; up = ticks_of e.time 100 true }) examples ≡ examples
unfolding ticks_of
examples_hold = refl
