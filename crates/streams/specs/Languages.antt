-- Two languages compared.
use Rattle.std.specs.Prelude.{◌++◌}
use Rattle.streams.specs.Stream.{Stream, Language}

infix 20 ◌narrows◌
-- M permits whatever L permits, and rests wherever L rests.
pub record ◌narrows◌ (L M : Language) : Type 0 where
  pub permits : (w : Stream) → L.permits w → M.permits w
  pub rests : (w : Stream) → L.rests w → M.rests w

infix 20 ◌≋◌
-- The same streams, at rest after the same ones.
abbrev pub ◌≋◌ : Language → Language → Type 0
◌≋◌ L M = (L narrows M) × (M narrows L)

-- What a permitted stream begins with is permitted.
abbrev pub Closed : Language → Type 0
Closed L = (w v : Stream) → L.permits (w ++ v) → L.permits w
