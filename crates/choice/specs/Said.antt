-- What the chooser's answer stands for.
use Rattle.std.proofs.Math.Option as math
use Rattle.std.specs.Prelude.{ℕ, Option, Some, None}

-- The value that was chosen, or none.
abbrev pub choice_said : Option ℕ → math.Option ℕ
choice_said (Some z) = math.some z
choice_said None = math.none
