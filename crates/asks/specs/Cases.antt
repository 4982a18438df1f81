-- Cases by hand, of a policy with the inputs A and B and the output R: the rules of the example in docs/WHY.md, and one that asks for its location alone.
use Rattle.std.specs.Prelude.{◌≡◌, refl, List, [], ◌∷◌, ℕ}
use Rattle.policy.specs.Rules.{Rule}
use Rattle.texts.specs.Text.{ascii, digits, decimal}
use Rattle.asks.specs.Words.{names, signals, cared, bound, bounds, location, asks}

abbrev said : Rule → List ℕ
said r = asks (ascii "AB") (ascii "R") r

-- `00 03 03 00 00 00 FF 00 01 FF FF`
pub from_on :
    said (record { source = 0; in_care = 3; in_value = 3; out_care = 0; out_value = 0; reset = 0; target = 255; bounds = record { low = 1; high = 65535 } ∷ [] })
    ≡ ascii "at location 0, A B on, clock 0 from 1 on"
unfolding asks location cared signals names bounds bound decimal digits
from_on = refl

-- `00 03 00 01 01 00 FF 00 00 00 01`
pub from_to :
    said (record { source = 0; in_care = 3; in_value = 0; out_care = 1; out_value = 1; reset = 0; target = 255; bounds = record { low = 0; high = 1 } ∷ [] })
    ≡ ascii "at location 0, R on, A B off, clock 0 from 0 to 1"
unfolding asks location cared signals names bounds bound decimal digits
from_to = refl

-- `0C 00 00 00 00 00 FF 00 00 FF FF`
pub place_alone :
    said (record { source = 12; in_care = 0; in_value = 0; out_care = 0; out_value = 0; reset = 0; target = 255; bounds = record { low = 0; high = 65535 } ∷ [] })
    ≡ ascii "at location 12"
unfolding asks location cared signals names bounds bound decimal digits
place_alone = refl
