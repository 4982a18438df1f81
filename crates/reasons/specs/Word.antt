-- An answer as one number, and that the reasons come back from it.
use Rattle.std.specs.Prelude.{◌≡◌, ℕ, ◌+◌, ◌*◌, ◌/◌, ◌%◌, ◌<◌}
use Rattle.std.proofs.Common.{arith}
use Rattle.streams.specs.Answer.{Answer, refused, gives}
use Rattle.explaining.specs.Reasons.{Reason, kept, rule, unmatched, ticks, rests, kind_of, count_of}
use Rattle.explaining.specs.EachHalf.{Reasons}
use Rattle.reasons.specs.Promise.{SmallReasons}

-- The input's kind from bit 8 on and its number from bit 16 on, the output's kind from bit 32 on and its number from bit 40 on.
abbrev pub reasons_word : Reasons → ℕ
reasons_word r = kind_of r.input * 256 + count_of r.input * 65536 + kind_of r.output * 4294967296 + count_of r.output * 1099511627776

-- The whole answer as one number: the refusal, or the word of the reasons.
abbrev pub why_word : Answer Reasons → ℕ
why_word (refused n) = n
why_word (gives r) = reasons_word r

-- As the header's macros read it: no field reaches into the next.
pub record WhyFields (r : Reasons) (w : ℕ) : Type 0 where
  pub none : w % 256 ≡ 0
  pub input_kind : w / 256 % 256 ≡ kind_of r.input
  pub input_number : w / 65536 % 65536 ≡ count_of r.input
  pub output_kind : w / 4294967296 % 256 ≡ kind_of r.output
  pub output_number : w / 1099511627776 ≡ count_of r.output

-- A kind is a number below 5.
pub kind_few : (r : Reason) → kind_of r < 5
kind_few kept = omega arith
kind_few (rule i) = omega arith
kind_few unmatched = omega arith
kind_few (ticks k) = omega arith
kind_few (rests k) = omega arith

-- The header's macros read the two kinds and the two numbers back from the word.
pub why_fields : (r : Reasons) → SmallReasons (gives r) → WhyFields r (why_word (gives r))
why_fields r h =
    let i = kind_few r.input in
    let o = kind_few r.output in
    record { none = omega arith; input_kind = omega arith; input_number = omega arith; output_kind = omega arith; output_number = omega arith }
