-- Two policies cleaned by hand: all three kinds, and a rule that one reading strikes and the other does not. By computation.
use Rattle.std.specs.Prelude.{◌≡◌, refl, List, [], ◌∷◌, ℕ}
use Rattle.policy.specs.Number.{states_of}
use Rattle.stepping.specs.Code.{decider}
use Rattle.usage.specs.Flags.{flags, decides_some, somewhere, entered, used, entered_flags, used_flags}
use Rattle.cleaning.specs.Entry.{cleaned_of, struck_of, cleaned_file, struck_list}
use Rattle.prepare.specs.Computing.{the_file, a_step, the_marks, the_bytes}

-- Location 0 leads to 2 and back, unless R is on in 2. No stream leads to 1: the second rule comes too late. 2 must be left.
abbrev pub Doors : List ℕ
Doors =
    0x01 ∷ 0x41 ∷ 0x01 ∷ 0x52 ∷ 0x00 ∷ 0x03 ∷ 0x00 ∷ 0x00 ∷ 0x01 ∷ 0x00 ∷ 0x05
    ∷ 0x00 ∷ 0x00 ∷ 0x00 ∷ 0x00 ∷ 0x00 ∷ 0x00 ∷ 0x02
    ∷ 0x00 ∷ 0x01 ∷ 0x01 ∷ 0x00 ∷ 0x00 ∷ 0x00 ∷ 0x01
    ∷ 0x01 ∷ 0x00 ∷ 0x00 ∷ 0x00 ∷ 0x00 ∷ 0x00 ∷ 0x00
    ∷ 0x02 ∷ 0x00 ∷ 0x00 ∷ 0x01 ∷ 0x01 ∷ 0x00 ∷ 0xFF
    ∷ 0x02 ∷ 0x00 ∷ 0x00 ∷ 0x00 ∷ 0x00 ∷ 0x00 ∷ 0x00 ∷ []

-- Location 1 went, and with it rule 2; rule 1 decides nothing. What was location 2 is 1 now, with its byte.
pub doors_list : struck_list 1 Doors ≡ 0x01 ∷ 0x00 ∷ 0x01 ∷ 0x03 ∷ 0x00 ∷ 0x01 ∷ 0x02 ∷ 0x00 ∷ 0x02 ∷ []
unfolding the_file a_step the_marks struck_list struck_of cleaned_of entered_flags used_flags flags entered used somewhere decides_some decider states_of
doors_list = refl

-- The cleaned file has two locations and three rules, and the targets are renumbered.
pub doors_cleaned :
    cleaned_file 1 Doors
    ≡ 0x01 ∷ 0x41 ∷ 0x01 ∷ 0x52 ∷ 0x00 ∷ 0x02 ∷ 0x00 ∷ 0x01 ∷ 0x00 ∷ 0x03
    ∷ 0x00 ∷ 0x00 ∷ 0x00 ∷ 0x00 ∷ 0x00 ∷ 0x00 ∷ 0x01
    ∷ 0x01 ∷ 0x00 ∷ 0x00 ∷ 0x01 ∷ 0x01 ∷ 0x00 ∷ 0xFF
    ∷ 0x01 ∷ 0x00 ∷ 0x00 ∷ 0x00 ∷ 0x00 ∷ 0x00 ∷ 0x00 ∷ []
unfolding the_file a_step the_marks the_bytes cleaned_file cleaned_of entered_flags used_flags flags entered used somewhere decides_some decider states_of
doors_cleaned = refl

-- "The caller names the reading for all that follows": the first rule asks for the clock at 0, which reading 2 never sees.
abbrev pub Early : List ℕ
Early =
    0x01 ∷ 0x41 ∷ 0x00 ∷ 0x01 ∷ 0x00 ∷ 0x02 ∷ 0x01 ∷ 0x00 ∷ 0x00 ∷ 0x02
    ∷ 0x00 ∷ 0x00 ∷ 0x00 ∷ 0x00 ∷ 0x00 ∷ 0x00 ∷ 0x00 ∷ 0x00 ∷ 0x00 ∷ 0x00 ∷ 0x00
    ∷ 0x00 ∷ 0x00 ∷ 0x00 ∷ 0x00 ∷ 0x00 ∷ 0x01 ∷ 0x00 ∷ 0x00 ∷ 0x00 ∷ 0xFF ∷ 0xFF ∷ []

-- Reading 1 strikes nothing, and reading 2 strikes the first rule.
pub early_lists : (struck_list 1 Early ≡ []) × (struck_list 2 Early ≡ 0x03 ∷ 0x00 ∷ 0x00 ∷ [])
unfolding the_file a_step the_marks struck_list struck_of cleaned_of entered_flags used_flags flags entered used somewhere decides_some decider states_of
early_lists = (refl, refl)
