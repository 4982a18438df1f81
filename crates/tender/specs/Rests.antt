-- "A location byte of 1 shall mean 'must be left', 0 'may rest'": small policies, byte by byte, and what is said to them, by computation
-- and under reading 1. They have no clocks.
use Rattle.std.specs.Prelude.{◌≡◌, refl, List, [], ◌∷◌, map, ℕ, zero, suc, replicate}
use Rattle.std.proofs.Math.Option.{some}
use Rattle.std.proofs.Common.{arith}
use Rattle.std.proofs.lemmas.List.{length-replicate}
use Rattle.streams.specs.Answer.{refused, gives}
use Rattle.streams.specs.Stream.{Event}
use Rattle.policy.specs.Rules.{Place, steps, unlimited, Fits, fits_none, fits_more, Runs, Dead}
use Rattle.policy.specs.Rules as Rules
use Rattle.policy.specs.File.{policy_of}
use Rattle.policy.specs.Checked.{checked_file}
use Rattle.prepare.specs.Entry.{prepare_of}
use Rattle.trimming.specs.Live.{dead_numbered}
use Rattle.join.specs.Entry.{joined_file}
use Rattle.tender.specs.Cases.{Case, prepared, enforced, summary, released, refusal, said}
use Rattle.tender.specs.Demand3.{JoinMade}
use Rattle.tender.specs.Unchanged.{EveryLength}
use Rattle.join.specs.Computing.{the_join}
use Rattle.prepare.specs.Computing.{the_file, the_check, a_step, the_marks, the_run, the_bytes}

-- A transfer: B begins it, from location 0 to location 1, which must be left. E ends it.
abbrev pub transfer : List ℕ
transfer =
    0x01 ∷ 0x42 ∷ 0x01 ∷ 0x45 ∷ 0x00 ∷ 0x02 ∷ 0x00 ∷ 0x01 ∷ 0x00 ∷ 0x04
    ∷ 0x00 ∷ 0x01 ∷ 0x01 ∷ 0x00 ∷ 0x00 ∷ 0x00 ∷ 0x01
    ∷ 0x00 ∷ 0x00 ∷ 0x00 ∷ 0x00 ∷ 0x00 ∷ 0x00 ∷ 0x00
    ∷ 0x01 ∷ 0x00 ∷ 0x00 ∷ 0x01 ∷ 0x01 ∷ 0x00 ∷ 0x00
    ∷ 0x01 ∷ 0x00 ∷ 0x00 ∷ 0x00 ∷ 0x00 ∷ 0x00 ∷ 0x01 ∷ []

-- The same without an end: from location 1 every event leads back to it. `left` is its byte.
abbrev pub endless : ℕ → List ℕ
endless left =
    0x01 ∷ 0x42 ∷ 0x01 ∷ 0x45 ∷ 0x00 ∷ 0x02 ∷ 0x00 ∷ left ∷ 0x00 ∷ 0x03
    ∷ 0x00 ∷ 0x01 ∷ 0x01 ∷ 0x00 ∷ 0x00 ∷ 0x00 ∷ 0x01
    ∷ 0x00 ∷ 0x00 ∷ 0x00 ∷ 0x00 ∷ 0x00 ∷ 0x00 ∷ 0x00
    ∷ 0x01 ∷ 0x00 ∷ 0x00 ∷ 0x00 ∷ 0x00 ∷ 0x00 ∷ 0x01 ∷ []

-- One location, and every event leads back to it. `left` is its byte.
abbrev pub alone : ℕ → List ℕ
alone left = 0x00 ∷ 0x00 ∷ 0x00 ∷ 0x01 ∷ left ∷ 0x00 ∷ 0x01 ∷ 0x00 ∷ 0x00 ∷ 0x00 ∷ 0x00 ∷ 0x00 ∷ 0x00 ∷ 0x00 ∷ []

-- Two locations, turn about. `first` and `second` are their bytes.
abbrev pub turns : ℕ → ℕ → List ℕ
turns first second =
    0x00 ∷ 0x00 ∷ 0x00 ∷ 0x02 ∷ first ∷ second ∷ 0x00 ∷ 0x02
    ∷ 0x00 ∷ 0x00 ∷ 0x00 ∷ 0x00 ∷ 0x00 ∷ 0x00 ∷ 0x01
    ∷ 0x01 ∷ 0x00 ∷ 0x00 ∷ 0x00 ∷ 0x00 ∷ 0x00 ∷ 0x00 ∷ []

-- What is asked of these policies, and what is to be said.
unfoldable pub rest_cases : List Case
rest_cases =
    -- A transfer that can be ended is let in, and its end too.
    record { reading = 1; file = transfer; asked = prepared; expected = summary 0 2 2 }
    ∷ record { reading = 1; file = transfer; asked = enforced (0x01 ∷ 0x00 ∷ 0x10 ∷ []); expected = released (0x01 ∷ 0x00 ∷ 0x10 ∷ []) }
    -- One that cannot is edited away where it begins.
    ∷ record { reading = 1; file = endless 1; asked = prepared; expected = summary 1 2 1 }
    ∷ record { reading = 1; file = endless 1; asked = enforced (0x01 ∷ 0x11 ∷ []); expected = released (0x00 ∷ 0x10 ∷ []) }
    -- With the byte 0 it is let in, as it was.
    ∷ record { reading = 1; file = endless 0; asked = prepared; expected = summary 0 2 2 }
    ∷ record { reading = 1; file = endless 0; asked = enforced (0x01 ∷ 0x11 ∷ []); expected = released (0x01 ∷ 0x11 ∷ []) }
    -- A start that must be left and cannot be is refused by 11; one that can be is live.
    ∷ record { reading = 1; file = alone 1; asked = prepared; expected = refusal 11 (0 ∷ []) }
    ∷ record { reading = 1; file = alone 0; asked = prepared; expected = summary 0 1 1 }
    ∷ record { reading = 1; file = turns 1 0; asked = prepared; expected = summary 0 2 2 }
    ∷ record { reading = 1; file = turns 1 1; asked = prepared; expected = refusal 11 (0 ∷ 0 ∷ []) }
    -- "5 now means a byte above 1."
    ∷ record { reading = 1; file = alone 2; asked = prepared; expected = refusal 5 (99 ∷ []) }
    ∷ []

-- In each case, what is said is what is expected.
pub rest-cases : map (λ c. said c.reading c.file c.asked) rest_cases ≡ map (λ c. c.expected) rest_cases
unfolding the_file the_check a_step the_marks the_run rest_cases
rest-cases = refl

-- Each of two policies rests at every other tick, the one when the other does not: live apart, they never rest together, and their join is hopeless.
pub never_together :
    (prepare_of 1 (turns 0 1) (0 ∷ 0 ∷ []) ≡ gives (record { verdict = 0; states = 2; live = 2 }))
    × (prepare_of 1 (turns 1 0) (0 ∷ 0 ∷ []) ≡ gives (record { verdict = 0; states = 2; live = 2 }))
    × (prepare_of 1 (joined_file (turns 0 1) (turns 1 0) []) (0 ∷ 0 ∷ 0 ∷ 0 ∷ []) ≡ refused 11)
unfolding the_file the_check a_step the_marks the_bytes the_join
never_together = (refl, refl, refl)

-- That join is made.
pub together_made : JoinMade (turns 0 1) (turns 1 0) (joined_file (turns 0 1) (turns 1 0) [])
unfolding the_file the_check the_bytes the_join Rules.rests
together_made = record { slice = replicate 38 0; size = 38; given = refl; written = refl }

-- The transfer that never ends, and the quiet event.
abbrev begun : Place
begun = record { location = 1; clocks = [] }

abbrev quiet : Event
quiet = record { x = 0; y = 0 }

-- Permitted streams of every length leave it, and yet it is not live: none of their events ends at rest.
pub on_and_not_live : EveryLength (Runs (policy_of 1 (endless 1)) begun) [] × Dead (policy_of 1 (endless 1)) begun
unfolding the_file the_check a_step the_marks Runs steps
on_and_not_live = (λ n. (replicate n quiet, length-replicate n quiet, (fits n, (begun, there n))), dead)
  where
    fits : (n : ℕ) → Fits (policy_of 1 (endless 1)) (replicate n quiet)
    fits zero = fits_none
    fits (suc n) = fits_more {e = quiet} (record { x = omega arith; y = omega arith }) (fits n)

    there : (n : ℕ) → steps unlimited (policy_of 1 (endless 1)) begun (replicate n quiet) ≡ some begun
    there zero = refl
    there (suc n) = there n

    dead : Dead (policy_of 1 (endless 1)) begun
    dead = (dead_numbered (policy_of 1 (endless 1)) (checked_file 1 (endless 1) refl) {n = 1} (omega arith)).0 refl
