-- "Trimming A and B apart and joining the results: each may be live where together they are not."
use Rattle.std.specs.Prelude.{◌≡◌, refl, List, [], ◌∷◌, ℕ, take, replicate}
use Rattle.std.proofs.Common.{ap}
use Rattle.streams.specs.Answer.{refused, gives}
use Rattle.policy.specs.Rules as Rules
use Rattle.prepare.specs.Entry.{prepare_of}
use Rattle.join.specs.Entry.{joined_out}
use Rattle.tender.specs.Demand3.{JoinMade}
use Rattle.tender.specs.Demand3Shown.{joined_is}
use Rattle.join.specs.Computing.{the_join}
use Rattle.prepare.specs.Computing.{the_file, the_check, a_step, the_marks, the_bytes}

-- The credit K is always on.
abbrev pub always_on : List ℕ
always_on =
    0x00 ∷ 0x01 ∷ 0x4B ∷ 0x00 ∷ 0x01 ∷ 0x00 ∷ 0x00 ∷ 0x02
    ∷ 0x00 ∷ 0x00 ∷ 0x00 ∷ 0x01 ∷ 0x00 ∷ 0x00 ∷ 0xFF
    ∷ 0x00 ∷ 0x00 ∷ 0x00 ∷ 0x00 ∷ 0x00 ∷ 0x00 ∷ 0x00 ∷ []

-- The credit K is always off.
abbrev pub always_off : List ℕ
always_off =
    0x00 ∷ 0x01 ∷ 0x4B ∷ 0x00 ∷ 0x01 ∷ 0x00 ∷ 0x00 ∷ 0x02
    ∷ 0x00 ∷ 0x00 ∷ 0x00 ∷ 0x01 ∷ 0x01 ∷ 0x00 ∷ 0xFF
    ∷ 0x00 ∷ 0x00 ∷ 0x00 ∷ 0x00 ∷ 0x00 ∷ 0x00 ∷ 0x00 ∷ []

-- Their join is made.
pub apart_made : JoinMade always_on always_off (take 29 (joined_out always_on always_off (replicate 29 0)))
unfolding the_file the_check the_bytes the_join Rules.rests
apart_made = record { slice = replicate 29 0; size = 29; given = refl; written = refl }

-- Wherever it is made, under reading 1: each part has its one state live, and nothing is trimmed; the join is hopeless.
pub live_apart : {f : List ℕ} → JoinMade always_on always_off f →
    (prepare_of 1 always_on (0 ∷ []) ≡ gives (record { verdict = 0; states = 1; live = 1 }))
    × (prepare_of 1 always_off (0 ∷ []) ≡ gives (record { verdict = 0; states = 1; live = 1 }))
    × (prepare_of 1 f (0 ∷ []) ≡ refused 11)
unfolding the_file the_check a_step the_marks the_bytes the_join
live_apart j = (refl, refl, ap (λ (f : List ℕ). prepare_of 1 f (0 ∷ [])) (joined_is j))
