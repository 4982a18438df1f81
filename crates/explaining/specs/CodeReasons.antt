-- What the code's reasons say, in 02's words.
use Rattle.explaining.specs.Reasons.{kept, rule, unmatched, ticks, rests}
use Rattle.explaining.specs.Reasons as Reasons
use Rattle.explaining.specs.EachHalf as EachHalf
use Rattle.explaining.specs.declared.reason.Reason.{Reason}
use Rattle.explaining.specs.declared.reason.Reasons.{Reasons as Both}

-- What the answers say, in 02's words.
abbrev pub reason_said : Reason → Reasons.Reason
reason_said Reason.Kept = kept
reason_said (Reason.Rule i) = rule i
reason_said Reason.Unmatched = unmatched
reason_said (Reason.Ticks k) = ticks k
reason_said (Reason.Rests k) = rests k

-- The code's reasons for both halves, in the same words.
abbrev pub both_said : Both → EachHalf.Reasons
both_said r = record { input = reason_said r.input; output = reason_said r.output }
