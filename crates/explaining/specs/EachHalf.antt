-- A reason for each half.
use Rattle.explaining.specs.Reasons.{Reason}

-- A reason for each half.
pub record Reasons : Type 0 where
  pub input : Reason
  pub output : Reason
