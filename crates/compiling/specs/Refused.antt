-- The refusals of a text.
use Rattle.refusals.specs.declared.Refusal.{Refusal}
use Rattle.compiling.specs.declared.refused.LineRefusal.{LineRefusal}

-- A refusal of the policy as a whole.
abbrev pub as_whole : Refusal → LineRefusal
as_whole r = record { refusal = r; line = 0 }
