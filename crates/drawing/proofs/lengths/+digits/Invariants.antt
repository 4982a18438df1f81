-- `drawing::lengths::digits` ends: fewer digits are left.
use Rattle.drawing.proofs.lengths.+digits.Given as goal

abbrev pub decreases-digits : goal.decreases-digits
decreases-digits l = l.n
