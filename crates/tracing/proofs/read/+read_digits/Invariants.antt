-- The measure is the number of bytes that are left.
use Rattle.std.proofs.Common.{◌-◌, length}
use Rattle.tracing.proofs.read.+read_digits.Given as goal

abbrev pub decreases-read_digits : goal.decreases-read_digits
decreases-read_digits l = length l.text.now - l.at
