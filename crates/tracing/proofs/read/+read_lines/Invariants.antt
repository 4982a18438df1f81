-- The measure is the number of signals that are left.
use Rattle.std.proofs.Common.{length}
use Rattle.tracing.proofs.read.+read_lines.Given as goal

abbrev pub decreases-read_lines : goal.decreases-read_lines
decreases-read_lines l = length l.tags.now
