-- What samples of a join are computed by: to unfold this name is to unfold all that its line names.
use Rattle.pairing.specs.Join.{of, alike, agree, target, both, pair, each, cell, rows, left_at, left_below, join}
use Rattle.join.specs.Entry.{same_tags, same_signals, join_fits, joined_file, join_refusal, join_of, joined_out}

-- The answer of a join, what it writes, and the joined rules and location bytes.
unfoldable pub the_join : Unit {0}
unfolding join_of joined_out join_refusal joined_file same_signals same_tags join_fits join rows cell each pair both agree target of alike left_at left_below
the_join = tt
