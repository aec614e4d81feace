use Rattle.std.proofs.Common.{length}
use Rattle.function_table.proofs.halves.+begins_range.Given as goal

abbrev pub decreases-begins_range : goal.decreases-begins_range
decreases-begins_range l = length l.text.now
