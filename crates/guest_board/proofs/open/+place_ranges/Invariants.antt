use Rattle.std.proofs.Common.{length}
use Rattle.guest_board.proofs.open.+place_ranges.Given as goal

abbrev pub decreases-place_ranges : goal.decreases-place_ranges
decreases-place_ranges l = length l.spans.now
