use Rattle.std.proofs.Common.{length}
use Rattle.fc_numbers.proofs.spans.+in_text.Given as goal

abbrev pub decreases-in_text : goal.decreases-in_text
decreases-in_text l = length l.spans.now
