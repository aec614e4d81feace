use Rattle.fc_numbers.proofs.TextLaws.{offset_rises}
use Rattle.fc_numbers.proofs.laws.offsets_rise.Goals as goal

pub returns : goal.returns
returns c = offset_rises
