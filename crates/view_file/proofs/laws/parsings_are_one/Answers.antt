use Rattle.view_file.proofs.Once.{parses_once}
use Rattle.view_file.proofs.laws.parsings_are_one.Goals as goal

pub returns : goal.returns
returns c = parses_once
