use Rattle.facechange_cli.proofs.Served.{accepted}
use Rattle.facechange_cli.proofs.laws.accepted_files_are_served.Goals as goal

pub returns : goal.returns
returns c = accepted c.files_are_sure.ensures
