use Rattle.facechange_cli.proofs.Served.{accepted-run}
use Rattle.facechange_cli.proofs.laws.accepted_files_are_run.Goals as goal

pub returns : goal.returns
returns c = accepted-run c.files_are_sure.ensures
