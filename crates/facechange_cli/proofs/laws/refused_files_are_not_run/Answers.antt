use Rattle.facechange_cli.proofs.Served.{refused-run}
use Rattle.facechange_cli.proofs.laws.refused_files_are_not_run.Goals as goal

pub returns : goal.returns
returns c = refused-run c.files_are_sure.ensures
