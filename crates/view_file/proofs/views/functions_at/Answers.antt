use Rattle.std.proofs.Common.{◌∙◌}
use Rattle.view_file.proofs.Bases.{functions_of-at}
use Rattle.view_file.proofs.views.functions_at.Goals as goal

pub returns : goal.returns
returns c = c.as_slice.ensures ∙ functions_of-at c.args.apps.now c.args.at c.index-apps-at.result c.requires
