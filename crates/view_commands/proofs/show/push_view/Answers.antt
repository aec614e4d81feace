use Rattle.std.proofs.Common.{◌≡◌, ap, sym, ◌∙◌, length}
use Rattle.view_commands.proofs.Sizes.{base-long}
use Rattle.view_commands.proofs.show.push_view.Goals as goal

pub push_line-requires-clause-long : goal.push_line-requires-clause-long
push_line-requires-clause-long c = ap length (c.as_slice.ensures.value ∙ c.in_ok-base.ensures) ∙ base-long c.args.views.now c.args.table.now c.args.view

pub base-requires-clause-listed : goal.base-requires-clause-listed
base-requires-clause-listed c = rw c.requires.table c.requires.views.listed
