use Rattle.view_commands.proofs.Unions.{by-fault}
use Rattle.view_commands.proofs.merge.refusal_of.Goals as goal

pub returns-in_default : goal.returns-in_default
returns-in_default c = by-fault c.args.fault c.in_default.not-NoMemory
