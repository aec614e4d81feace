use Rattle.listing_commands.proofs.PrintedNames.{names_printed}
use Rattle.listing_commands.proofs.laws.accepted_names_are_printed.Goals as goal

pub returns : goal.returns
returns c = names_printed
