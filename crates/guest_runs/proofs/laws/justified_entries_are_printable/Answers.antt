use Rattle.guest_runs.proofs.Printed.{printed}
use Rattle.guest_runs.proofs.laws.justified_entries_are_printable.Goals as goal

pub returns : goal.returns
returns c = printed
