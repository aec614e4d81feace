use Rattle.std.proofs.Common.{◌≡◌}
use Rattle.std.specs.Prelude.{take}
use Rattle.guest_runs.specs.Log.{log_text}
use Rattle.guest_runs.proofs.log.log_text.Given as goal

abbrev pub invariant-loop-entry : goal.invariant-loop-entry
invariant-loop-entry l = l.text.items ≡ log_text l.image l.views (take l.entry-index l.entries)
