use Rattle.profile_laws.proofs.Alone.{robin-logs}
use Rattle.profile_laws.proofs.laws.round_robin_logs_nothing.Goals as goal

pub returns : goal.returns
returns c = robin-logs c.covered_undisturbed_events_log_nothing.ensures c.every_order_is_sound.ensures c.justified_entries_are_printable.ensures
