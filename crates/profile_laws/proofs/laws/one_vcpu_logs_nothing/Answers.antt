use Rattle.profile_laws.proofs.Alone.{one-logs}
use Rattle.profile_laws.proofs.laws.one_vcpu_logs_nothing.Goals as goal

pub returns : goal.returns
returns c =
    one-logs c.covered_undisturbed_events_log_nothing.ensures c.every_order_is_sound.ensures c.justified_entries_are_printable.ensures c.one_vcpu_is_undisturbed.ensures c.steps_count_one.ensures.vcpus
