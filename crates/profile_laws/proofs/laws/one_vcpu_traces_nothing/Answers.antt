use Rattle.profile_laws.proofs.Alone.{one-traces}
use Rattle.profile_laws.proofs.laws.one_vcpu_traces_nothing.Goals as goal

pub returns : goal.returns
returns c = one-traces c.every_order_is_sound.ensures c.one_vcpu_logs_nothing.ensures
