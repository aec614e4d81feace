use Rattle.vcpu_core.proofs.OneVcpu.{first_logs_all_misses}
use Rattle.vcpu_core.proofs.laws.without_hook_first_view_logs_all_misses.Goals as goal

pub returns : goal.returns
returns c = first_logs_all_misses
