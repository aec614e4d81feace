use Rattle.std.proofs.Common.{ap, ◌∙◌}
use Rattle.switch_hook.specs.Hook.{app_name_of}
use Rattle.guest_board.proofs.board.read_name.Goals as goal

pub returns : goal.returns
returns c = c.app_name.ensures ∙ ap (λ n. app_name_of c.args.ram.now c.args.vcpu.now.csr n c.args.rules.now.name_at) c.get.ensures
