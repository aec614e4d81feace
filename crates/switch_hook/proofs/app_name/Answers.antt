use Rattle.std.proofs.Common.{ap, ◌∙◌}
use Rattle.switch_hook.specs.Hook.{name_at_address}
use Rattle.switch_hook.proofs.app_name.Goals as goal

pub returns : goal.returns
returns c = c.name_at_address.ensures ∙ ap (name_at_address c.args.ram.now c.args.csr.now) c.address_after.ensures
