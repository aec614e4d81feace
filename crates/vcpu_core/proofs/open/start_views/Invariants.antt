use Rattle.std.proofs.Common.{◌≡◌}
use Rattle.guest_input.specs.declared.setup.Setup.{Setup}
use Rattle.vcpu_core.specs.First.{first_paged_views}
use Rattle.vcpu_core.proofs.open.start_views.Given as goal

abbrev pub invariant-loop-v : goal.invariant-loop-v
invariant-loop-v l = (setup : Setup) → l.views.items ≡ first_paged_views (record { image = l.image; setup = setup; views = l.profile }) l.v
