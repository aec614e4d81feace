-- The setup of `try`: one vCPU with a name and so many steps, the largest RAM, no hook, no events, second-stage tables of three levels.
use Rattle.std.specs.Prelude.{◌≡◌, ℕ, ◌≤◌, Some, None, List, []}
use Rattle.fc_numbers.specs.declared.machine.GKind.TheVariants.{Sv39x4}
use Rattle.fc_numbers.specs.declared.places.TheConstants.{RAM_MOST}
use Rattle.guest_input.specs.declared.limits.TheConstants.{STEPS_MOST}
use Rattle.guest_input.specs.declared.setup.Setup.{Setup}

abbrev pub setup_for : List ℕ → ℕ → Setup
setup_for app steps = record { vcpus = 1; ram = RAM_MOST; steps = steps; hook = None; name_at = 0; start = Some app; events = []; gstage = Sv39x4 }

-- the setup is one of these
pub record IsAlone (setup : Setup) : Type 0 where
  pub app : List ℕ
  pub steps : ℕ
  pub some : 1 ≤ steps
  pub most : steps ≤ STEPS_MOST
  pub is : setup ≡ setup_for app steps
