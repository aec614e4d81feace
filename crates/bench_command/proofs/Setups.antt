-- Setups with another number of steps.
use Rattle.std.proofs.Common.{◌≡◌, ℕ, ◌*◌, ◌≤◌, subst}
use Rattle.guest_input.specs.declared.image.Image.{Image}
use Rattle.guest_input.specs.declared.setup.Setup.{Setup}
use Rattle.guest_input.specs.declared.limits.TheConstants.{STEPS_MOST}
use Rattle.guest_input.specs.Accepted.{IsSetup, IsSetupFor}

-- an accepted setup stays so within the limit
pub with_steps : (i : Image) (s : Setup) (steps : ℕ) → IsSetupFor i s → 1 ≤ steps → s.vcpus * steps ≤ STEPS_MOST → IsSetupFor i (record s { steps = steps })
with_steps i s steps k some most = record {
  setup = record {
    some = k.setup.some;
    eight = k.setup.eight;
    ram_some = k.setup.ram_some;
    ram_most = k.setup.ram_most;
    ram_whole = k.setup.ram_whole;
    steps_some = some;
    steps_most = most;
    name_at = k.setup.name_at;
    events_most = k.setup.events_most;
    events = k.setup.events;
  };
  text = k.text;
  parts = k.parts;
}

-- what holds of an image and a setup holds of those that they are
pub carried : (P : Image → Setup → Type 0) {i j : Image} {s t : Setup} → i ≡ j → s ≡ t → P i s → P j t
carried P {i} {j} {s} {t} image setup p = subst (λ x. P x t) image (subst (λ y. P i y) setup p)
