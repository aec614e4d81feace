-- The full kernel's run of a schedule, as far as its steps exist.
-- The rule: the longest front part of the schedule each of whose steps exists.
use Rattle.std.specs.Prelude.{◌≡◌, ℕ, ◌<◌, ◌≤◌, false, List, length, take, slice_index}
use Rattle.guest_input.specs.declared.image.Image.{Image}
use Rattle.guest_input.specs.declared.setup.Setup.{Setup}
use Rattle.guest_board.specs.Board.{may}
use Rattle.run_evidence.specs.Config.{Config, rules_in, full_at, IsLawfulSchedule, no_views}

-- the runs of an image by a setup; no view occurs in a full run, so any views would do
abbrev pub config_of_full_run : Image → Setup → Config
config_of_full_run image setup = record { image = image; setup = setup; views = no_views }

-- So many steps of the schedule exist, from the first on: there is no further one, or it does not exist.
pub record IsLongest (c : Config) (schedule : List ℕ) (made : ℕ) : Type 0 where
  pub within : made ≤ length schedule
  pub lawful : IsLawfulSchedule c (take made schedule)
  pub ends : made < length schedule → may (rules_in c) (full_at c schedule made) (slice_index schedule made) ≡ false
