-- What the words of a command ask for: `try IMAGE VIEWS APP STEPS LOG`, `drive IMAGE SETUP VIEWS SCRIPT TRACE LOG`.
-- The forms are this project's own: APP is a name of an app, STEPS a decimal number of 1 to 16,777,216.
use Rattle.std.specs.Prelude.{◌≡◌, ℕ, ◌≤◌, true, List, [], ◌∷◌, codes, decimal}
use Rattle.fc_numbers.specs.Names.{is_app_name}
use Rattle.guest_input.specs.declared.limits.TheConstants.{STEPS_MOST}
use Rattle.guest_input.specs.declared.setup.Setup.{Setup}
use Rattle.facechange_cli.specs.Setups.{setup_for}
use Rattle.facechange_cli.specs.declared.words.Command.{Command}
use Rattle.listing_commands.specs.Words.{IsListForm, IsSurfaceForm}
use Rattle.bench_command.specs.Bench.{IsBenchForm}
use Rattle.replay_command.specs.Replay.{IsReplayForm}
use Rattle.view_commands.specs.Words.{IsProfileForm, IsMergeForm, IsShowForm}
use Rattle.facechange_cli.specs.declared.words.Command.TheVariants.{Try, Drive, Profile, Merge, Show, Replay, List as Listing, Surface, Bench}

-- the words ask for a run by this setup
pub record IsTry (words : List (List ℕ)) (asked : Setup) : Type 0 where
  pub image : List ℕ
  pub views : List ℕ
  pub app : List ℕ
  pub steps : ℕ
  pub log : List ℕ
  pub form : words ≡ codes "try" ∷ image ∷ views ∷ app ∷ decimal steps ∷ log ∷ []
  pub named : is_app_name app ≡ true
  pub some : 1 ≤ steps
  pub most : steps ≤ STEPS_MOST
  pub setup : asked ≡ setup_for app steps

-- the words ask for a run by the files of a setup and a script
pub record IsDriveForm (words : List (List ℕ)) : Type 0 where
  pub image : List ℕ
  pub setup : List ℕ
  pub views : List ℕ
  pub script : List ℕ
  pub trace : List ℕ
  pub log : List ℕ
  pub form : words ≡ codes "drive" ∷ image ∷ setup ∷ views ∷ script ∷ trace ∷ log ∷ []

-- the words are this command's form
abbrev pub IsForm : List (List ℕ) → Command → Type 0
IsForm words (Try setup) = IsTry words setup
IsForm words Drive = IsDriveForm words
IsForm words Profile = IsProfileForm words
IsForm words Merge = IsMergeForm words
IsForm words Show = IsShowForm words
IsForm words Replay = IsReplayForm words
IsForm words (Listing app) = IsListForm words app
IsForm words Surface = IsSurfaceForm words
IsForm words (Bench seed) = IsBenchForm words seed

-- the words are no listed form
abbrev pub IsNoForm : List (List ℕ) → Type 0
IsNoForm words = (command : Command) → IsForm words command → ⊥
