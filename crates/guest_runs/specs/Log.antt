-- The text of a log: the line of each entry, with the name of the app whose view the entry is of.
use Rattle.std.specs.Prelude.{◌≡◌, ℕ, ◌-◌, ◌<◌, ◌==◌, if◌then◌else◌, true, Option, Some, None, List, [], slice_get, All}
use Rattle.std.specs.List.{flat_map}
use Rattle.guest_input.specs.declared.image.Image.{Image}
use Rattle.function_table.specs.Groups.{Groups, groups_count, in_groups_text}
use Rattle.view_file.specs.declared.views.App.{App}
use Rattle.view_file.specs.declared.views.Views.{Views}
use Rattle.chain_log.specs.declared.entry.LogEntry.{LogEntry}
use Rattle.chain_log.specs.Line.{line_of}
use Rattle.run_evidence.specs.Config.{Config, IsConfig, image_groups}
use Rattle.run_evidence.specs.Evidence.{AllJustified}

abbrev pub name_of_app : Option App → List ℕ
name_of_app None = []
name_of_app (Some app) = app.name

-- the name of the app whose view this is; none for the full view
abbrev pub app_name_of_view : Views → ℕ → List ℕ
app_name_of_view views view = if view == 0 then [] else name_of_app (slice_get views.apps (view - 1))

-- the places of the entry are in text, and its group is one of the text's
pub record IsPrintable (t : Groups) (e : LogEntry) : Type 0 where
  pub group : e.group < groups_count t
  pub pc : in_groups_text t e.pc ≡ true
  pub chain : All (λ place. in_groups_text t place ≡ true) e.chain.items

-- the lines of a log
abbrev pub log_text : Image → Views → List LogEntry → List ℕ
log_text image views entries = flat_map (λ e. line_of image (app_name_of_view views e.view) e) entries

-- the entries of a log that are justified in a run can be printed
abbrev pub JustifiedEntriesArePrintable : Type 0
JustifiedEntriesArePrintable = (c : Config) → IsConfig c → (schedule : List ℕ) (log : List LogEntry) → AllJustified c schedule log → All (IsPrintable (image_groups c)) log
