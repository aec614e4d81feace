use Rattle.std.proofs.Common.{◌≡◌, map, take}
use Rattle.serde_json.specs.View.{view}
use Rattle.view_file.specs.Text.{app_data}
use Rattle.view_file.proofs.write.apps_value.Given as goal

abbrev pub invariant-loop-app : goal.invariant-loop-app
invariant-loop-app l = map view l.values.items ≡ map app_data (take l.app-index l.apps)
