use Rattle.std.proofs.Common.{◌≡◌, map, take}
use Rattle.serde_json.specs.View.{view}
use Rattle.view_file.specs.Text.{start_data}
use Rattle.view_file.proofs.write.starts_value.Given as goal

abbrev pub invariant-loop-at : goal.invariant-loop-at
invariant-loop-at l = map view l.values.items ≡ map start_data (take l.at-index l.starts)
