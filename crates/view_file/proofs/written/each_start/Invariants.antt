use Rattle.std.proofs.Common.{◌≡◌, Some, map, take}
use Rattle.serde_json.specs.View.{view}
use Rattle.json_fields.specs.Fields.{each_of}
use Rattle.view_file.specs.Written.{written_start}
use Rattle.view_file.proofs.written.each_start.Given as goal

abbrev pub invariant-loop-item : goal.invariant-loop-item
invariant-loop-item l = each_of (written_start l.version) (map view (take l.item-index l.items)) ≡ Some l.found
