use Rattle.std.proofs.Common.{◌≡◌, map, take, Some}
use Rattle.serde_json.specs.View.{view}
use Rattle.json_fields.specs.Fields.{each_of}
use Rattle.guest_image.specs.Plain.{plain_named_place}
use Rattle.guest_image.proofs.plain.read_names.Given as goal

abbrev pub invariant-loop-item : goal.invariant-loop-item
invariant-loop-item l = each_of plain_named_place (map view (take l.item-index l.items)) ≡ Some l.named
