use Rattle.std.proofs.Common.{◌≡◌, map, take, Some, option_map}
use Rattle.std.specs.List.{filter}
use Rattle.serde_json.specs.View.{view}
use Rattle.json_fields.specs.Fields.{each_of}
use Rattle.guest_image.specs.Plain.{plain_segment, is_filled}
use Rattle.guest_image.proofs.plain.read_parts.Given as goal

abbrev pub invariant-loop-item : goal.invariant-loop-item
invariant-loop-item l = option_map (filter is_filled) (each_of plain_segment (map view (take l.item-index l.items))) ≡ Some l.parts.items
