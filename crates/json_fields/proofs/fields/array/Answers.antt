use Rattle.std.proofs.Common.{Some, option_map, sym, ap, ◌∙◌}
use Rattle.json_fields.specs.Fields.{list_of}
use Rattle.json_fields.proofs.Lists.{list_of-items_view}
use Rattle.json_fields.proofs.fields.array.Goals as goal

pub returns-in-Some : goal.returns-in-Some
returns-in-Some c =
    rw c.as_slice.ensures.value (ap Some (sym (list_of-items_view _)) ∙ ap (option_map list_of) c.in-Some.ensures)
