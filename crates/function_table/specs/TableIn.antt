-- How a table keeps its groups.
use Rattle.std.specs.Arc.{arc_slice_items}
use Rattle.function_table.specs.declared.table.Table.TheInside.{Inside}
use Rattle.function_table.specs.Groups.{Groups, IsGroups}

abbrev pub groups_in : Inside → Groups
groups_in t = record { text = t.text.items; functions = arc_slice_items t.functions; starts = arc_slice_items t.starts }

abbrev pub IsGroupTable : Inside → Type 0
IsGroupTable t = IsGroups (groups_in t)
