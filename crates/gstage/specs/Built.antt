-- How a table keeps its value: its fields are those of the value, its entries stand as they are laid out, and it knows how
-- many pages of them come before the tables of level 0.
use Rattle.gstage.specs.declared.table.GTable.TheInside.{Inside}
use Rattle.std.specs.Prelude.{◌≡◌, ◌+◌, ◌≤◌}
use Rattle.gstage.specs.declared.table.TheConstants.{LEAF_TABLES}
use Rattle.gstage.specs.Table.{Table, IsTable, pages_of}
use Rattle.gstage.specs.Layout.{IsBuiltOf}

abbrev pub table_inside : Inside → Table
table_inside a = record { kind = a.kind; entries = a.entries.items; text = a.text.items; ram = a.ram; view = a.view }

pub record IsBuilt (a : Inside) : Type 0 where
  pub table : IsTable (table_inside a)
  pub above : a.above + LEAF_TABLES ≡ pages_of a.kind
  pub few : a.above ≤ 6
  pub laid : IsBuiltOf a.kind a.text.items a.ram a.view a.entries.items
