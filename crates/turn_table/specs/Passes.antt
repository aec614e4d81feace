-- What a clause says of a table and of its passes.
use Rattle.std.specs.Prelude.{◌≡◌, None}
use Rattle.run_evidence.specs.Config.{Config}
use Rattle.turn_table.specs.declared.known.Known.{Known}
use Rattle.turn_table.specs.declared.pass.Turns.{Turns}
use Rattle.turn_table.specs.declared.pass.Pass.{Pass}
use Rattle.turn_table.specs.Steps.{opened_for}

-- the image, setup and views that the table was opened for
abbrev pub config_in : Turns → Config
config_in t = opened_for t.table.shared.key

-- what the pass knows
abbrev pub known : Pass → Known
known p = p.seat.me.0

-- it is a pass of this table
abbrev pub IsPassOf : Turns → Pass → Type 0
IsPassOf t p = p.seat.table_id ≡ t.table.shared.table_id

-- it is a pass of the same table
abbrev pub IsBeside : Pass → Pass → Type 0
IsBeside p q = q.seat.table_id ≡ p.seat.table_id

abbrev pub HoldsNothing : Pass → Type 0
HoldsNothing p = (known p).holds ≡ None
