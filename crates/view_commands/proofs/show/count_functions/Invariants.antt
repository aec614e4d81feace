use Rattle.std.proofs.Common.{◌≡◌, ◌≤◌, take}
use Rattle.view_commands.specs.Show.{base_functions_count}
use Rattle.view_commands.proofs.show.count_functions.Given as goal

abbrev pub invariant-loop-function : goal.invariant-loop-function
invariant-loop-function l = (l.count ≡ base_functions_count l.table l.base (take l.function-index l.functions)) × (l.count ≤ l.function-index)
