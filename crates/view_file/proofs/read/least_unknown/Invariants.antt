use Rattle.std.proofs.Common.{take}
use Rattle.function_table.specs.Groups.{is_function}
use Rattle.view_file.specs.Least.{IsLeastOf}
use Rattle.view_file.proofs.read.least_unknown.Given as goal

abbrev pub invariant-loop-at : goal.invariant-loop-at
invariant-loop-at l = IsLeastOf (is_function l.table) (take l.at-index l.starts) l.least
