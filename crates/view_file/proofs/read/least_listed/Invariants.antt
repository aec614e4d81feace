use Rattle.std.proofs.Common.{take, ◌++◌}
use Rattle.std.specs.List.{flat_map}
use Rattle.function_table.specs.Groups.{is_function}
use Rattle.view_file.specs.Least.{IsLeastOf}
use Rattle.view_file.proofs.read.least_listed.Given as goal

abbrev pub invariant-loop-app : goal.invariant-loop-app
invariant-loop-app l = IsLeastOf (is_function l.table) (l.views.shared ++ flat_map (λ app. app.functions) (take l.app-index l.views.apps)) l.least
