use Rattle.std.proofs.Common.{◌≡◌}
use Rattle.std.specs.Prelude.{take}
use Rattle.guest_input.specs.Accepted.{offsets_of, starts_of}
use Rattle.function_table.proofs.table.offsets.Given as goal

abbrev pub invariant-loop-function : goal.invariant-loop-function
invariant-loop-function l = l.offsets.items ≡ offsets_of l.text (starts_of (take l.function-index l.functions))
