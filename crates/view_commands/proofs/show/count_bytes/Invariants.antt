use Rattle.std.proofs.Common.{◌≡◌, ◌*◌, ◌≤◌}
use Rattle.std.specs.Prelude.{if◌then◌else◌}
use Rattle.std.specs.List.{range_with_len, sum_by}
use Rattle.fc_numbers.specs.Spans.{size_of}
use Rattle.fc_numbers.specs.declared.spans.TheConstants.{TEXT_MOST}
use Rattle.function_table.specs.Groups.{range_of}
use Rattle.view_commands.specs.Show.{has_group}
use Rattle.view_commands.proofs.show.count_bytes.Given as goal

abbrev pub invariant-loop-g : goal.invariant-loop-g
invariant-loop-g l =
    (l.bytes ≡ sum_by (λ g. if has_group l.base g then size_of (range_of l.table g) else 0) (range_with_len 0 l.g))
    × (l.bytes ≤ TEXT_MOST * l.g)
