use Rattle.std.proofs.Common.{◌≡◌, ℕ, ◌*◌, ◌<◌, false}
use Rattle.std.specs.Prelude.{◌&&◌, if◌then◌else◌, nat_lt, slice_index, slice_index_or}
use Rattle.fc_numbers.specs.Spans.{text_size}
use Rattle.function_table.specs.Groups.{group_in}
use Rattle.view_store.specs.declared.pages.TheConstants.{KEEP}
use Rattle.view_store.proofs.pages.mark_kept.Given as goal

abbrev pub invariant-loop-g : goal.invariant-loop-g
invariant-loop-g l = (n : ℕ) → 2 * n < text_size l.table.text → slice_index l.marks n
    ≡ (if slice_index_or l.kept (group_in l.table.starts (2 * n)) false && nat_lt (group_in l.table.starts (2 * n)) l.g then KEEP else slice_index l.fn.marks n)
