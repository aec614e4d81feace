use Rattle.std.proofs.Common.{◌≡◌, ◌≤◌}
use Rattle.std.specs.Prelude.{count_by}
use Rattle.std.specs.List.{range_with_len}
use Rattle.code_listing.specs.Surface.{is_same_page}
use Rattle.code_listing.proofs.surface.same_pages.Given as goal

abbrev pub invariant-loop-n : goal.invariant-loop-n
invariant-loop-n l = record {
  count : l.total ≡ count_by (is_same_page l.halves l.other) (range_with_len 0 l.n);
  most : l.total ≤ l.n;
}
